-- A bank that agrees with a run. Runs have the newest frame first.
use Rattle.std.specs.Prelude.{◌≡◌, ℕ, ◌+◌, ◌*◌, ◌<◌, ◌≤◌, Bool, List, [], length, Some, slice_index_or}
use Rattle.std.specs.List.{slice_get}
use Rattle.rows.specs.Matches.{Tells}
use Rattle.runs.specs.Frames.{history}
use Rattle.runs.specs.Theorems.{Regular}
use Rattle.sheet.specs.declared.entry.Entry.{Entry}
use Rattle.sheetfile.specs.Limits.{most_heads, most_signatures, most_frames}
use Rattle.sheetfile.specs.Sheets.{Signature, Each}
use Rattle.bank.specs.declared.Bank.{Bank}
use Rattle.bank.specs.Words.{word_at}

-- The row of each signature, track and head tells of the track's tests on that head's readings.
pub record Agrees {T R : Type 0} (passes : T → R → Bool) (N : ℕ) (signatures : List (Signature T)) (run : List (List R)) (bank : Bank) : Type 0 where
  pub tells : (p : ℕ) (s : Signature T) → slice_get signatures p ≡ Some s → (t h : ℕ) → t < length s.tracks → h < N → Tells passes (slice_index_or s.tracks t []) (history h run) (word_at bank p t h)

-- 1 to 8 tracks, each of 1 to 64 tests, one for each frame
pub record SignatureFitted {T : Type 0} (s : Signature T) : Type 0 where
  pub regular : Regular s
  pub few_tracks : length s.tracks ≤ most_heads
  pub few_frames : s.frames ≤ most_frames

-- what a bank has rows for: at most 12 such signatures on at most 8 heads
pub record Fitted {T : Type 0} (N : ℕ) (signatures : List (Signature T)) : Type 0 where
  pub few_heads : N ≤ most_heads
  pub few_signatures : length signatures ≤ most_signatures
  pub each : Each SignatureFitted signatures

-- the store is long enough for the tests of every entry
abbrev pub Stored : {T : Type 0} → List Entry → List T → Type 0
Stored entries store = Each (λ e. e.first + e.tracks * e.frames ≤ length store) entries
