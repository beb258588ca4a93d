-- Rows after one frame more: of one track, and of the tracks of a signature.
use Rattle.std.specs.Prelude.{◌≡◌, ℕ, ◌+◌, ◌*◌, ◌<◌, ◌≤◌, Bool, List, [], ◌∷◌, length, Some, slice_index_or}
use Rattle.std.specs.List.{slice_get}
use Rattle.rows.specs.Matches.{Tells}
use Rattle.sheet.specs.declared.entry.Entry.{Entry}
use Rattle.sheet.specs.Said.{signature_said}
use Rattle.sheetfile.specs.Limits.{most_heads, most_frames}
use Rattle.bank.specs.declared.track_rows.TrackRows.{TrackRows}
use Rattle.bank.specs.declared.signature_rows.SignatureRows.{SignatureRows}
use Rattle.bank.specs.Words.{word_in, word_of}

-- whatever history the old word tells of, the new word tells of it with the reading
pub record Stepped {T R : Type 0} (passes : T → R → Bool) (tests : List T) (reading : R) (old new : ℕ) : Type 0 where
  pub tells : length tests ≤ most_frames → (history : List R) → Tells passes tests history old → Tells passes tests (reading ∷ history) new

-- the rows of a track, one for each head
pub record TrackStepped {T R : Type 0} (passes : T → R → Bool) (tests : List T) (frame : List R) (old new : TrackRows) : Type 0 where
  pub each : (h : ℕ) (x : R) → h < most_heads → slice_get frame h ≡ Some x → Stepped passes tests x (word_in old h) (word_in new h)

-- the rows of the signature that an entry says, if the store is long enough for it
pub record SignatureStepped {T R : Type 0} (passes : T → R → Bool) (store : List T) (e : Entry) (frame : List R) (old new : SignatureRows) : Type 0 where
  pub each : e.first + e.tracks * e.frames ≤ length store → (t h : ℕ) (x : R) → t < e.tracks → t < most_heads → h < most_heads → slice_get frame h ≡ Some x → Stepped passes (slice_index_or (signature_said store e).tracks t []) x (word_of old t h) (word_of new t h)
