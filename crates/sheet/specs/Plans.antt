-- What every plan keeps: it is the empty plan, or within all limits.
use Rattle.std.specs.Prelude.{◌≡◌, ℕ, ◌+◌, ◌*◌, ◌≤◌, ◌⊎◌, List, [], ◌∷◌, take, replicate}
use Rattle.kinds.specs.Kinds.{Coded}
use Rattle.sheetfile.specs.Limits.{most_heads, most_signatures, least_frames, most_frames}
use Rattle.sheetfile.specs.Sheets.{Each}
use Rattle.sheet.specs.declared.entry.Entry.{Entry}

-- what stands where there is no signature
abbrev pub blank : Entry
blank = record { name = 0; tracks = 0; frames = 0; first = 0 }

-- 1 to N tracks, 1 to 64 frames
pub record EntryWithin (heads : ℕ) (e : Entry) : Type 0 where
  pub some_tracks : 1 ≤ e.tracks
  pub few_tracks : e.tracks ≤ heads
  pub some_frames : least_frames ≤ e.frames
  pub few_frames : e.frames ≤ most_frames

-- the names rise strictly, from `least` on, and the tests follow one another from `first` on
abbrev pub EntriesRise : ℕ → ℕ → List Entry → Type 0
EntriesRise least first [] = Unit {0}
EntriesRise least first (e ∷ es) =
    (least ≤ e.name) × (e.first ≡ first) × EntriesRise (e.name + 1) (first + e.tracks * e.frames) es

-- all limits of a sheet
pub record Limits (code heads count : ℕ) (entries : List Entry) : Type 0 where
  pub coded : Coded code
  pub some_heads : 1 ≤ heads
  pub few_heads : heads ≤ most_heads
  pub some_entries : 1 ≤ count
  pub few_entries : count ≤ most_signatures
  pub each : Each (EntryWithin heads) (take count entries)
  pub rise : EntriesRise 0 0 (take count entries)

-- the empty plan
pub record Empty (code heads count : ℕ) (entries : List Entry) : Type 0 where
  pub no_code : code ≡ 0
  pub no_heads : heads ≡ 0
  pub no_entries : count ≡ 0
  pub all_blank : entries ≡ replicate most_signatures blank

abbrev pub Kept : ℕ → ℕ → ℕ → List Entry → Type 0
Kept code heads count entries = ∥ Empty code heads count entries ⊎ Limits code heads count entries ∥₁
