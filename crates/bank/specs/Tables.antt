-- Which heads fit which tracks, as rows tell it.
use Rattle.std.specs.Prelude.{◌≡◌, ℕ, ◌≤◌, Bool, List, length}
use Rattle.matching.specs.Fitting.{Fitting}
use Rattle.matching.specs.Meaning.{AsSaid}
use Rattle.matching.specs.declared.fits.Fits.{Fits}
use Rattle.rows.specs.Matches.{Tells, passed_last}
use Rattle.sheetfile.specs.Limits.{most_frames}

-- the flag says whether the match of `frames` tests is complete, for all tests and histories that the word tells of
pub record Shows {T R : Type 0} (passes : T → R → Bool) (frames word : ℕ) (flag : Bool) : Type 0 where
  pub is : (tests : List T) (history : List R) → 1 ≤ length tests → length tests ≤ most_frames → frames ≡ length tests → Tells passes tests history word → flag ≡ passed_last passes tests history

-- the answer for a signature of so many tracks: exactly these fits on these heads
abbrev pub FitsShown : ℕ → ℕ → Fitting → Fits → Type 0
FitsShown tracks heads fits = AsSaid (λ t h flag. flag ≡ fits t h) tracks heads
