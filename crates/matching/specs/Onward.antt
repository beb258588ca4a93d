-- The search for the first placing, from some track on.
use Rattle.std.specs.Prelude.{◌≡◌, ℕ, ◌+◌, ◌-◌, Bool, true, false, List, drop, None, Option, slice_index_or}
use Rattle.matching.specs.declared.fits.Fits.{Fits}
use Rattle.matching.specs.Count.{count}
use Rattle.matching.specs.Sets.{has}
use Rattle.matching.specs.Search.{first_on}
use Rattle.matching.specs.Meaning.{table}

-- The first placing of the table's tracks from t on, on the heads of the set `free`.
unfoldable pub onward : Fits → ℕ → ℕ → Option (List ℕ)
onward f t free = first_on 8 (table (drop t f.rows)) (f.tracks - t) (has free)

-- How many of the eight heads are in the set.
unfoldable pub size : ℕ → ℕ
size free = count (has free) 8

-- A set of free heads is marked only if it leaves no placing of the tracks that are then left: each track before took one of the eight heads.
pub record Honest (f : Fits) (marked : List Bool) : Type 0 where
  pub hopeless : (t free : ℕ) → t + size free ≡ 8 → slice_index_or marked free false ≡ true → onward f t free ≡ None
