-- The answer to the question whether the tracks can stand on different heads.
use Rattle.std.specs.Prelude.{ℕ, ◌^◌, Bool, List, Some, None, Option}
use Rattle.matching.specs.Count.{least}
use Rattle.matching.specs.Sets.{has}
use Rattle.matching.specs.Fitting.{Fitting}
use Rattle.matching.specs.Placings.{Places, FirstPlacing}
use Rattle.matching.specs.Short.{Short, is_short_set, LeastShort}
use Rattle.matching.specs.Search.{first_placing_of}

-- Seen on these heads, in the order of the tracks; or short, with the number of a set of tracks.
pub data Answer : Type 0 where
  seen : List ℕ → Answer
  short : ℕ → Answer

-- Seen where the search found a placing; else short with the least number of a short set.
abbrev pub said : Fitting → ℕ → ℕ → Option (List ℕ) → Answer
said fits M N (Some hs) = seen hs
said fits M N None = short (least (λ s. is_short_set fits M N (has s)) (2 ^ M))

-- Seen with the first placing, if there is one; else short with the short set of least number.
unfoldable pub answer : Fitting → ℕ → ℕ → Answer
answer fits M N = said fits M N (first_placing_of fits M N)

-- The answer in words: seen with the first of all placings, and no set is short; or short with the least short set, and there is no placing.
abbrev pub Right : Fitting → ℕ → ℕ → Answer → Type 0
Right fits M N (seen hs) = FirstPlacing fits M N hs × ((set : ℕ → Bool) → Short fits M N set → ⊥)
Right fits M N (short s) = LeastShort fits M N s × ((hs : List ℕ) → Places fits M N hs → ⊥)
