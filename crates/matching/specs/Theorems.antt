-- The theorems, for every relation of fits and every number of tracks M and heads N.
use Rattle.std.specs.Prelude.{◌≡◌, ℕ, ◌^◌, ◌<◌, ◌≤◌, Bool, ◌⊎◌, List}
use Rattle.matching.specs.Count.{count}
use Rattle.matching.specs.Sets.{has}
use Rattle.matching.specs.Fitting.{Fitting, Alike}
use Rattle.matching.specs.Placings.{Places, Placeable}
use Rattle.matching.specs.Short.{Short}
use Rattle.matching.specs.Answer.{Answer, answer, Right}
use Rattle.matching.specs.Renaming.{Renames, Unmoved, SameWord}
use Rattle.matching.specs.Deficiency.{PlacesPart, most}

-- Hall: there is a placing or a short set, and never both.
pub record Hall (fits : Fitting) (M N : ℕ) : Type 0 where
  pub either : Placeable fits M N ⊎ ((s : ℕ) × (s < 2 ^ M) × Short fits M N (has s))
  pub not_both : (hs : List ℕ) (set : ℕ → Bool) → Places fits M N hs → Short fits M N set → ⊥

-- The answer is right.
abbrev pub AnswerRight : Type 0
AnswerRight = (fits : Fitting) (M N : ℕ) → Right fits M N (answer fits M N)

-- Nothing else is right.
abbrev pub AnswerOnly : Type 0
AnswerOnly = (fits : Fitting) (M N : ℕ) (a : Answer) → Right fits M N a → a ≡ answer fits M N

-- Other names for the heads leave the word and the set as they are.
abbrev pub AnswerUnmoved : Type 0
AnswerUnmoved =
    (fits fits' : Fitting) (M N : ℕ) (to from : ℕ → ℕ) → Renames M N fits fits' to from
    → Unmoved M N fits fits' × SameWord (answer fits M N) (answer fits' M N)

-- The answer depends only on the fits of tracks below M on heads below N.
abbrev pub AnswerLocal : Type 0
AnswerLocal = (fits fits' : Fitting) (M N : ℕ) → Alike M N fits fits' → answer fits M N ≡ answer fits' M N

-- König and Ore: `most` tracks can be placed at once, and no more.
pub record Most (fits : Fitting) (M N : ℕ) : Type 0 where
  pub reached : (on : ℕ → Bool) × (at : ℕ → ℕ) × PlacesPart fits M N on at × (count on M ≡ most fits M N)
  pub bound : (on : ℕ → Bool) (at : ℕ → ℕ) → PlacesPart fits M N on at → count on M ≤ most fits M N
