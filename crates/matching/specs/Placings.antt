-- Placings, and which of two comes first.
use Rattle.std.specs.Prelude.{◌≡◌, ℕ, ◌<◌, true, ◌⊎◌, List, [], ◌∷◌, length, ◌≢◌, slice_index}
use Rattle.matching.specs.Fitting.{Fitting}

-- hs places the tracks 0 .. M - 1: the t-th head is below N and fits the track t, and no head stands twice.
pub record Places (fits : Fitting) (M N : ℕ) (hs : List ℕ) : Type 0 where
  pub all : length hs ≡ M
  pub below : (t : ℕ) → t < M → slice_index hs t < N
  pub fit : (t : ℕ) → t < M → fits t (slice_index hs t) ≡ true
  pub apart : (t u : ℕ) → t < u → u < M → slice_index hs t ≢ slice_index hs u

-- Some placing exists.
abbrev pub Placeable : Fitting → ℕ → ℕ → Type 0
Placeable fits M N = (hs : List ℕ) × Places fits M N hs

-- xs is ys, or has the smaller head at the first track where they differ.
abbrev pub NoLater : List ℕ → List ℕ → Type 0
NoLater [] ys = Unit
NoLater (x ∷ xs) [] = ⊥
NoLater (x ∷ xs) (y ∷ ys) = (x < y) ⊎ ((x ≡ y) × NoLater xs ys)

-- hs is a placing, and no placing comes before it.
pub record FirstPlacing (fits : Fitting) (M N : ℕ) (hs : List ℕ) : Type 0 where
  pub places : Places fits M N hs
  pub first : (gs : List ℕ) → Places fits M N gs → NoLater hs gs
