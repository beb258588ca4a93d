-- Other names for the heads.
use Rattle.std.specs.Prelude.{◌≡◌, ℕ, ◌<◌, Bool, ◌↔◌}
use Rattle.matching.specs.Fitting.{Fitting}
use Rattle.matching.specs.Placings.{Placeable}
use Rattle.matching.specs.Short.{Short}
use Rattle.matching.specs.Answer.{Answer, seen, short}

-- `to` is a permutation of the heads below N, and `from` takes it back.
pub record Permutes (N : ℕ) (to from : ℕ → ℕ) : Type 0 where
  pub to_below : (h : ℕ) → h < N → to h < N
  pub from_below : (h : ℕ) → h < N → from h < N
  pub back : (h : ℕ) → h < N → from (to h) ≡ h
  pub forth : (h : ℕ) → h < N → to (from h) ≡ h

-- fits' is fits where each head h below N is called `to h`.
pub record Renames (M N : ℕ) (fits fits' : Fitting) (to from : ℕ → ℕ) : Type 0 where
  pub permutes : Permutes N to from
  pub same : (t h : ℕ) → t < M → h < N → fits' t (to h) ≡ fits t h

-- The same word, and the same set where it is short.
abbrev pub SameWord : Answer → Answer → Type 0
SameWord (seen hs) (seen gs) = Unit
SameWord (seen hs) (short s) = ⊥
SameWord (short s) (seen hs) = ⊥
SameWord (short s) (short r) = s ≡ r

-- Neither whether there is a placing nor which sets are short changes.
pub record Unmoved (M N : ℕ) (fits fits' : Fitting) : Type 0 where
  pub placeable : Placeable fits M N ↔ Placeable fits' M N
  pub shorts : (set : ℕ → Bool) → Short fits M N set ↔ Short fits' M N set
