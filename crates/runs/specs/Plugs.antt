-- The same line plugged in another order.
use Rattle.std.specs.Prelude.{◌≡◌, ℕ, zero, suc, ◌<◌, List, [], ◌∷◌, length}
use Rattle.std.specs.List.{slice_get}

-- the full frame g is f with the reading of each head h at the head `to h`
pub record Moved {R : Type 0} (N : ℕ) (to : ℕ → ℕ) (f g : List R) : Type 0 where
  pub full : length f ≡ N
  pub full_there : length g ≡ N
  pub each : (h : ℕ) → h < N → slice_get g (to h) ≡ slice_get f h

-- the latest n frames of the second run are those of the first, moved; where one run has fewer, so has the other
abbrev pub Paired : {R : Type 0} → ℕ → (ℕ → ℕ) → ℕ → List (List R) → List (List R) → Type 0
Paired N to zero run other = Unit {0}
Paired N to (suc n) [] [] = Unit {0}
Paired N to (suc n) [] (g ∷ other) = ⊥
Paired N to (suc n) (f ∷ run) [] = ⊥
Paired N to (suc n) (f ∷ run) (g ∷ other) = Moved N to f g × Paired N to n run other
