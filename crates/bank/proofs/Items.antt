-- Elements of lists by their places. Assumes nothing.
use Rattle.std.proofs.Common.{◌≡◌, ℕ, zero, suc, ◌<◌, List, [], ◌∷◌, map, length, Some, refl, subst, arith}
use Rattle.std.specs.List.{slice_get}
use Rattle.sheetfile.specs.Sheets.{Each}

-- there is one element at a place
pub same_item : {X : Type 0} (xs : List X) (i : ℕ) (x y : X) → slice_get xs i ≡ Some x → slice_get xs i ≡ Some y → x ≡ y
same_item xs i x y p q = cc

-- where there is an element is within the list
pub nth_below : {X : Type 0} (xs : List X) (i : ℕ) (x : X) → slice_get xs i ≡ Some x → i < length xs
nth_below [] i x e = let z : ◌≡◌ {A = ℕ} 0 1 = cc in absurd (omega arith)
nth_below (y ∷ xs) zero x e = omega arith
nth_below (y ∷ xs) (suc i) x e = omega (arith, nth_below xs i x e)

-- what holds of each element holds of the one at a place
pub each_at : {X : Type 0} (P : X → Type 0) (xs : List X) (i : ℕ) (x : X) → Each P xs → slice_get xs i ≡ Some x → P x
each_at P [] i x h e = let z : ◌≡◌ {A = ℕ} 0 1 = cc in absurd (omega arith)
each_at P (y ∷ xs) zero x h e = let q : y ≡ x = cc in subst P q h.0
each_at P (y ∷ xs) (suc i) x h e = each_at P xs i x h.1 e

-- an element of a mapped list comes from the element at its place
pub nth_map : {X Y : Type 0} (f : X → Y) (xs : List X) (i : ℕ) (y : Y) → slice_get (map f xs) i ≡ Some y → (x : X) × (slice_get xs i ≡ Some x) × (f x ≡ y)
nth_map f [] i y e = let z : ◌≡◌ {A = ℕ} 0 1 = cc in absurd (omega arith)
nth_map f (x ∷ xs) zero y e = (x, refl, (cc))
nth_map f (x ∷ xs) (suc i) y e = nth_map f xs i y e
