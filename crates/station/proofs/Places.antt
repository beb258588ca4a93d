-- Elements in their places. Assumes nothing.
use Rattle.std.proofs.Common.{◌≡◌, ℕ, zero, suc, ◌<◌, List, [], ◌∷◌, length, get_or, Some, subst, arith}
use Rattle.std.specs.List.{slice_get}
use Rattle.sheetfile.specs.Sheets.{Each}

-- what holds of each element holds of the one in a place
pub each_nth : {X : Type 0} (P : X → Type 0) (xs : List X) (p : ℕ) (x : X) → Each P xs → slice_get xs p ≡ Some x → P x
each_nth P [] p x h e = let z : ◌≡◌ {A = ℕ} 0 1 = cc in absurd (omega arith)
each_nth P (y ∷ xs) zero x h e = let same : y ≡ x = cc in subst P same h.0
each_nth P (y ∷ xs) (suc p) x h e = each_nth P xs p x h.1 e

-- lists of one length each
pub each_at : {X : Type 0} (n : ℕ) (xss : List (List X)) (t : ℕ) → Each (λ xs. length xs ≡ n) xss → t < length xss → length (get_or xss t []) ≡ n
each_at n [] t h l = absurd (omega arith)
each_at n (xs ∷ xss) zero h l = h.0
each_at n (xs ∷ xss) (suc t) h l = each_at n xss t h.1 (omega arith)
