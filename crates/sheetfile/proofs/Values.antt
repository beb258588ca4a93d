-- Unfolding the values of a coding, one at a time, and the bytes that they are read from. Assumes nothing.
use Rattle.std.proofs.Common.{◌≡◌, ℕ, zero, suc, ◌+◌, ◌*◌, List, [], take, drop, refl, ap, ◌∙◌, suc-mul, arith}
use Rattle.std.proofs.lemmas.List.{take-take, drop-take}
use Rattle.kinds.specs.Codings.{Coding}
use Rattle.sheetfile.specs.declared.fault.Cause.{Cause}
use Rattle.sheetfile.specs.Outcomes.{give}
use Rattle.sheetfile.specs.Values.{one_value, values_read}

module _ {T : Type 0} (cause : Cause) (k : Coding T) where
  pub values_some : (left less at : ℕ) (xs : List ℕ) → left ≡ suc less → values_read cause k left at xs ≡ one_value cause (k.reads (take k.width xs)) at (values_read cause k less (at + k.width) (drop k.width xs))
  unfolding values_read
  values_some left less at xs h = ap (λ n. values_read cause k n at xs) h

  pub values_none : (left at : ℕ) (xs : List ℕ) → left ≡ 0 → values_read cause k left at xs ≡ give []
  unfolding values_read
  values_none left at xs h = ap (λ n. values_read cause k n at xs) h

  -- values are read from their own bytes alone
  pub values_own : (m at : ℕ) (xs : List ℕ) → values_read cause k m at (take (m * k.width) xs) ≡ values_read cause k m at xs
  unfolding values_read
  values_own zero at xs = refl
  values_own (suc m) at xs =
      let w = k.width in
      let front : take w (take (suc m * w) xs) ≡ take w xs = take-take w (suc m * w) xs (omega (arith, suc-mul m w)) in
      let rest : drop w (take (suc m * w) xs) ≡ take (m * w) (drop w xs) = ap (λ n. drop w (take n xs)) (omega (arith, suc-mul m w)) ∙ drop-take w (m * w) xs in
      ap (λ ys. one_value cause (k.reads ys) at (values_read cause k m (at + w) (drop w (take (suc m * w) xs)))) front
      ∙ ap (λ ys. one_value cause (k.reads (take w xs)) at (values_read cause k m (at + w) ys)) rest
      ∙ ap (λ r. one_value cause (k.reads (take w xs)) at r) (values_own m (at + w) (drop w xs))
