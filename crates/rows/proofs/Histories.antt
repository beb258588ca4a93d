-- The laws of `passed-last`.
use Rattle.std.proofs.Common.{◌≡◌, ℕ, zero, suc, ◌<◌, ◌≤◌, Bool, false, ◌&&◌, List, [], ◌∷◌, ◌++◌, length, take, sym, refl, ap, ◌∙◌, add-one, arith}
use mathlib.Core.Bool.{and-true, and_assoc}
use Rattle.std.specs.List.{slice_get}
use Rattle.std.proofs.lemmas.List.{length_push}
use Rattle.std.proofs.lemmas.Option.{slice_get_past}
use Rattle.rows.specs.Matches.{is_some_and, passed_last}

-- what stands before a cut
pub nth_take : {X : Type 0} (n : ℕ) (xs : List X) (i : ℕ) → i < n → slice_get (take n xs) i ≡ slice_get xs i
nth_take zero xs i h = absurd (omega arith)
nth_take (suc n) [] i h = refl
nth_take (suc n) (x ∷ xs) zero h = refl
nth_take (suc n) (x ∷ xs) (suc i) h = nth_take n xs i (omega arith)

module _ {T R : Type 0} (passes : T → R → Bool) where
  -- A history shorter than the tests does not pass.
  pub passed_short : (tests : List T) (history : List R) → length history < length tests → passed_last passes tests history ≡ false
  passed_short [] history h = absurd (omega arith)
  passed_short (t ∷ ts) history h =
      ap (λ o. is_some_and (passes t) o && passed_last passes ts history) (slice_get_past history (length ts) (omega arith))

  -- Readings further back than there are tests do not count.
  pub passed_take : (tests : List T) (history : List R) (n : ℕ) → length tests ≤ n
      → passed_last passes tests (take n history) ≡ passed_last passes tests history
  passed_take [] history n h = refl
  passed_take (t ∷ ts) history n h =
      ap (λ o. is_some_and (passes t) o && passed_last passes ts (take n history)) (nth_take n history (length ts) (omega arith))
      ∙ ap (λ b. is_some_and (passes t) (slice_get history (length ts)) && b) (passed_take ts history n (omega arith))

  -- Histories with the same latest readings, as many as there are tests, pass alike.
  pub passed_same : (tests : List T) (history other : List R) → take (length tests) history ≡ take (length tests) other
      → passed_last passes tests history ≡ passed_last passes tests other
  passed_same tests history other e =
      sym (passed_take tests history (length tests) (omega arith)) ∙ ap (passed_last passes tests) e
      ∙ passed_take tests other (length tests) (omega arith)

  -- No tests but the empty row pass before any reading.
  pub passed_none : (tests : List T) → 0 < length tests → passed_last passes tests [] ≡ false
  passed_none tests h = passed_short tests [] h

  -- One test more and one reading more.
  pub passed_push : (tests : List T) (t : T) (r : R) (history : List R)
      → passed_last passes (tests ++ t ∷ []) (r ∷ history) ≡ (passed_last passes tests history && passes t r)
  passed_push [] t r history = and-true (passes t r)
  passed_push (u ∷ ts) t r history =
      let far : slice_get (r ∷ history) (length (ts ++ t ∷ [])) ≡ slice_get history (length ts) =
      ap (slice_get (r ∷ history)) (length_push ts t ∙ add-one (length ts)) in
      ap (λ o. is_some_and (passes u) o && passed_last passes (ts ++ t ∷ []) (r ∷ history)) far
      ∙ ap (λ b. is_some_and (passes u) (slice_get history (length ts)) && b) (passed_push ts t r history)
      ∙ sym (and_assoc (is_some_and (passes u) (slice_get history (length ts))) (passed_last passes ts history) (passes t r))
