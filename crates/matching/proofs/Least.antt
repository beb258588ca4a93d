-- Laws of the least number that passes a test.
use Rattle.std.proofs.Common.{◌≡◌, ℕ, zero, suc, ◌<◌, Bool, true, false, cond, refl, ap, ◌∙◌, arith}
use Rattle.std.proofs.lemmas.Bool.{cond-true, cond-false}
use Rattle.matching.specs.Count.{least}

-- s is the least number below n that passes p.
pub record Least (p : ℕ → Bool) (n s : ℕ) : Type 0 where
  pub below : s < n
  pub passes : p s ≡ true
  pub before : (r : ℕ) → r < s → p r ≡ false

pub least_is : (p : ℕ → Bool) (n s : ℕ) → s < n → p s ≡ true → Least p n (least p n)
least_is p zero s l e = absurd (omega arith)
least_is p (suc n) zero l e =
    rw (cond-true (p 0) 0 (suc (least (λ x. p (suc x)) n)) e) (record { below = omega arith; passes = e; before = λ r l. absurd (omega arith) })
least_is p (suc n) (suc s) l e = here (p 0) refl (least_is (λ x. p (suc x)) n s (omega arith) e)
  where
    here : (b : Bool) → p 0 ≡ b → Least (λ x. p (suc x)) n (least (λ x. p (suc x)) n) → Least p (suc n) (cond b 0 (suc (least (λ x. p (suc x)) n)))
    here true z h = record { below = omega arith; passes = z; before = λ r l. absurd (omega arith) }
    here false z h = record { below = omega arith; passes = h.passes; before = before }
      where
        before : (r : ℕ) → r < suc (least (λ x. p (suc x)) n) → p r ≡ false
        before zero l = z
        before (suc r) l = h.before r (omega arith)

-- A loop that looks for the least number stops at it.
pub least_at : (p : ℕ → Bool) (m n : ℕ) → n < m → p n ≡ true → ((r : ℕ) → r < n → p r ≡ false) → least p m ≡ n
least_at p zero n l e b = absurd (omega arith)
least_at p (suc m) zero l e b = cond-true (p 0) 0 (suc (least (λ x. p (suc x)) m)) e
least_at p (suc m) (suc n) l e b =
    cond-false (p 0) 0 (suc (least (λ x. p (suc x)) m)) (b 0 (omega arith)) ∙ ap suc (least_at (λ x. p (suc x)) m n (omega arith) e (λ r k. b (suc r) (omega arith)))
