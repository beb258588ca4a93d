-- Elements of a list that are changed from the front on, one by one. Assumes nothing.
use Rattle.std.proofs.Common.{◌≡◌, ℕ, ◌+◌, ◌<◌, ◌≤◌, ◌≢◌, List, length, get_or, set, sym, ◌∙◌, subst, inl, inr, arith}
use Rattle.std.proofs.lemmas.List.{get_or-set_same, get_or-set_other, set-get_or}
use Rattle.std.proofs.lemmas.Bool.{cases_lt}

-- the first n elements are changed by the rule, and all others are as they were; past the end stands `blank`
pub record Moved {X : Type 0} (Rule : ℕ → X → X → Type 0) (blank : X) (n : ℕ) (old new : List X) : Type 0 where
  pub done : (k : ℕ) → k < n → Rule k (get_or old k blank) (get_or new k blank)
  pub kept : (k : ℕ) → n ≤ k → get_or new k blank ≡ get_or old k blank

module _ {X : Type 0} {Rule : ℕ → X → X → Type 0} {blank : X} {old : List X} where
  -- one element more
  pub moved_more : {n : ℕ} {new : List X} (is : X) → Moved Rule blank n old new → n < length new → Rule n (get_or new n blank) is → Moved Rule blank (n + 1) old (set new n is)
  moved_more {n = n} {new = new} is m l r =
      record {
        done = λ k h.
            elim (cases_lt k n) [
              | inl lt ↦
                  let ne : k ≢ n = omega arith in
                  subst (Rule k (get_or old k blank)) (sym (get_or-set_other new n k is blank ne)) (m.done k lt)
              | inr ge ↦
                  let eq : n ≡ k = omega arith in
                  let a : Rule n (get_or old n blank) is = subst (λ (x : X). Rule n x is) (m.kept n (omega arith)) r in
                  let b : Rule n (get_or old n blank) (get_or (set new n is) n blank) = subst (Rule n (get_or old n blank)) (sym (get_or-set_same new n is blank l)) a in
                  subst (λ (i : ℕ). Rule i (get_or old i blank) (get_or (set new n is) i blank)) eq b
            ];
        kept = λ k h. let ne : k ≢ n = omega arith in get_or-set_other new n k is blank ne ∙ m.kept k (omega arith);
      }

  -- an element that is put back as it was
  pub moved_same : {n : ℕ} {new : List X} (k : ℕ) (d : X) → Moved Rule blank n old new → Moved Rule blank n old (set new k (get_or new k d))
  moved_same {n = n} {new = new} k d m = subst (Moved Rule blank n old) (sym (set-get_or new k d)) m
