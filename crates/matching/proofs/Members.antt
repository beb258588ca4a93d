-- Sets of heads, one head more.
use Rattle.std.proofs.Common.{◌≡◌, ℕ, ◌+◌, Bool, true, false, ◌||◌, eqb, sym, refl, ap, ◌∙◌, subst, ap₂, inl, inr, arith}
use mathlib.Core.Bool.{or-true, or-false}
use Rattle.std.proofs.lemmas.Nat.{pow_below}
use Rattle.std.proofs.lemmas.Bool.{cases_lt, eq-eqb, ne_eqb}
use Rattle.matching.specs.Sets.{has}
use Rattle.matching.specs.Members.{Members}
use Rattle.matching.proofs.Words.{has_past, below_power}

module _ (P : ℕ → Bool → Type 0) where
  pub members_yes : (h s s' : ℕ) → Members P h s → ((x : ℕ) → has s' x ≡ (has s x || eqb x h)) → P h true → Members P (h + 1) s'
  members_yes h s s' m e told =
      record {
        within = below_power (h + 1) s' (λ x l. e x ∙ ap₂ ◌||◌ (has_past h s x m.within (omega arith)) (ne_eqb x h (λ z. omega arith)));
        each = λ x l.
            elim (cases_lt x h) [
              | inl k ↦ subst (P x) (sym (e x ∙ ap (λ b. has s x || b) (ne_eqb x h (λ z. omega arith)) ∙ or-false (has s x))) (m.each x k)
              | inr k ↦
                  let z : x ≡ h = omega arith in
                  rw z (subst (P h) (sym (e h ∙ ap (λ b. has s h || b) (eq-eqb h h refl) ∙ or-true (has s h))) told)
            ];
      }

  pub members_no : (h s : ℕ) → Members P h s → P h false → Members P (h + 1) s
  members_no h s m missed-it =
      record {
        within = omega (arith, m.within, pow_below h (h + 1) (omega arith));
        each = λ k lk.
            elim (cases_lt k h) [
              | inl lt ↦ m.each k lt
              | inr ge ↦
                  let eq : h ≡ k = omega arith in
                  subst (λ (i : ℕ). P i (has s i)) eq (subst (λ (b : Bool). P h b) (sym (has_past h s h m.within (omega arith))) missed-it)
            ];
      }
