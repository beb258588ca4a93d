-- Heads that fit no track may be left out.
use Rattle.std.proofs.Common.{◌≡◌, ℕ, zero, suc, ◌^◌, ◌<◌, ◌≤◌, Bool, true, false, cond, ◌&&◌, ltb, List, Some, None, Option, sym, refl, ap, ◌∙◌, inl, inr, arith}
use mathlib.Core.Path.{fun_ext}
use Rattle.std.proofs.lemmas.Bool.{cases_Bool, cond-false, and_parts, and_right, true≢false}
use Rattle.matching.specs.Count.{count, least}
use Rattle.matching.specs.Sets.{has}
use Rattle.matching.specs.Fitting.{Fitting, later}
use Rattle.matching.specs.Short.{usable, is_short_set}
use Rattle.matching.specs.Search.{without, prepend, first_on, first_placing_of}
use Rattle.matching.specs.Answer.{short, said, answer}
use Rattle.matching.proofs.Counting.{count_cut, any_out}
use Rattle.matching.proofs.First.{first_some_same, first_some_cut}

module _ (N L : ℕ) (few : N ≤ L) where
  -- No track below M fits a head from N on.
  abbrev Blank : Fitting → ℕ → Type 0
  Blank fits M = (t h : ℕ) → t < M → N ≤ h → fits t h ≡ false

  first_on_cut : (fits : Fitting) (k : ℕ) (free : ℕ → Bool) → Blank fits k → first_on L fits k free ≡ first_on N fits k free
  first_on_cut fits zero free b = refl
  first_on_cut fits (suc k) free b =
      first_some_same
      (λ h. cond (free h && fits 0 h) (prepend h (first_on L (later fits) k (without free h))) None)
      (λ h. cond (free h && fits 0 h) (prepend h (first_on N (later fits) k (without free h))) None) L
      (λ h _. ap (λ o. cond (free h && fits 0 h) (prepend h o) None) (first_on_cut (later fits) k (without free h) (λ t x l. b (suc t) x (omega arith))))
      ∙ first_some_cut (λ h. cond (free h && fits 0 h) (prepend h (first_on N (later fits) k (without free h))) None) N L few
      (λ h m. cond-false (free h && fits 0 h) (prepend h (first_on N (later fits) k (without free h))) None (and_right (free h) (fits 0 h) (b 0 h (omega arith) m)))

  is_short_cut : (fits : Fitting) (M : ℕ) (set : ℕ → Bool) → Blank fits M → is_short_set fits M L set ≡ is_short_set fits M N set
  is_short_cut fits M set b = ap (λ n. ltb n (count set M)) (count_cut (usable fits set M) N L few unused)
    where
      unused : (h : ℕ) → N ≤ h → usable fits set M h ≡ false
      unused h m =
          elim (cases_Bool (usable fits set M h)) [
            | inr e ↦ e
            | inl e ↦
                let w = any_out (λ t. set t && fits t h) M e in
                absurd (true≢false (sym (and_parts (set w.0) (fits w.0 h) w.2).1 ∙ b w.0 h w.1 m))
          ]

  pub answer_cut : (fits : Fitting) (M : ℕ) → Blank fits M → answer fits M L ≡ answer fits M N
  unfolding answer
  answer_cut fits M b = ap (said fits M L) (first_on_cut fits M (λ h. true) b) ∙ said_cut (first_placing_of fits M N)
    where
      said_cut : (o : Option (List ℕ)) → said fits M L o ≡ said fits M N o
      said_cut (Some hs) = refl
      said_cut None = ap (λ p. short (least p (2 ^ M))) (fun_ext (λ s. is_short_cut fits M (has s) b))
