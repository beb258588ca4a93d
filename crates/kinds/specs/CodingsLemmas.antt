-- The laws of a fixed coding, from what its bytes and values say of each other. Assumes nothing.
use Rattle.std.specs.Prelude.{◌≡◌, ℕ, ◌≤◌, Bool, true, false, cond, ◌&&◌, List, Option, Some, None, refl}
use Rattle.std.specs.Bool.{then_some}
use Rattle.std.proofs.Common.{sym, ap, ◌∙◌, arith}
use Rattle.std.proofs.lemmas.Bool.{and_parts}
use Rattle.kinds.specs.Bytes.{sized}
use Rattle.kinds.specs.Codings.{Lawful, fixed}
use Rattle.kinds.specs.BytesLemmas.{sized_parts}

-- a value that came out of a test is the one that was tested
some_from : {X : Type 0} (b : Bool) (v x : X) → cond b (Some v) None ≡ Some x → (b ≡ true) × (v ≡ x)
some_from true v x h = (refl, cc)
some_from false v x h = let z : ◌≡◌ {A = ℕ} 0 1 = cc in absurd (omega arith)

module _ {X : Type 0} (w : ℕ) (proper : X → Bool) (bytes : X → List ℕ) (value : List ℕ → X) where
  -- so many bytes that stand for x read as it where it is proper, and as none where it is not
  pub fixed_reads : (bs : List ℕ) (x : X) → sized w bs ≡ true → value bs ≡ x → (fixed w proper bytes value).reads bs ≡ then_some (proper x) x
  fixed_reads bs x s v =
      ap (λ b. cond (b && proper (value bs)) (Some (value bs)) None) s ∙ ap (λ y. cond (proper y) (Some y) None) v ∙ one (proper x)
    where
      one : (b : Bool) → cond b (Some x) None ≡ then_some b x
      one true = refl
      one false = refl

  pub fixed_some : (bs : List ℕ) (x : X) → sized w bs ≡ true → value bs ≡ x → proper x ≡ true → (fixed w proper bytes value).reads bs ≡ Some x
  fixed_some bs x s v p = fixed_reads bs x s v ∙ ap (λ b. then_some b x) p

  -- what a reader answers that tests the value x its bytes stand for
  pub fixed_answer : (bs : List ℕ) (x : X) (b : Bool) (r : Option X) → sized w bs ≡ true → value bs ≡ x → b ≡ proper x → r ≡ then_some b x → r ≡ (fixed w proper bytes value).reads bs
  fixed_answer bs x b r s v p t = t ∙ ap (λ c. then_some c x) p ∙ sym (fixed_reads bs x s v)

  pub fixed_lawful : {most : ℕ} → 1 ≤ w → w ≤ most
      → ((x : X) → proper x ≡ true → (sized w (bytes x) ≡ true) × (value (bytes x) ≡ x))
      → ((bs : List ℕ) → sized w bs ≡ true → bytes (value bs) ≡ bs)
      → Lawful most (fixed w proper bytes value)
  fixed_lawful some few there back =
      record {
        back = λ x p. let h = there x p in fixed_some (bytes x) x h.0 h.1 p;
        only = λ bs x h.
            let s = some_from (sized w bs && proper (value bs)) (value bs) x h in
            let p = and_parts (sized w bs) (proper (value bs)) s.0 in
            (ap proper (sym s.1) ∙ p.1, ap bytes (sym s.1) ∙ back bs p.0);
        wide = λ x p. (sized_parts w (bytes x) (there x p).0).0;
        some = some;
        few = few;
      }
