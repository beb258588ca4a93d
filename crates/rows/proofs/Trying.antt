-- Trying places: the least place left is tried and left behind.
use Rattle.std.proofs.Common.{◌≡◌, ℕ, zero, suc, ◌-◌, ◌*◌, ◌%◌, ◌^◌, ◌<◌, ◌≤◌, min, Bool, true, false, ◌&&◌, ◌||◌, eqb, ◌≢◌, sym, ap, ◌∙◌, inl, inr, true≢false, lt_of_lt_of_le, arith, pow_pos, pow_mono}
use mathlib.Core.Bool.{and-false, or-false, or-true}
use lib.Bits.{bit_and, bit_or, and_le_r}
use Rattle.std.proofs.lemmas.Nat.{one_shl, and_mask}
use Rattle.std.proofs.lemmas.Bool.{cases_lt, cases_eq}
use Rattle.members.specs.Takes.{TakesLeast}
use Rattle.rows.specs.Bits.{bit}
use Rattle.rows.proofs.Bits.{bit_of_or, bit_one_same, bit_one_other, bit_wrap, bit_shl, bit_past}

-- what passed, and what is still to try, at a place
abbrev pub kept : (ℕ → Bool) → ℕ → ℕ → ℕ → Bool
kept pass next left k = bit k next || (bit k left && pass k)

-- a place where a bit is set lies below every bound of the number
pub set_below : (i n m : ℕ) → bit i n ≡ true → n < 2 ^ m → i < m
set_below i n m on small =
    elim (cases_lt i m) [
      | inl l ↦ l
      | inr l ↦ let z : true ≡ false = sym on ∙ bit_past i n (lt_of_lt_of_le small (pow_mono l)) in absurd (true≢false z)
    ]

module _ (left i rest : ℕ) (t : TakesLeast left i rest) where
  pub least_on : bit i left ≡ true
  unfolding bit
  least_on = ap (λ n. eqb n 1) t.member

  others : (k : ℕ) → k ≢ i → bit k rest ≡ bit k left
  unfolding bit
  others k ne = ap (λ n. eqb n 1) (t.others k ne)

  -- what is left lies within what was left
  pub left_within : (k : ℕ) → bit k rest ≡ true → bit k left ≡ true
  left_within k on =
      elim (cases_eq k i) [
        | inl e ↦ ap (λ v. bit v left) e ∙ least_on
        | inr ne ↦ sym (others k ne) ∙ on
      ]

  -- the test at the least place passes
  pub passed : (pass : ℕ → Bool) (next : ℕ) → pass i ≡ true → (k : ℕ) → kept pass (bit_or next ((1 * 2 ^ i) % 2 ^ 64)) rest k ≡ kept pass next left k
  passed pass next yes' k =
      let fresh : bit k (bit_or next ((1 * 2 ^ i) % 2 ^ 64)) ≡ (bit k next || bit k (2 ^ i)) = bit_of_or k next _ ∙ ap (λ v. bit k next || bit k v) (one_shl i 64 t.low) in
      elim (cases_eq k i) [
        | inl e ↦
            let on : bit k (2 ^ i) ≡ true = ap (λ v. bit v (2 ^ i)) e ∙ bit_one_same i in
            let left_on : bit k left ≡ true = ap (λ v. bit v left) e ∙ least_on in
            let pass_on : pass k ≡ true = ap pass e ∙ yes' in
            let a : bit k (bit_or next ((1 * 2 ^ i) % 2 ^ 64)) ≡ true = fresh ∙ ap (λ v. bit k next || v) on ∙ or-true _ in
            let b : kept pass next left k ≡ true = ap (λ v. bit k next || (v && pass k)) left_on ∙ ap (λ v. bit k next || v) pass_on ∙ or-true _ in
            ap (λ v. v || (bit k rest && pass k)) a ∙ sym b
        | inr ne ↦
            let a : bit k (bit_or next ((1 * 2 ^ i) % 2 ^ 64)) ≡ bit k next = fresh ∙ ap (λ v. bit k next || v) (bit_one_other k i ne) ∙ or-false _ in
            ap (λ v. v || (bit k rest && pass k)) a ∙ ap (λ v. bit k next || (v && pass k)) (others k ne)
      ]

  -- it does not
  pub missed : (pass : ℕ → Bool) (next : ℕ) → pass i ≡ false → (k : ℕ) → kept pass next rest k ≡ kept pass next left k
  missed pass next no' k =
      elim (cases_eq k i) [
        | inl e ↦
            let off : pass k ≡ false = ap pass e ∙ no' in
            let none : (b : Bool) → (b && pass k) ≡ false = λ b. ap (λ v. b && v) off ∙ and-false b in
            ap (λ v. bit k next || v) (none (bit k rest) ∙ sym (none (bit k left)))
        | inr ne ↦ ap (λ v. bit k next || (v && pass k)) (others k ne)
      ]

-- Bit i of a word after a step: test i passes, and a match of i tests stood before, as the empty one always does.
abbrev pub stepped : (ℕ → Bool) → ℕ → ℕ → Bool
stepped pass word zero = pass zero
stepped pass word (suc i) = bit i word && pass (suc i)

-- the word shifted up by one, with its bit 0 set
abbrev pub opened : ℕ → ℕ
opened word = bit_or ((word * 2 ^ 1) % 2 ^ 64) 1

-- the places begun, and what a step makes of them
pub begun_bits : (word m : ℕ) (pass : ℕ → Bool) → m ≤ 64 → ((i : ℕ) → m ≤ i → pass i ≡ false)
    → (i : ℕ) → (bit i (bit_and (opened word) (2 ^ m - 1)) && pass i) ≡ stepped pass word i
begun_bits word m pass h none i =
    elim (cases_lt i m) [
      | inl l ↦ ap (λ v. bit i v && pass i) (and_mask (opened word) m) ∙ ap (λ v. v && pass i) (bit_wrap i m (opened word) l) ∙ inside i l
      | inr l ↦ ap (λ v. bit i (bit_and (opened word) (2 ^ m - 1)) && v) (none i l) ∙ and-false _ ∙ sym (outside i (none i l))
    ]
  where
    inside : (i : ℕ) → i < m → (bit i (opened word) && pass i) ≡ stepped pass word i
    inside zero l = ap (λ v. v && pass 0) (bit_of_or 0 _ 1 ∙ ap (λ v. bit 0 ((word * 2 ^ 1) % 2 ^ 64) || v) (bit_one_same 0) ∙ or-true _)
    inside (suc i) l =
        ap (λ v. v && pass (suc i))
        (bit_of_or (suc i) _ 1 ∙ ap (λ v. bit (suc i) ((word * 2 ^ 1) % 2 ^ 64) || v) (bit_one_other (suc i) 0 (omega arith)) ∙ or-false _
        ∙ bit_wrap (suc i) 64 (word * 2 ^ 1) (omega arith) ∙ bit_shl i word)

    outside : (i : ℕ) → pass i ≡ false → stepped pass word i ≡ false
    outside zero e = e
    outside (suc i) e = ap (λ v. bit i word && v) e ∙ and-false _

-- what is masked lies within as many places as there are tests
pub masked_below : (n low m : ℕ) → low ≡ 2 ^ min m 64 - 1 → bit_and n low < 2 ^ m
masked_below n low m e =
    let p : 0 < 2 ^ min m 64 = pow_pos (min m 64) in
    let q : 2 ^ min m 64 ≤ 2 ^ m = pow_mono (omega arith) in
    omega (arith, and_le_r n low)
