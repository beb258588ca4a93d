-- The laws of `bit`, from those of the library's `bit_at`.
use Rattle.std.proofs.Common.{◌≡◌, ℕ, zero, suc, ◌*◌, ◌/◌, ◌%◌, ◌^◌, ◌<◌, max, true, false, ◌||◌, eqb, ◌≢◌, ◌⊎◌, sym, refl, ap, ◌∙◌, inl, inr, arith}
use Rattle.std.proofs.lemmas.Nat.{div-add-mod'}
use lib.Bits.{bit_and, bit_or}
use Rattle.std.specs.Int.{bit_at}
use Rattle.std.proofs.lemmas.Nat.Bits.{bit_at-lt, bit_at-zero, bit_at-suc, bit_at_or, bit_at-pow_same, bit_at-pow_other, bit_at_above, bit_at_cat_low, shr_and_one}
use Rattle.rows.specs.Bits.{bit}

digit : (x : ℕ) → x < 2 → (x ≡ 0) ⊎ (x ≡ 1)
digit zero h = inl refl
digit (suc zero) h = inr refl
digit (suc (suc x)) h = absurd (omega arith)

or_digit : (x y : ℕ) → (x ≡ 0) ⊎ (x ≡ 1) → (y ≡ 0) ⊎ (y ≡ 1) → eqb (max x y) 1 ≡ (eqb x 1 || eqb y 1)
or_digit x y (inl p) (inl q) = rw (p, q)
or_digit x y (inl p) (inr q) = rw (p, q)
or_digit x y (inr p) (inl q) = rw (p, q)
or_digit x y (inr p) (inr q) = rw (p, q)

pub bit_of_or : (i a b : ℕ) → bit i (bit_or a b) ≡ (bit i a || bit i b)
unfolding bit
bit_of_or i a b =
    ap (λ n. eqb n 1) (bit_at_or a b i) ∙ or_digit (bit_at a i) (bit_at b i) (digit _ (bit_at-lt a i)) (digit _ (bit_at-lt b i))

-- a bit below the width is kept by a wrap
pub bit_wrap : (i w n : ℕ) → i < w → bit i (n % 2 ^ w) ≡ bit i n
unfolding bit
bit_wrap i w n h = ap (λ v. eqb v 1) (sym (bit_at_cat_low (n / 2 ^ w) w (n % 2 ^ w) i h) ∙ ap (λ m. bit_at m i) (div-add-mod' n (2 ^ w)))

-- no bit is set at or past a number's length
pub bit_past : (i n : ℕ) → n < 2 ^ i → bit i n ≡ false
unfolding bit
bit_past i n h = ap (λ v. eqb v 1) (bit_at_above n i i h (omega arith))

pub bit_none : (i : ℕ) → bit i 0 ≡ false
unfolding bit
bit_none i = ap (λ v. eqb v 1) (bit_at-zero i)

-- a shift by one
pub bit_shl : (i n : ℕ) → bit (suc i) (n * 2 ^ 1) ≡ bit i n
unfolding bit
bit_shl i n = let half : n * 2 ^ 1 / 2 ≡ n = omega arith in ap (λ v. eqb v 1) (bit_at-suc (n * 2 ^ 1) i ∙ ap (λ m. bit_at m i) half)

-- the bits of one power of two
pub bit_one_same : (j : ℕ) → bit j (2 ^ j) ≡ true
unfolding bit
bit_one_same j = ap (λ v. eqb v 1) (bit_at-pow_same j)

pub bit_one_other : (i j : ℕ) → i ≢ j → bit i (2 ^ j) ≡ false
unfolding bit
bit_one_other i j ne = ap (λ v. eqb v 1) (bit_at-pow_other j i ne)

-- a bit as code reads it: shifted to the lowest place, and the rest masked off
pub bit_read : (i n : ℕ) → eqb (bit_and (n / 2 ^ i) 1) 1 ≡ bit i n
unfolding bit
bit_read i n = ap (λ v. eqb v 1) (shr_and_one n i)
