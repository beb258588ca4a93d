-- Laws of sets by number.
use Rattle.std.proofs.Common.{◌≡◌, ℕ, zero, suc, ◌+◌, ◌*◌, ◌/◌, ◌%◌, ◌^◌, ◌<◌, Bool, true, false, cond, eqb, refl, ap, ◌∙◌, pow-suc, arith, shr-shr}
use Rattle.std.proofs.lemmas.Bool.{eqb-true, eqb-false, eq-eqb, ne_eqb}
use Rattle.matching.specs.Sets.{has, sum_of_powers, Numbered}

-- The number of a set of members below k.
abbrev pub number : (ℕ → Bool) → ℕ → ℕ
number s zero = 0
number s (suc k) = cond (s 0) 1 0 + 2 * number (λ t. s (suc t)) k

pub number_lt : (s : ℕ → Bool) (k : ℕ) → number s k < 2 ^ k
number_lt s zero = omega arith
number_lt s (suc k) = rw pow-suc (lt (s 0) (number_lt (λ t. s (suc t)) k))
  where
    lt : (b : Bool) {m n : ℕ} → m < n → cond b 1 0 + 2 * m < n * 2
    lt true h = omega arith
    lt false h = omega arith

pub has_number : (s : ℕ → Bool) (k t : ℕ) → t < k → has (number s k) t ≡ s t
has_number s zero t l = absurd (omega arith)
has_number s (suc k) zero l = low (s 0) (number (λ t. s (suc t)) k)
  where
    low : (b : Bool) (m : ℕ) → eqb ((cond b 1 0 + 2 * m) % 2) 1 ≡ b
    low true m = eq-eqb ((1 + 2 * m) % 2) 1 (omega arith)
    low false m = ne_eqb ((0 + 2 * m) % 2) 1 (λ e. omega arith)
has_number s (suc k) (suc t) l =
    ap (λ z. has z t) (high (s 0) (number (λ t. s (suc t)) k)) ∙ has_number (λ t. s (suc t)) k t (omega arith)
  where
    high : (b : Bool) (m : ℕ) → (cond b 1 0 + 2 * m) / 2 ≡ m
    high true m = omega arith
    high false m = omega arith

pub has_digit : (s t : ℕ) → has s t ≡ eqb (s / 2 ^ t % 2) 1
has_digit s zero = let e : s ≡ s / 1 = omega arith in ap (λ z. eqb (z % 2) 1) e
has_digit s (suc t) = has_digit (s / 2) t ∙ ap (λ z. eqb (z % 2) 1) (shr-shr s 1 t ∙ ap (λ k. s / 2 ^ k) e)
  where
    e : 1 + t ≡ suc t
    e = omega arith

sum_front : (s M : ℕ) → sum_of_powers s (suc M) ≡ cond (has s 0) 1 0 + 2 * sum_of_powers (s / 2) M
sum_front s zero = omega arith
sum_front s (suc M) =
    let h = sum_front s M in
    go (has (s / 2) M) (2 ^ M) (2 ^ suc M) (pow-suc 2 M) h
  where
    go : (b : Bool) (p q : ℕ) → q ≡ p * 2 → sum_of_powers s (suc M) ≡ cond (has s 0) 1 0 + 2 * sum_of_powers (s / 2) M
        → sum_of_powers s (suc M) + cond b q 0 ≡ cond (has s 0) 1 0 + 2 * (sum_of_powers (s / 2) M + cond b p 0)
    go true p q e h = omega arith
    go false p q e h = omega arith

sum_is : (M s : ℕ) → s < 2 ^ M → sum_of_powers s M ≡ s
sum_is zero s l = omega arith
sum_is (suc M) s l =
    let k : s < 2 ^ M * 2 = rw pow-suc at l in
    let h : sum_of_powers (s / 2) M ≡ s / 2 = sum_is M (s / 2) (omega arith) in
    sum_front s M ∙ low (eqb (s % 2) 1) refl h
  where
    low : (b : Bool) → eqb (s % 2) 1 ≡ b → sum_of_powers (s / 2) M ≡ s / 2 → cond b 1 0 + 2 * sum_of_powers (s / 2) M ≡ s
    low true e h = omega (arith, eqb-true (s % 2) 1 e)
    low false e h = let n : s % 2 ≡ 1 → ⊥ = eqb-false (s % 2) 1 e in omega (arith, n)

pub numbered : Numbered
numbered = record { sums = λ s n. sum_is n s; digits = has_digit }
