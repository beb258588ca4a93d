-- A set as a machine word: what its bits say of its members.
use Rattle.std.proofs.Common.{◌≡◌, ℕ, zero, suc, ◌-◌, ◌*◌, ◌/◌, ◌%◌, ◌^◌, ◌<◌, ◌≤◌, min, max, Bool, true, false, cond, not, ◌&&◌, ◌||◌, eqb, ◌≢◌, sym, refl, ap, ◌∙◌, ap₂, inl, inr, pow-suc, arith}
use mathlib.Core.Bool.{or-true, or-false, and-true, and-false}
use lib.Bits.{bit_and, bit_or}
use lib.Count.{ones, ones_step}
use Rattle.std.specs.Int.{bit_at, bit_not, w8}
use Rattle.std.proofs.lemmas.Nat.{and_le_l}
use Rattle.std.proofs.lemmas.Nat.Bits.{shr_and_one, bit_at_and, bit_at_or, bit_at-lt, bit_at_above, bit_at-zero, bit_at_ones, same_from_bits, bit_at_set_same, bit_at_set_other, bit_at_clear_same, bit_at_clear_other}
use Rattle.std.proofs.lemmas.Bool.{eq-eqb, ne_eqb, cases_eq, cases_lt, true≢false}
use Rattle.members.specs.Takes.{TakesLeast}
use Rattle.matching.specs.Count.{count}
use Rattle.matching.specs.Sets.{has}
use Rattle.matching.specs.Search.{without}
use Rattle.matching.proofs.Sets.{has_digit}

-- A member by its bit.
pub has_on : (s x : ℕ) → bit_at s x ≡ 1 → has s x ≡ true
has_on s x e = has_digit s x ∙ eq-eqb (bit_at s x) 1 e

pub has_off : (s x : ℕ) → bit_at s x ≡ 0 → has s x ≡ false
has_off s x e = has_digit s x ∙ ne_eqb (bit_at s x) 1 (λ k. omega arith)

has_same : (a b x : ℕ) → bit_at a x ≡ bit_at b x → has a x ≡ has b x
has_same a b x e = has_digit a x ∙ ap (λ d. eqb d 1) e ∙ sym (has_digit b x)

-- A member as the code reads it.
pub has_read : (s x : ℕ) → eqb (bit_and (s / 2 ^ x) 1) 1 ≡ has s x
has_read s x = ap (λ d. eqb d 1) (shr_and_one s x) ∙ sym (has_digit s x)

pub has_none : (x : ℕ) → has 0 x ≡ false
has_none zero = refl
has_none (suc x) = has_none x

pub has_past : (n s x : ℕ) → s < 2 ^ n → n ≤ x → has s x ≡ false
has_past n s x h l = has_off s x (bit_at_above s n x h l)

-- What has members above n is as great as 2 ^ n.
pub has_within : (n s x : ℕ) → s < 2 ^ n → has s x ≡ true → x < n
has_within n s x h m =
    elim (cases_lt x n) [ inl l ↦ l | inr l ↦ let z : true ≡ false = sym m ∙ has_past n s x h l in absurd (true≢false z) ]

-- What has no members from n on is less than 2 ^ n.
pub below_power : (n s : ℕ) → ((x : ℕ) → n ≤ x → has s x ≡ false) → s < 2 ^ n
below_power zero s e = let z : s ≡ 0 = same_from_bits s 0 (λ x. off x ∙ sym (bit_at-zero x)) in omega arith
  where
    off : (x : ℕ) → bit_at s x ≡ 0
    off x = let n : bit_at s x ≡ 1 → ⊥ = λ k. true≢false (sym (has_on s x k) ∙ e x (omega arith)) in omega (arith, bit_at-lt s x, n)
below_power (suc n) s e = omega (arith, pow-suc 2 n, below_power n (s / 2) (λ x l. e (suc x) (omega arith)))

pub has_and : (a b x : ℕ) → has (bit_and a b) x ≡ (has a x && has b x)
has_and a b x =
    has_digit (bit_and a b) x ∙ ap (λ d. eqb d 1) (bit_at_and a b x) ∙ both (bit_at a x) (bit_at b x) (bit_at-lt a x) (bit_at-lt b x)
    ∙ ap₂ ◌&&◌ (sym (has_digit a x)) (sym (has_digit b x))
  where
    both : (m n : ℕ) → m < 2 → n < 2 → eqb (min m n) 1 ≡ (eqb m 1 && eqb n 1)
    both zero zero h l = refl
    both zero (suc zero) h l = refl
    both (suc zero) zero h l = refl
    both (suc zero) (suc zero) h l = refl
    both (suc (suc m)) n h l = absurd (omega arith)
    both m (suc (suc n)) h l = absurd (omega arith)

pub has_or : (a b x : ℕ) → has (bit_or a b) x ≡ (has a x || has b x)
has_or a b x =
    has_digit (bit_or a b) x ∙ ap (λ d. eqb d 1) (bit_at_or a b x) ∙ both (bit_at a x) (bit_at b x) (bit_at-lt a x) (bit_at-lt b x)
    ∙ ap₂ ◌||◌ (sym (has_digit a x)) (sym (has_digit b x))
  where
    both : (m n : ℕ) → m < 2 → n < 2 → eqb (max m n) 1 ≡ (eqb m 1 || eqb n 1)
    both zero zero h l = refl
    both zero (suc zero) h l = refl
    both (suc zero) zero h l = refl
    both (suc zero) (suc zero) h l = refl
    both (suc (suc m)) n h l = absurd (omega arith)
    both m (suc (suc n)) h l = absurd (omega arith)

pub has_ones : (n x : ℕ) → x < n → has (2 ^ n - 1) x ≡ true
has_ones n x l = has_on (2 ^ n - 1) x (bit_at_ones n x l)

-- The same members but one.
without_same : (p : ℕ → Bool) (x : ℕ) → without p x x ≡ false
without_same p x = ap (λ b. p x && not b) (eq-eqb x x refl) ∙ and-false (p x)

pub without_other : (p : ℕ → Bool) (x y : ℕ) → y ≢ x → without p x y ≡ p y
without_other p x y n = ap (λ b. p y && not b) (ne_eqb y x n) ∙ and-true (p y)

-- One member more, and one less.
pub has_with : (s m x : ℕ) → m < 8 → has (bit_or s (1 * 2 ^ m % 2 ^ 8)) x ≡ (has s x || eqb x m)
has_with s m x l =
    elim (cases_eq x m) [
      | inl e ↦ rw e (has_on _ m (bit_at_set_same w8 s m l) ∙ sym (ap (λ b. has s m || b) (eq-eqb m m refl) ∙ or-true (has s m)))
      | inr n ↦ has_same _ s x (bit_at_set_other w8 s m l x n) ∙ sym (ap (λ b. has s x || b) (ne_eqb x m n) ∙ or-false (has s x))
    ]

pub has_without : (s m x : ℕ) → s < 2 ^ 8 → m < 8 → has (bit_and s (bit_not w8 (1 * 2 ^ m % 2 ^ 8))) x ≡ without (has s) m x
has_without s m x w l =
    elim (cases_eq x m) [
      | inl e ↦ rw e (has_off rest m (bit_at_clear_same w8 s m l) ∙ sym (without_same (has s) m))
      | inr n ↦ other n ∙ sym (without_other (has s) m x n)
    ]
  where
    rest : ℕ
    rest = bit_and s (bit_not w8 (1 * 2 ^ m % 2 ^ 8))

    other : x ≢ m → has rest x ≡ has s x
    other n =
        elim (cases_lt x 8) [
          | inl k ↦ has_same rest s x (bit_at_clear_other w8 s m l x k n)
          | inr k ↦ has_past 8 rest x (omega (arith, and_le_l s (bit_not w8 (1 * 2 ^ m % 2 ^ 8)))) k ∙ sym (has_past 8 s x w k)
        ]

-- The least member and the others, as they are taken from a set.
pub record Least (s x rest : ℕ) : Type 0 where
  pub member : has s x ≡ true
  pub before : (y : ℕ) → y < x → has s y ≡ false
  pub others : (y : ℕ) → has rest y ≡ without (has s) x y

pub least_of : {s x rest : ℕ} → TakesLeast s x rest → Least s x rest
least_of {s} {x} {rest} t =
    record {
      member = has_on s x t.member;
      before = λ y l. has_off s y (t.least y l);
      others = λ y. elim (cases_eq y x) [
        | inl e ↦ rw e (has_off rest x t.gone ∙ sym (without_same (has s) x))
        | inr n ↦ has_same rest s y (t.others y n) ∙ sym (without_other (has s) x y n)
      ];
    }

ones_none : ones 0 ≡ 0
unfolding ones
ones_none = refl

-- A count of ones counts the members.
pub ones_count : (n s : ℕ) → s < 2 ^ n → ones s ≡ count (has s) n
ones_count zero s h = let e : s ≡ 0 = omega arith in ap ones e ∙ ones_none
ones_count (suc n) s h = omega (arith, ones_step s, ones_count n (s / 2) (omega (arith, pow-suc 2 n)), low (s % 2) (omega arith))
  where
    low : (d : ℕ) → d < 2 → d ≡ cond (eqb d 1) 1 0
    low zero l = refl
    low (suc zero) l = refl
    low (suc (suc d)) l = absurd (omega arith)
