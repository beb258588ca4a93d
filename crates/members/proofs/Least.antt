-- The number less one, by its bits: at the least member it has none, and after it the same.
use Rattle.std.proofs.Common.{◌≡◌, ℕ, zero, suc, ◌-◌, ◌/◌, ◌^◌, ◌<◌, sym, ap, ◌∙◌, inl, inr, arith}
use lib.Bits.{bit_and}
use lib.Count.{count_trailing_zeros}
use Rattle.std.specs.Int.{bit_at, w64}
use Rattle.std.proofs.lemmas.Bool.{cases_order}
use Rattle.std.proofs.lemmas.Nat.Bits.{bit_at-suc, bit_at_lowest, bit_at_and, bit_at-trailing_zeros}
use Rattle.members.specs.Takes.{TakesLeast}

at_least : (x n : ℕ) → bit_at n x ≡ 1 → ((y : ℕ) → y < x → bit_at n y ≡ 0) → bit_at (n - 1) x ≡ 0
at_least zero n m b = bit_at_lowest (n - 1) ∙ omega (arith, bit_at_lowest n, m)
at_least (suc x) n m b =
    let half : (n - 1) / 2 ≡ n / 2 - 1 = omega (arith, bit_at_lowest n, b 0 (omega arith)) in
    bit_at-suc (n - 1) x ∙ ap (λ h. bit_at h x) half
    ∙ at_least x (n / 2) (sym (bit_at-suc n x) ∙ m) (λ y l. sym (bit_at-suc n y) ∙ b (suc y) (omega arith))

after : (x n y : ℕ) → bit_at n x ≡ 1 → ((y : ℕ) → y < x → bit_at n y ≡ 0) → x < y → bit_at (n - 1) y ≡ bit_at n y
after x n zero m b l = absurd (omega arith)
after zero n (suc y) m b l =
    let half : (n - 1) / 2 ≡ n / 2 = omega (arith, bit_at_lowest n, m) in bit_at-suc (n - 1) y ∙ ap (λ h. bit_at h y) half ∙ sym (bit_at-suc n y)
after (suc x) n (suc y) m b l =
    let half : (n - 1) / 2 ≡ n / 2 - 1 = omega (arith, bit_at_lowest n, b 0 (omega arith)) in
    bit_at-suc (n - 1) y ∙ ap (λ h. bit_at h y) half
    ∙ after x (n / 2) y (sym (bit_at-suc n x) ∙ m) (λ y l. sym (bit_at-suc n y) ∙ b (suc y) (omega arith)) (omega arith)
    ∙ sym (bit_at-suc n y)

-- The word and the word less one have all members but the least.
pub takes_least : (n : ℕ) → 0 < n → n < 2 ^ 64 → TakesLeast n (count_trailing_zeros 64 n) (bit_and n (n - 1))
takes_least n p w =
    let x = count_trailing_zeros 64 n in
    let t = bit_at-trailing_zeros w64 n p w in
    record {
      low = t.0;
      member = t.1;
      least = t.2;
      gone = bit_at_and n (n - 1) x ∙ omega (arith, at_least x n t.1 t.2);
      others = λ y ne.
          bit_at_and n (n - 1) y
          ∙ elim (cases_order y x) [
            | inl e ↦ absurd (ne e)
            | inr o ↦ elim o [ inl l ↦ omega (arith, t.2 y l) | inr l ↦ omega (arith, after x n y t.1 t.2 l) ]
          ];
    }
