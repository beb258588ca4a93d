-- A finite set of tracks, or of heads, by its number: the sum of 2 ^ x over its members x.
use Rattle.std.specs.Prelude.{◌≡◌, ℕ, zero, suc, ◌+◌, ◌/◌, ◌%◌, ◌^◌, ◌<◌, Bool, if◌then◌else◌, ◌==◌}

-- Is x in the set with the number s? It is where the binary digit of weight 2 ^ x is 1.
abbrev pub has : ℕ → ℕ → Bool
has s zero = s % 2 == 1
has s (suc x) = has (s / 2) x

-- The sum of 2 ^ x over the members x below n of the set s.
abbrev pub sum_of_powers : ℕ → ℕ → ℕ
sum_of_powers s zero = 0
sum_of_powers s (suc n) = sum_of_powers s n + (if has s n then 2 ^ n else 0)

-- A set of members below n has the sum of its members' powers as its number, and its digits are read by a shift.
pub record Numbered : Type 0 where
  pub sums : (s n : ℕ) → s < 2 ^ n → sum_of_powers s n ≡ s
  pub digits : (s x : ℕ) → has s x ≡ (s / 2 ^ x % 2 == 1)
