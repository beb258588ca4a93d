-- Taking the least member out of a set that a word holds.
use Rattle.std.specs.Prelude.{◌≡◌, ℕ, ◌<◌, ◌≢◌}
use Rattle.std.specs.Int.{bit_at}

-- x is the least member of the set, and the rest has all other members.
pub record TakesLeast (set x rest : ℕ) : Type 0 where
  pub low : x < 64
  pub member : bit_at set x ≡ 1
  pub least : (y : ℕ) → y < x → bit_at set y ≡ 0
  pub gone : bit_at rest x ≡ 0
  pub others : (y : ℕ) → y ≢ x → bit_at rest y ≡ bit_at set y
