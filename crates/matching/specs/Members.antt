-- Sets of heads by their numbers, told member by member: P says of a head and a flag that the flag is right for it.
use Rattle.std.specs.Prelude.{ℕ, ◌^◌, ◌<◌, Bool, List, slice_index}
use Rattle.matching.specs.Sets.{has}

-- a set of heads below n, of each of which it is told rightly whether it is a member
pub record Members (P : ℕ → Bool → Type 0) (n set : ℕ) : Type 0 where
  pub within : set < 2 ^ n
  pub each : (h : ℕ) → h < n → P h (has set h)

-- such a set for each track below `tracks`
pub record Sets (P : ℕ → ℕ → Bool → Type 0) (n tracks : ℕ) (table : List ℕ) : Type 0 where
  pub each : (t : ℕ) → t < tracks → Members (P t) n (slice_index table t)
