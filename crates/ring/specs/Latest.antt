-- The latest items of a round of slots.
use Rattle.std.specs.Prelude.{ℕ, ◌<◌, ◌≤◌, List, ◌++◌, reverse, length, take, drop}

-- The latest `count` items, newest first, in the first `capacity` slots, where the next item goes to `next`:
-- from the slot before `next` backwards, and on from the last slot backwards.
abbrev pub latest : {X : Type 0} → List X → ℕ → ℕ → ℕ → List X
latest slots capacity next count = take count (reverse (take next slots) ++ reverse (drop next (take capacity slots)))

-- The round lies within the slots, the next place and the count within the round.
pub record Sound {X : Type 0} (slots : List X) (capacity next count : ℕ) : Type 0 where
  pub room : capacity ≤ length slots
  pub place : 0 < capacity → next < capacity
  pub held : count ≤ capacity
