-- What a recheck works out from the tail.
use Rattle.std.specs.Prelude.{◌≡◌, ℕ, ◌<◌, Bool, List, Some, Option}
use Rattle.rows.specs.Matches.{passed_last}
use Rattle.runs.specs.Frames.{history}
use Rattle.station.specs.declared.tail.Tail.{Tail}
use Rattle.station.specs.Tails.{frames_of}

-- the flag says whether the tests pass the latest readings of a head in the tail
pub record Passed {T R : Type 0} (passes : T → R → Bool) (tail : Tail R) (tests : List T) (head : ℕ) (flag : Bool) : Type 0 where
  pub is : head < tail.heads → flag ≡ passed_last passes tests (history head (frames_of tail))

-- the same of the tests that there are
pub record ToldFit {T R : Type 0} (passes : T → R → Bool) (tail : Tail R) (found : Option (List T)) (head : ℕ) (flag : Bool) : Type 0 where
  pub of : (tests : List T) → found ≡ Some tests → Passed passes tail tests head flag
