-- Matches of a row of tests in a history of readings, which has the newest reading first.
use Rattle.std.specs.Prelude.{◌≡◌, ℕ, ◌+◌, ◌<◌, ◌≤◌, Bool, true, false, ◌&&◌, List, [], ◌∷◌, length, take, Some, None, Option}
use Rattle.std.specs.List.{slice_get}
use Rattle.rows.specs.Bits.{bit}

-- Whether there is an item, and it passes.
abbrev pub is_some_and : {X : Type 0} → (X → Bool) → Option X → Bool
is_some_and p None = false
is_some_and p (Some x) = p x

-- Whether the tests in order pass the last readings, as many as there are tests: the last test the newest reading,
-- each other test the reading as far back as tests stand behind it. A history shorter than the tests does not pass.
abbrev pub passed_last : {T R : Type 0} → (T → R → Bool) → List T → List R → Bool
passed_last passes [] history = true
passed_last passes (test ∷ tests) history = is_some_and (passes test) (slice_get history (length tests)) && passed_last passes tests history

-- Bit i of the word tells whether the first i + 1 tests pass the last i + 1 readings.
pub record Tells {T R : Type 0} (passes : T → R → Bool) (tests : List T) (history : List R) (word : ℕ) : Type 0 where
  pub begun : (i : ℕ) → i < length tests → bit i word ≡ passed_last passes (take (i + 1) tests) history
  -- no bit is set past the tests
  pub no_more : (i : ℕ) → length tests ≤ i → bit i word ≡ false
