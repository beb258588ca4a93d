-- What a reading leaves: its answer, and the tests in the store.
use Rattle.std.specs.Prelude.{◌≡◌, ℕ, ◌+◌, List, ◌++◌, length, take, drop, Result}
use Rattle.sheetfile.specs.declared.fault.Fault.{Fault}
use Rattle.sheetfile.specs.Outcomes.{Outcome}

-- these tests from place n on, and every other place as it was
abbrev pub put : {T : Type 0} → ℕ → List T → List T → List T
put n ts store = take n store ++ (ts ++ drop (n + length ts) store)

-- the answer is the outcome's, and its tests stand in the store from place n on
pub record Left {T A : Type 0} (o : Outcome T A) (n : ℕ) (store : List T) (r : Result A Fault) (new : List T) : Type 0 where
  pub answer : r ≡ o.end
  pub store_is : new ≡ put n o.tests store
