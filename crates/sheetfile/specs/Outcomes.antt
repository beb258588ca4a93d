-- What reading a part of a file comes to: the tests read, in order, and then what the part says, or a fault.
use Rattle.std.specs.Prelude.{Bool, if◌then◌else◌, List, [], ◌++◌, Ok, Err, Result}
use Rattle.sheetfile.specs.declared.fault.Fault.{Fault}

pub record Outcome (T A : Type 0) : Type 0 where
  pub tests : List T
  pub end : Result A Fault

-- a fault before any test
abbrev pub stop : {T A : Type 0} → Fault → Outcome T A
stop e = record { tests = []; end = Err e }

-- a part with no test in it
abbrev pub give : {T A : Type 0} → A → Outcome T A
give a = record { tests = []; end = Ok a }

-- where the test holds, this fault; else what follows
abbrev pub check : {T A : Type 0} → Bool → Fault → Outcome T A → Outcome T A
check b e r = if b then stop e else r

abbrev pub on : {T A B : Type 0} → Result A Fault → (A → Outcome T B) → Outcome T B
on (Ok a) f = f a
on (Err e) f = stop e

abbrev pub mapped : {A B : Type 0} → (A → B) → Result A Fault → Result B Fault
mapped f (Ok a) = Ok (f a)
mapped f (Err e) = Err e

-- the same tests, and another form of what the part says
abbrev pub into : {T A B : Type 0} → (A → B) → Outcome T A → Outcome T B
into f r = record { tests = r.tests; end = mapped f r.end }

-- only whether the part is whole
abbrev pub bare : {T A : Type 0} → Outcome T A → Outcome T (Unit {0})
bare o = into (λ a. tt) o

-- these tests first
abbrev pub after : {T A : Type 0} → List T → Outcome T A → Outcome T A
after ts r = record { tests = ts ++ r.tests; end = r.end }

-- one part, and where it is whole what follows
abbrev pub chain : {T A B : Type 0} → Outcome T A → (A → Outcome T B) → Outcome T B
chain r f = after r.tests (on r.end f)
