-- What a plan says of a sheet, and what reading a sheet leaves in plan and store.
use Rattle.std.specs.Prelude.{◌≡◌, ℕ, ◌-◌, List, [], ◌++◌, length, replicate, Ok, Err, Result}
use Rattle.sheetfile.specs.declared.fault.Fault.{Fault}
use Rattle.sheetfile.specs.Limits.{most_signatures}
use Rattle.sheetfile.specs.Outcomes.{Outcome, bare}
use Rattle.sheetfile.specs.Sheets.{Sheet}
use Rattle.sheet.specs.declared.entry.Entry.{Entry}
use Rattle.sheet.specs.declared.plan.Plan.{Plan}
use Rattle.sheet.specs.Entries.{entries_of}
use Rattle.sheet.specs.Plans.{blank}
use Rattle.sheet.specs.Stored.{Left, put}

-- the plan has these figures and entries, and blanks behind them
pub record Says (p : Plan) (code heads : ℕ) (es : List Entry) : Type 0 where
  pub code_is : p.code ≡ code
  pub heads_is : p.heads ≡ heads
  pub count_is : p.count ≡ length es
  pub entries_are : p.entries ≡ es ++ replicate (most_signatures - length es) blank

-- the empty plan
abbrev pub SaysNothing : Plan → Type 0
SaysNothing p = Says p 0 0 []

-- the plan of this sheet
abbrev pub SaysSheet : {T : Type 0} → Sheet T → Plan → Type 0
SaysSheet s p = Says p s.code s.heads (entries_of 0 s.signatures)

-- after a reading with this end: the plan of the sheet, or after a fault the empty plan
abbrev pub Filled : {T : Type 0} → Result (Sheet T) Fault → Plan → Type 0
Filled (Ok s) p = SaysSheet s p
Filled (Err e) p = SaysNothing p

-- what reading a sheet leaves, by its outcome: the answer, the plan, and the tests in the store from its start on
pub record SheetLeft {T : Type 0} (o : Outcome T (Sheet T)) (store : List T) (r : Result (Unit {0}) Fault) (p : Plan) (new : List T) : Type 0 where
  pub read : Left (bare o) 0 store r new
  pub plan : Filled o.end p

-- the same where the plan is in the result
abbrev pub Made : {T : Type 0} → Result (Sheet T) Fault → Result Plan Fault → Type 0
Made (Ok s) (Ok p) = SaysSheet s p
Made (Ok s) (Err e) = ⊥
Made (Err d) (Ok p) = ⊥
Made (Err d) (Err e) = e ≡ d

pub record PlanLeft {T : Type 0} (o : Outcome T (Sheet T)) (store : List T) (r : Result Plan Fault) (new : List T) : Type 0 where
  pub made : Made o.end r
  pub store_is : new ≡ put 0 o.tests store
