-- Two stations on one sheet, the second worked by the same calls through a plug order.
use Rattle.std.specs.Prelude.{◌≡◌, Bool, true, false, List, Ok, Err, Result, ◌==◌}
use Rattle.runs.specs.Calls.{Call, gapped, Replugged}
use Rattle.runs.specs.Verdicts.{Verdict, young, seen_on, short_of}
use Rattle.sheetfile.specs.Sheets.{Signature}
use Rattle.station.specs.Refusals.{Told}
use Rattle.station.specs.States.{State}
use Rattle.station.specs.Promises.{Worked}
use Rattle.station.specs.Law.{Made}
use Rattle.replug.specs.declared.order.Order.{Order}
use Rattle.replug.specs.Orders.{socket}

-- both young, both seen, or short with the same set
abbrev pub agrees : Verdict → Verdict → Bool
agrees young young = true
agrees young (seen_on heads) = false
agrees young (short_of set) = false
agrees (seen_on heads) young = false
agrees (seen_on heads) (seen_on others) = true
agrees (seen_on heads) (short_of set) = false
agrees (short_of set) young = false
agrees (short_of set) (seen_on heads) = false
agrees (short_of set) (short_of other) = set == other

-- verdicts that agree, or both refused
abbrev pub same_answer : Result Verdict Told → Result Verdict Told → Bool
same_answer (Ok a) (Ok b) = agrees a b
same_answer (Ok a) (Err e) = false
same_answer (Err e) (Ok b) = false
same_answer (Err d) (Err e) = true

-- Both were made new on one sheet, and worked since by the same calls, a gap among them, the second through the order.
pub record Twinned {T R : Type 0} (lawful : R → Bool) (passes : T → R → Bool) (order : Order) (s t : State T R) : Type 0 where
  pub sheet : List (Signature T)
  pub start : State T R
  pub other_start : State T R
  pub calls : List (Call R)
  pub others : List (Call R)
  pub made : Made lawful passes order.heads sheet start
  pub other_made : Made lawful passes order.heads sheet other_start
  pub replugged : Replugged order.heads (socket order.to) calls others
  pub settled : gapped calls ≡ true
  pub worked : Worked lawful passes start calls s
  pub other_worked : Worked lawful passes other_start others t
