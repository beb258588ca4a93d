-- What reading a sheet says of the trouble with it. Assumes nothing.
use Rattle.std.proofs.Common.{◌≡◌, Ok, Err, Result, ap}
use Rattle.sheetfile.specs.declared.fault.Fault.{Fault}
use Rattle.sheetfile.specs.Outcomes.{mapped}
use Rattle.replug.specs.declared.trouble.Trouble.{Trouble}
use Rattle.replug.specs.declared.trouble.Trouble.TheVariants.{Fault as ByFault}
use Rattle.replug.specs.Refusing.{Refuses}

module _ {A B T : Type 0} (f : A → B) where
  pub refuses_fault : (end : Result A Fault) (e : Fault) (r : Result T Trouble) → Err e ≡ mapped f end → r ≡ Err (ByFault e) → Refuses end r
  refuses_fault (Ok a) e r h t = cc
  refuses_fault (Err d) e r h t = let same : e ≡ d = cc in rw t (ap ByFault same)
