-- The latest reports, in a ring.
use Rattle.std.specs.Prelude.{◌≡◌, ℕ, List, [], ◌++◌, map, reverse, take, Ok, Err, Result}
use Rattle.lines.specs.Lines.{Report}
use Rattle.matching.specs.Meaning.{heads_of}
use Rattle.ring.specs.declared.Ring.{Ring}
use Rattle.ring.specs.Rings.{holds}
use Rattle.runs.specs.Verdicts.{Verdict}
use Rattle.station.specs.Refusals.{Told}
use Rattle.listing.specs.declared.report.Report.{Report as KeptReport}
use Rattle.listing.specs.Reports.{reported}

-- a report as the code keeps it
abbrev pub report_of : KeptReport → Report
report_of r = record { frame = r.frame; name = r.name; heads = heads_of r.placing }

-- the reports that a ring holds, newest first
abbrev pub reports_in : Ring KeptReport → List Report
reports_in ring = map report_of (holds ring)

-- what the answer of a look reports
abbrev pub looked : ℕ → ℕ → Result Verdict Told → List Report
looked number name (Ok v) = reported number name v
looked number name (Err e) = []

-- these reports, in order, were added to the ring
pub record Adds (rs : List Report) (old new : Ring KeptReport) : Type 0 where
  pub capacity : new.capacity ≡ old.capacity
  pub holds_are : reports_in new ≡ take old.capacity (reverse rs ++ reports_in old)
