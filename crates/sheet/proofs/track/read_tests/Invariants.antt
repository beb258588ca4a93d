use Rattle.std.proofs.Common.{◌-◌, ◌*◌, ◌≤◌, length}
use Rattle.sheetfile.specs.declared.fault.Cause.TheVariants.{Test}
use Rattle.sheet.proofs.Filling.{Filling}
use Rattle.sheet.proofs.track.read_tests.Given as goal

abbrev pub invariant-loop-slot : goal.invariant-loop-slot
invariant-loop-slot g l =
    record {
      filling : Filling Test g.K.Kind.facts.tests l.initial.tests.at l.initial.tests.bytes.now l.initial.out l.slot-index l.tests.at l.tests.bytes.now l.out;
      long : (length l.initial.out - l.slot-index) * g.K.Kind.facts.tests.width ≤ length l.tests.bytes.now;
    }
