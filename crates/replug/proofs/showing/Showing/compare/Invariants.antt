use Rattle.std.proofs.Common.{◌≡◌}
use Rattle.station.specs.Snap.{snap}
use Rattle.replug.specs.Twins.{Twinned}
use Rattle.replug.proofs.showing.Showing.compare.Given as goal

abbrev pub invariant-loop-position : goal.invariant-loop-position
invariant-loop-position g l =
    record {
      plan : l.self.plan ≡ l.initial.self.plan;
      tests : l.self.tests ≡ l.initial.self.tests;
      differed : Twinned g.K.Kind.facts.readings.proper g.K.Kind.facts.passes l.twins.order (snap l.twins.home) (snap l.twins.away) → l.self.tally.differed ≡ l.initial.self.tally.differed;
    }
