use Rattle.std.proofs.Common.{◌≡◌, length}
use Rattle.station.specs.Snap.{snap}
use Rattle.replug.specs.Twins.{Twinned}
use Rattle.replug.proofs.showing.Showing.work.Given as goal

abbrev pub decreases-loop-rest : goal.decreases-loop-rest
decreases-loop-rest g l = length l.rest

abbrev pub invariant-loop-rest : goal.invariant-loop-rest
invariant-loop-rest g l =
    record {
      plan : l.self.plan ≡ l.initial.self.plan;
      tests : l.self.tests ≡ l.initial.self.tests;
      order : l.twins.order ≡ l.initial.twins.order;
      long : length l.plugged ≡ length l.initial.plugged;
      kept : length l.initial.plugged ≡ l.initial.twins.order.heads → Twinned g.K.Kind.facts.readings.proper g.K.Kind.facts.passes l.initial.twins.order (snap l.initial.twins.home) (snap l.initial.twins.away) → Twinned g.K.Kind.facts.readings.proper g.K.Kind.facts.passes l.twins.order (snap l.twins.home) (snap l.twins.away);
      differed : length l.initial.plugged ≡ l.initial.twins.order.heads → Twinned g.K.Kind.facts.readings.proper g.K.Kind.facts.passes l.initial.twins.order (snap l.initial.twins.home) (snap l.initial.twins.away) → l.self.tally.differed ≡ l.initial.self.tally.differed;
    }
