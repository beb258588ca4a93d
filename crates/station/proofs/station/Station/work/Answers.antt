use Rattle.station.specs.Snap.{snap}
use Rattle.station.proofs.Working.{worked_more}
use Rattle.station.proofs.station.Station.work.Goals as goal

pub loop-call-preserved : goal.loop-call-preserved
loop-call-preserved g c =
    worked_more g.K.Kind.facts.readings.proper g.K.Kind.facts.passes (snap c.args.self.now) (snap c.loop-call.self) _ c.args.calls.now
    c.loop-call.call-index c.call-item.result c.loop-call-test.true c.call-item.is c.loop-call.invariant c.perform.ensures
