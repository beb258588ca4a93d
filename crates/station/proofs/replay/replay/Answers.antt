use Rattle.std.proofs.Common.{map}
use Rattle.station.specs.Snap.{snap}
use Rattle.station.specs.Working.{called}
use Rattle.station.proofs.Working.{replay_tells}
use Rattle.station.proofs.replay.replay.Goals as goal

pub returns : goal.returns
returns g c =
    replay_tells g.K.Kind.facts.readings.proper g.K.Kind.facts.passes _ c.args.plan.now c.args.tests.now (map called c.args.calls.now)
    (snap c.new-station.result) (snap c.work.new.self) c.args.position _
    c.in_ok-check_making.ensures c.new-station.ensures.made c.new-station.ensures.kept c.work.ensures c.look.ensures
