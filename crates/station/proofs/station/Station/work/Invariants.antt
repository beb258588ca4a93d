use Rattle.std.proofs.Common.{map, take}
use Rattle.station.specs.Promises.{Worked}
use Rattle.station.specs.Snap.{snap}
use Rattle.station.specs.Working.{called}
use Rattle.station.proofs.station.Station.work.Given as goal

abbrev pub invariant-loop-call : goal.invariant-loop-call
invariant-loop-call g l =
    Worked g.K.Kind.facts.readings.proper g.K.Kind.facts.passes (snap l.initial.self) (map called (take l.call-index l.calls)) (snap l.self)
