use Rattle.station.specs.Snap.{snap}
use Rattle.listing.proofs.Frames.{FrameTurn}
use Rattle.listing.proofs.reporting.Listing.put_frame.Given as goal

abbrev pub invariant-loop-position : goal.invariant-loop-position
invariant-loop-position g l = FrameTurn g.K.Kind.facts.readings.proper g.K.Kind.facts.passes (snap l.station) l.frame l.initial.self l.position l.self
