use Rattle.sheet.proofs.Tracks.{TracksTurn}
use Rattle.sheet.proofs.track.read_tracks.Given as goal

abbrev pub invariant-loop-i : goal.invariant-loop-i
invariant-loop-i g l = TracksTurn g.K.Kind.facts.tests g.met.K.Kind.tests l.frames l.count l.initial.tracks.at l.initial.tracks.bytes.now l.initial.out l.i l.tracks.at l.tracks.bytes.now l.out
