use Rattle.matching.specs.Meaning.{fitting}
use Rattle.matching.proofs.Heads.{Joined}
use Rattle.matching.proofs.fits.Fits.heads_for.Given as goal

abbrev pub invariant-loop-track : goal.invariant-loop-track
invariant-loop-track l = Joined (fitting l.self) 8 l.fn.set.number l.heads.number l.track-iterator.left
