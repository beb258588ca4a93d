use Rattle.matching.specs.Members.{Sets}
use Rattle.matching.proofs.fits.Fits.of.Given as goal

-- The rows so far are as said.
abbrev pub invariant-loop-track : goal.invariant-loop-track
invariant-loop-track g l = Sets (g.W.Witness.Says l.witness) l.heads l.track l.row-items
