use Rattle.matching.specs.Members.{Members}
use Rattle.matching.proofs.fits.making.heads_said.Given as goal

abbrev pub invariant-loop-head : goal.invariant-loop-head
invariant-loop-head g l = Members (g.W.Witness.Says l.witness l.track) l.head l.set.number
