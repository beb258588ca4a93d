use Rattle.station.proofs.Rechecking.{Left}
use Rattle.station.proofs.recheck.passes_back.Given as goal

abbrev pub invariant-loop-i : goal.invariant-loop-i
invariant-loop-i g l = Left g.K.Kind.facts.passes l.tail l.tests l.head l.i
