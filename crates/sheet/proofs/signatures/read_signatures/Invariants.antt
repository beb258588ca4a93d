use Rattle.std.proofs.Common.{length, drop}
use Rattle.sheet.proofs.Turns.{SignaturesTurn}
use Rattle.sheet.proofs.signatures.read_signatures.Given as goal

abbrev pub invariant-loop-rest : goal.invariant-loop-rest
invariant-loop-rest g l =
    SignaturesTurn g.K.Kind.facts.tests g.met.K.Kind.tests (length l.initial.store) l.heads 5 (drop 5 l.bytes) l.initial.store l.initial.entries l.count l.next.least l.next.first l.rest.at l.rest.bytes.now l.entries l.store

abbrev pub decreases-loop-rest : goal.decreases-loop-rest
decreases-loop-rest g l = length l.rest.bytes.now
