use Rattle.station.proofs.Rechecking.{left_next, left_missed, left_absent}
use Rattle.station.proofs.recheck.passes_back.Goals as goal

pub returns-in_default : goal.returns-in_default
returns-in_default g c =
    left_absent g.K.Kind.facts.passes c.args.tail.now c.args.tests.now c.args.head
    c.loop-i.i c.loop-i.invariant c.loop-i-test.true c.index-tests-i.result c.index-tests-i.is c.in_default.ensures

pub returns-then-not-passes : goal.returns-then-not-passes
returns-then-not-passes g c =
    left_missed g.K.Kind.facts.passes c.args.tail.now c.args.tests.now c.args.head
    c.loop-i.i c.loop-i.invariant c.loop-i-test.true c.index-tests-i.result c.index-tests-i.is
    c.in-Some.reading c.passes.result c.in-Some.ensures c.passes.ensures c.if-not-passes.true

pub loop-i-preserved : goal.loop-i-preserved
loop-i-preserved g c =
    left_next g.K.Kind.facts.passes c.args.tail.now c.args.tests.now c.args.head
    c.loop-i.i c.loop-i.invariant c.loop-i-test.true c.index-tests-i.result c.index-tests-i.is
    c.in-Some.reading c.passes.result c.in-Some.ensures c.passes.ensures c.if-not-passes.false
