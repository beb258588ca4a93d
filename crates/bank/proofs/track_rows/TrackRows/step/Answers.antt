use Rattle.std.proofs.Common.{arith}
use Rattle.std.proofs.lemmas.List.{length-set}
use Rattle.bank.proofs.Moves.{moved_more}
use Rattle.bank.proofs.Turns.{head_turn}
use Rattle.bank.proofs.track_rows.TrackRows.step.Goals as goal

pub loop-h-preserved : goal.loop-h-preserved
loop-h-preserved g c =
    let read = c.in-Some.ensures.lookup in
    (simp length-set c.loop-h.invariant.0, moved_more _ c.loop-h.invariant.1 (omega (arith, c.loop-h.invariant.0)) (head_turn g.K.Kind.facts.passes c.args.tests.now c.args.frame.now c.loop-h.h c.in-Some.reading.now _ _ _ (omega (arith, read.0)) read.1 (record { tells = c.step.ensures })))
