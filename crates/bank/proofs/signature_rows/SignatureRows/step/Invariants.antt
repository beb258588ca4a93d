use Rattle.std.proofs.Common.{◌≡◌, length}
use Rattle.bank.specs.Words.{no_heads}
use Rattle.bank.proofs.Moves.{Moved}
use Rattle.bank.proofs.Turns.{TrackRule}
use Rattle.bank.proofs.signature_rows.SignatureRows.step.Given as goal

abbrev pub invariant-loop-t : goal.invariant-loop-t
invariant-loop-t g l =
    (length l.track-items ≡ 8)
    × Moved (TrackRule g.K.Kind.facts.passes l.store l.entry l.frame) no_heads l.t l.initial.track-items l.track-items
