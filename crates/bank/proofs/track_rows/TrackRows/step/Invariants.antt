use Rattle.std.proofs.Common.{◌≡◌, length}
use Rattle.bank.specs.Words.{blank}
use Rattle.bank.proofs.Moves.{Moved}
use Rattle.bank.proofs.Turns.{HeadRule}
use Rattle.bank.proofs.track_rows.TrackRows.step.Given as goal

abbrev pub invariant-loop-h : goal.invariant-loop-h
invariant-loop-h g l =
    (length l.row-items ≡ 8)
    × Moved (HeadRule g.K.Kind.facts.passes l.tests l.frame) blank l.h l.initial.row-items l.row-items
