use Rattle.std.proofs.Common.{◌≡◌, length}
use Rattle.bank.specs.Words.{no_tracks}
use Rattle.bank.proofs.Moves.{Moved}
use Rattle.bank.proofs.Turns.{EntryRule}
use Rattle.bank.proofs.Bank.step.Given as goal

abbrev pub invariant-loop-p : goal.invariant-loop-p
invariant-loop-p g l =
    (length l.signature-items ≡ 12)
    × Moved (EntryRule g.K.Kind.facts.passes l.tests l.entries l.frame) no_tracks l.p l.initial.signature-items l.signature-items
