use Rattle.std.proofs.Common.{sym, inl, inr, arith}
use Rattle.std.proofs.lemmas.Bool.{cases_lt}
use Rattle.std.proofs.lemmas.List.{length-set}
use Rattle.sheet.proofs.Cuts.{none_after}
use Rattle.bank.proofs.Moves.{moved_more, moved_same}
use Rattle.bank.proofs.Turns.{track_turn, signature_end}
use Rattle.bank.proofs.signature_rows.SignatureRows.step.Goals as goal

pub returns-in_default : goal.returns-in_default
returns-in_default g c =
    let e = c.args.entry.now in
    let store = c.args.store.now in
    let k = c.loop-t.t in
    signature_end g.K.Kind.facts.passes store e c.args.frame.now k _ _ (moved_same k _ c.loop-t.invariant.1)
    (λ t ts l at. elim (cases_lt t k) [ inl lt ↦ lt | inr ge ↦ absurd (none_after e k t store ts ge (sym c.in_default.ensures) at) ])

pub loop-t-preserved : goal.loop-t-preserved
loop-t-preserved g c = (
  simp length-set c.loop-t.invariant.0,
  moved_more _ c.loop-t.invariant.1 (omega (arith, c.loop-t.invariant.0))
      (track_turn g.K.Kind.facts.passes c.args.store.now c.args.entry.now c.args.frame.now c.loop-t.t c.in-Some.tests.now c.in-Some.ensures c.step.ensures),
)

pub returns : goal.returns
returns g c =
    signature_end g.K.Kind.facts.passes c.args.store.now c.args.entry.now c.args.frame.now c.loop-t.t _ _ c.loop-t.invariant.1 (λ t ts l at. omega arith)
