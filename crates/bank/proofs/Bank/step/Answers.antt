use Rattle.std.proofs.Common.{◌≤◌, length, sym, arith}
use Rattle.std.proofs.lemmas.Bool.{ltb-false}
use Rattle.std.proofs.lemmas.List.{length-set}
use Rattle.bank.proofs.Agreeing.{agrees_more}
use Rattle.bank.proofs.Items.{nth_below}
use Rattle.bank.proofs.Moves.{moved_more, moved_same}
use Rattle.bank.proofs.Turns.{entry_turn}
use Rattle.bank.proofs.Bank.step.Goals as goal

pub returns-in_default : goal.returns-in_default
returns-in_default g c run =
    let past : length c.args.entries.now ≤ c.loop-p.p = ltb-false _ _ (sym c.in_default.ensures.lookup.0) in
    let m = moved_same c.loop-p.p _ c.loop-p.invariant.1 in
    agrees_more g.K.Kind.facts.passes c.args.entries.now c.args.tests.now c.args.frame.now c.args.self.now _ run
    (λ p e l at. m.done p (omega (arith, nth_below c.args.entries.now p e at)) e at)

pub loop-p-preserved : goal.loop-p-preserved
loop-p-preserved g c =
    let read = c.in-Some.ensures.lookup in (
      simp length-set c.loop-p.invariant.0,
      moved_more _ c.loop-p.invariant.1 (omega (arith, c.loop-p.invariant.0))
          (entry_turn g.K.Kind.facts.passes c.args.tests.now c.args.entries.now c.args.frame.now c.loop-p.p c.in-Some.entry.now _ (omega (arith, read.0)) read.1 c.step.ensures),
    )

pub returns : goal.returns
returns g c run =
    agrees_more g.K.Kind.facts.passes c.args.entries.now c.args.tests.now c.args.frame.now c.args.self.now _ run
    (λ p e l at. c.loop-p.invariant.1.done p (omega arith) e at)
