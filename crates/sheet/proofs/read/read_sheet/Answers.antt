use Rattle.std.proofs.Common.{Ok, Err, arith, rules}
use Rattle.std.proofs.lemmas.Result.{err_from_is_err_and}
use Rattle.sheet.proofs.Turns.{bytes_of}
use Rattle.sheet.proofs.Verdicts.{verdict}
use Rattle.sheet.proofs.read.read_sheet.Goals as goal

pub returns-in_err-plan-clause-whole : goal.returns-in_err-plan-clause-whole
returns-in_err-plan-clause-whole g c =
    let p = err_from_is_err_and c.from_residual.result c.from_residual.ensures.1 in
    rw (p.1, p.2)
    (verdict g.K.Kind.facts.code g.K.Kind.facts.tests g.met.K.Kind.tests c.args.bytes.now (bytes_of c.args.bytes.now (λ i. let f = c.type_inv.bytes i in omega arith)) c.args.store.now c.empty.result c.read_plan.new.store (Err c.in_err-plan.field-0.0) (search rules))

pub returns-clause-whole : goal.returns-clause-whole
returns-clause-whole g c =
    verdict g.K.Kind.facts.code g.K.Kind.facts.tests g.met.K.Kind.tests c.args.bytes.now (bytes_of c.args.bytes.now (λ i. let f = c.type_inv.bytes i in omega arith)) c.args.store.now c.in_ok-plan.field-0 c.read_plan.new.store (Ok tt) (search rules)
