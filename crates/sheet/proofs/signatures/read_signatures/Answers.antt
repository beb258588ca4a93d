use Rattle.std.proofs.Common.{◌+◌, length, ap, sym, refl, arith, rules}
use Rattle.std.proofs.lemmas.Bool.{eqb-true}
use Rattle.std.proofs.lemmas.Result.{err_from_is_err_and}
use Rattle.std.proofs.lemmas.List.{length-drop}
use Rattle.sheetfile.proofs.Only.{bytes_drop}
use Rattle.sheet.proofs.Turns.{some_left, signatures_begin, bytes_of, signatures_end, signatures_cut, signatures_thirteenth, break_here, again_here}
use Rattle.sheet.proofs.signatures.read_signatures.Goals as goal

pub loop-rest-init : goal.loop-rest-init
loop-rest-init g c =
    signatures_begin _ _ _ _ _ _ _ _ refl (bytes_drop 5 c.args.bytes.now (bytes_of c.args.bytes.now (λ i. let f = c.type_inv.bytes i in omega arith))) c.behind-rest.result.at c.behind-rest.result.bytes.now c.behind-rest.ensures.at c.behind-rest.ensures.bytes

pub returns-in_err-body : goal.returns-in_err-body
returns-in_err-body g c =
    let p = err_from_is_err_and c.from_residual.result c.from_residual.ensures.1 in
    let some = some_left c.loop-rest.rest.bytes.now c.loop-rest-test.ensures in
    rw (p.1, p.2) (signatures_cut _ _ _ _ _ _ _ _ c.loop-rest.invariant c.in_err-body.field-0.0 some c.in_err-body.ensures)

pub returns-then-count-entries : goal.returns-then-count-entries
returns-then-count-entries g c =
    let some = some_left c.loop-rest.rest.bytes.now c.loop-rest-test.ensures in
    signatures_thirteenth _ _ _ _ _ _ _ _ c.loop-rest.invariant some c.in_ok-body.body.now c.in_ok-body.ensures _ c.at.ensures c.if-count-entries.true

pub returns-in_err-entry : goal.returns-in_err-entry
returns-in_err-entry g c =
    let some = some_left c.loop-rest.rest.bytes.now c.loop-rest-test.ensures in
    let p = err_from_is_err_and c.from_residual-in_err-entry.result c.from_residual-in_err-entry.ensures.1 in
    rw (p.1, p.2)
    (break_here _ _ _ _ _ _ _ _ c.loop-rest.invariant some c.in_ok-body.body.now c.in_ok-body.ensures (omega (arith, c.if-count-entries.false, c.loop-rest.invariant.few))
    c.front-field.result.bytes.now c.front-field.ensures.front c.front-field.result.at c.front-field.ensures.front_at c.read_signature.new.free c.in_err-entry.field-0.0 c.read_signature.auto.free c.in_err-entry.ensures)

pub loop-rest-smaller : goal.loop-rest-smaller
loop-rest-smaller g c =
    let some = some_left c.loop-rest.rest.bytes.now c.loop-rest-test.ensures in
    omega (arith, ap length c.front-field.ensures.rest, length-drop (3 + length c.in_ok-body.body.now) c.loop-rest.rest.bytes.now)

pub returns : goal.returns
returns g c = signatures_end _ _ _ _ _ _ _ _ c.loop-rest.invariant (eqb-true (length c.loop-rest.rest.bytes.now) 0 (sym c.loop-rest-test.ensures))

pub overflow_add-next-in-loop-rest : goal.overflow_add-next-in-loop-rest
overflow_add-next-in-loop-rest g c =
    let some = some_left c.loop-rest.rest.bytes.now c.loop-rest-test.ensures in
    let next = again_here _ _ _ _ _ _ _ _ c.loop-rest.invariant some c.in_ok-body.body.now c.in_ok-body.ensures (omega (arith, c.if-count-entries.false, c.loop-rest.invariant.few))
    c.front-field.result.bytes.now c.front-field.ensures.front c.front-field.result.at c.front-field.ensures.front_at c.read_signature.new.free c.in_ok-entry.entry c.front-field.new.self.bytes.now c.read_signature.auto.free c.front-field.ensures.rest c.in_ok-entry.ensures c.front-field.new.self.at c.tests.result c.front-field.ensures.rest_at c.tests.ensures in
    let h = next.fits.0 in
    search rules

pub loop-rest-preserved : goal.loop-rest-preserved
loop-rest-preserved g c =
    let some = some_left c.loop-rest.rest.bytes.now c.loop-rest-test.ensures in
    again_here _ _ _ _ _ _ _ _ c.loop-rest.invariant some c.in_ok-body.body.now c.in_ok-body.ensures (omega (arith, c.if-count-entries.false, c.loop-rest.invariant.few))
    c.front-field.result.bytes.now c.front-field.ensures.front c.front-field.result.at c.front-field.ensures.front_at c.read_signature.new.free c.in_ok-entry.entry c.front-field.new.self.bytes.now c.read_signature.auto.free c.front-field.ensures.rest c.in_ok-entry.ensures c.front-field.new.self.at c.tests.result c.front-field.ensures.rest_at c.tests.ensures
