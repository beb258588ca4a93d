use Rattle.std.proofs.Common.{◌≡◌, get_or, sym, ◌∙◌, arith, rules}
use Rattle.sheetfile.specs.Limits.{most_heads, within}
use Rattle.sheet.proofs.Turns.{bytes_of}
use Rattle.sheet.proofs.Plans.{blank_is}
use Rattle.sheet.proofs.Heads.{rule_kept, rule_done}
use Rattle.sheet.proofs.read.read_plan.Goals as goal

pub with-requires : goal.with-requires
with-requires g c =
    let some : c.contains.result ≡ within 1 most_heads (get_or c.in_ok-head.head.now 1 0) = search rules in
    rule_kept _ _ _ _ c.in_ok-head.head.now c.in_ok-head.ensures (omega arith) (c.if-code-CODE.false ∙ c.CODE.ensures ∙ g.met.K.Kind.code_is) (sym some ∙ c.if-not-contains.false) c.if-bytes-eq-HEAD_SIZE.false g.met.K.Kind.coded g.met.K.Kind.tests (bytes_of c.args.bytes.now (λ i. let f = c.type_inv.bytes i in omega arith)) c.in_ok-count.count _ (blank_is _ c.default-entries.ensures) c.in_ok-count.ensures

pub returns : goal.returns
returns g c =
    let some : c.contains.result ≡ within 1 most_heads (get_or c.in_ok-head.head.now 1 0) = search rules in
    rule_done _ _ _ _ c.in_ok-head.head.now c.in_ok-head.ensures (omega arith) (c.if-code-CODE.false ∙ c.CODE.ensures ∙ g.met.K.Kind.code_is) (sym some ∙ c.if-not-contains.false) c.if-bytes-eq-HEAD_SIZE.false g.met.K.Kind.coded g.met.K.Kind.tests (bytes_of c.args.bytes.now (λ i. let f = c.type_inv.bytes i in omega arith)) c.in_ok-count.count _ (blank_is _ c.default-entries.ensures) c.in_ok-count.ensures _ c.with.ensures.code c.with.ensures.heads c.with.ensures.count c.with.ensures.entries
