use Rattle.std.proofs.Common.{◌≡◌, take, drop, length, ap, ◌∙◌, arith}
use Rattle.std.proofs.lemmas.List.{set-get_or}
use Rattle.sheetfile.specs.declared.fault.Cause.TheVariants.{Test}
use Rattle.sheetfile.specs.Card.{fault}
use Rattle.sheet.proofs.Filling.{less_long, fill_next, fill_break, fill_end}
use Rattle.sheet.proofs.track.read_tests.Goals as goal

pub returns-in_default : goal.returns-in_default
returns-in_default g c =
    let wide : c.W.result ≡ g.K.Kind.facts.tests.width = c.W.ensures ∙ g.met.K.Kind.test_width_is in
    rw set-get_or
    (fill_break _ _ _ _ _ c.loop-slot.invariant.filling (omega arith) (omega arith) c.at.result (c.at.ensures ∙ ap (fault Test) c.front-next.ensures.front_at) c.front-next.result.bytes.now (c.front-next.ensures.front ∙ ap (λ w. take w c.loop-slot.tests.bytes.now) wide) c.in_default.ensures)

pub loop-slot-preserved : goal.loop-slot-preserved
loop-slot-preserved g c =
    let w = g.K.Kind.facts.tests.width in
    let wide : c.W.result ≡ w = c.W.ensures ∙ g.met.K.Kind.test_width_is in
    let rest = c.loop-slot.tests.bytes.now in
    let goes = c.front-next.ensures.rest ∙ ap (λ w. drop w rest) wide in
    record {
      filling = fill_next _ _ _ _ _ c.loop-slot.invariant.filling (omega arith) c.in-Some.test c.front-next.result.bytes.now c.front-next.new.self.bytes.now (c.front-next.ensures.front ∙ ap (λ w. take w rest) wide) goes c.in-Some.ensures c.front-next.new.self.at (λ near. omega arith);
      long = omega (arith, less_long _ c.loop-slot.slot-index w rest (omega arith) c.loop-slot.invariant.long, ap length goes);
    }

pub returns : goal.returns
returns g c = fill_end _ _ _ _ _ c.loop-slot.invariant.filling (omega arith) (omega arith)
