use Rattle.std.proofs.Common.{◌≡◌, ◌-◌, ◌^◌, min, ◌&&◌, length, ap, ◌∙◌, arith}
use lib.Bits.{bit_and}
use Rattle.rows.specs.Bits.{bit}
use Rattle.rows.proofs.Trying.{begun_bits, masked_below, opened}
use Rattle.rows.proofs.Telling.{tells_more, tried, tried_past}
use Rattle.rows.proofs.Row.step.Goals as goal

pub passing_places-self-requires : goal.passing_places-self-requires
passing_places-self-requires g c = masked_below _ _ _ c.low_bits.ensures

pub returns : goal.returns
returns g c few history told =
    let passes = g.K.Kind.facts.passes in
    let tests = c.args.tests.now in
    let reading = c.args.reading.now in
    let word = c.args.self.now.word in
    let whole : min (length tests) 64 ≡ length tests = omega arith in
    tells_more passes tests history reading word _ told
    (λ i.
    c.passing_places-self.ensures i
    ∙ ap (λ v. bit i (bit_and (opened word) v) && tried passes tests reading i) (c.low_bits.ensures ∙ ap (λ n. 2 ^ n - 1) whole)
    ∙ begun_bits word (length tests) (tried passes tests reading) few (λ k h. tried_past passes tests reading k h) i)
