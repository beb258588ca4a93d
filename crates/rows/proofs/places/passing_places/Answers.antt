use Rattle.std.proofs.Common.{◌≡◌, ℕ, ◌^◌, ◌<◌, true, ◌&&◌, ◌||◌, sym, ap, ◌∙◌, arith}
use mathlib.Core.Bool.{or-false}
use Rattle.members.specs.Takes.{TakesLeast}
use Rattle.rows.specs.Bits.{bit}
use Rattle.rows.proofs.Bits.{bit_none}
use Rattle.rows.proofs.Trying.{kept, set_below, least_on, left_within, passed, missed}
use Rattle.rows.proofs.Telling.{tried, tried_at}
use Rattle.rows.proofs.places.passing_places.Goals as goal

pub loop-i-init : goal.loop-i-init
loop-i-init g c =
    let all : c.into_iter-i-iterator.result.left ≡ c.args.begun = search in
    let pass = tried g.K.Kind.facts.passes c.args.tests.now c.args.reading.now in (
      λ k on. sym (ap (bit k) all) ∙ on,
      λ k. ap (λ b. b || (bit k c.into_iter-i-iterator.result.left && pass k)) (bit_none k) ∙ ap (λ n. bit k n && pass k) all,
    )

-- a place that is left lies within the tests
within : (left i rest begun : ℕ) (n : ℕ) → TakesLeast left i rest → ((k : ℕ) → bit k left ≡ true → bit k begun ≡ true) → begun < 2 ^ n → i < n
within left i rest begun n t held small = set_below i begun n (held i (least_on left i rest t)) small

pub bounds-tests-i : goal.bounds-tests-i
bounds-tests-i g c = within _ _ _ c.args.begun _ c.in-Some.ensures.steps c.loop-i.invariant.0 c.requires

pub offset_bounds-tests-i : goal.offset_bounds-tests-i
offset_bounds-tests-i g c = let here = within _ _ _ c.args.begun _ c.in-Some.ensures.steps c.loop-i.invariant.0 c.requires in omega (arith, here)

pub loop-i-preserved-then-passes : goal.loop-i-preserved-then-passes
loop-i-preserved-then-passes g c =
    let passes = g.K.Kind.facts.passes in
    let t = c.in-Some.ensures.steps in
    let here = within _ _ _ c.args.begun _ t c.loop-i.invariant.0 c.requires in
    let at = tried_at passes c.args.tests.now c.args.reading.now c.in-Some.i c.index-tests-i.result here c.index-tests-i.is in (
      λ k on. c.loop-i.invariant.0 k (left_within _ _ _ t k on),
      λ k. passed _ _ _ t (tried passes c.args.tests.now c.args.reading.now) c.loop-i.next (at ∙ sym c.if-passes.ensures) k ∙ c.loop-i.invariant.1 k,
    )

pub loop-i-preserved : goal.loop-i-preserved
loop-i-preserved g c =
    let passes = g.K.Kind.facts.passes in
    let t = c.in-Some.ensures.steps in
    let here = within _ _ _ c.args.begun _ t c.loop-i.invariant.0 c.requires in
    let at = tried_at passes c.args.tests.now c.args.reading.now c.in-Some.i c.index-tests-i.result here c.index-tests-i.is in (
      λ k on. c.loop-i.invariant.0 k (left_within _ _ _ t k on),
      λ k. missed _ _ _ t (tried passes c.args.tests.now c.args.reading.now) c.loop-i.next (at ∙ sym c.if-passes.ensures) k ∙ c.loop-i.invariant.1 k,
    )

pub returns : goal.returns
returns g c i =
    let pass = tried g.K.Kind.facts.passes c.args.tests.now c.args.reading.now in
    let none : c.loop-i.i-iterator.left ≡ 0 = c.in-None.ensures.steps in
    sym (ap (λ n. kept pass c.loop-i.next n i) none ∙ ap (λ b. bit i c.loop-i.next || (b && pass i)) (bit_none i) ∙ or-false _) ∙ c.loop-i.invariant.1 i
