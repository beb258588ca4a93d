use Rattle.std.proofs.Common.{length, refl, ap, ◌∙◌, rules}
use Rattle.replug.proofs.Carried.{carried}
use Rattle.replug.proofs.showing.Showing.show_all.Goals as goal

pub returns-in_err-show_sockets : goal.returns-in_err-show_sockets
returns-in_err-show_sockets g c =
    let i = c.loop.invariant in
    record {
      differed = λ one other long.
          carried _ _ _ _ _ _ _ _ _ _ _ c.min.result _ _ (ap (λ p. p.now) i.plan) (ap (λ t. length t.now) i.tests) i.at_home i.far i.long refl (search rules) i.sockets c.show_sockets.ensures.differed one other long ∙ i.differed one other long;
    }

pub loop-preserved : goal.loop-preserved
loop-preserved g c =
    let i = c.loop.invariant in
    record {
      plan = c.show_sockets.ensures.plan ∙ i.plan;
      tests = c.show_sockets.ensures.tests ∙ i.tests;
      at_home = search rules;
      far = search rules;
      long = search rules;
      sockets = search rules;
      differed = λ one other long.
          carried _ _ _ _ _ _ _ _ _ _ _ c.min.result _ _ (ap (λ p. p.now) i.plan) (ap (λ t. length t.now) i.tests) i.at_home i.far i.long refl (search rules) i.sockets c.show_sockets.ensures.differed one other long ∙ i.differed one other long;
    }

pub returns-then-not-advance : goal.returns-then-not-advance
returns-then-not-advance g c =
    let i = c.loop.invariant in
    record {
      differed = λ one other long.
          carried _ _ _ _ _ _ _ _ _ _ _ c.min.result _ _ (ap (λ p. p.now) i.plan) (ap (λ t. length t.now) i.tests) i.at_home i.far i.long refl (search rules) i.sockets c.show_sockets.ensures.differed one other long ∙ i.differed one other long;
    }
