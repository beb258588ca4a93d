use Rattle.std.proofs.Common.{◌∙◌}
use Rattle.station.specs.Snap.{snap}
use Rattle.replug.proofs.Twinned.{twins_agree}
use Rattle.replug.proofs.twins.Twins.look.Goals as goal

pub returns-clause-agree : goal.returns-clause-agree
returns-clause-agree g c h =
    let o = c.args.self.now in
    c.same_answer-agree.ensures
    ∙ twins_agree g.K.Kind.facts.readings.proper g.K.Kind.facts.passes o.order (snap o.home) (snap o.away) c.args.position _ _ h c.look-home.ensures c.look-away.ensures
