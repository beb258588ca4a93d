use Rattle.std.proofs.Common.{sym, ◌∙◌}
use Rattle.station.specs.Snap.{snap}
use Rattle.replug.proofs.Twinned.{twins_moved, twins_other}
use Rattle.replug.proofs.twins.Twins.feed.Goals as goal

pub returns-then-is_ok-clause-kept : goal.returns-then-is_ok-clause-kept
returns-then-is_ok-clause-kept g c long =
    let o = c.args.self.now in
    twins_moved g.K.Kind.facts.readings.proper g.K.Kind.facts.passes o.order (snap o.home) (snap o.away) _ _
    c.args.frame.now c.plug.new.plugged c.args.plugged.now _ _ c.plug.result (sym c.is_ok.ensures.value ∙ c.if-is_ok.true) c.plug.ensures c.feed-answer.ensures c.feed.ensures

pub returns-else-is_ok-clause-kept : goal.returns-else-is_ok-clause-kept
returns-else-is_ok-clause-kept g c long =
    let o = c.args.self.now in
    twins_other g.K.Kind.facts.readings.proper g.K.Kind.facts.passes o.order (snap o.home) (snap o.away) _ _
    c.args.frame.now c.plug.new.plugged c.args.plugged.now _ _ c.plug.result (sym c.is_ok.ensures.value ∙ c.if-is_ok.false) long c.plug.ensures c.feed-answer.ensures c.feed-else-is_ok.ensures
