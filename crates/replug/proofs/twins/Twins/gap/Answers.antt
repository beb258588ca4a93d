use Rattle.std.proofs.Common.{refl}
use Rattle.runs.specs.Calls.{gap}
use Rattle.station.specs.Snap.{snap}
use Rattle.replug.proofs.Twinned.{twins_on}
use Rattle.replug.proofs.twins.Twins.gap.Goals as goal

pub returns-clause-kept : goal.returns-clause-kept
returns-clause-kept g c =
    let o = c.args.self.now in
    twins_on g.K.Kind.facts.readings.proper g.K.Kind.facts.passes o.order (snap o.home) (snap o.away) _ _ gap gap refl c.gap.ensures c.gap-2.ensures
