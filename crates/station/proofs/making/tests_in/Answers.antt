use Rattle.std.proofs.Common.{rules, ◌≡◌, ◌*◌, sum_by, ◌∙◌}
use Rattle.station.proofs.Entries.{tests_summed}
use Rattle.station.proofs.making.tests_in.Goals as goal

pub returns : goal.returns
returns c =
    let sum : c.sum.result ≡ sum_by (λ e. e.tracks * e.frames) c.args.entries.now = search rules in
    sum ∙ tests_summed c.args.entries.now
