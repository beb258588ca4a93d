use Rattle.std.proofs.Common.{sym, ap, ◌∙◌, arith}
use Rattle.std.proofs.lemmas.Bool.{le-ltb}
use Rattle.matching.specs.Sets.{has}
use Rattle.matching.proofs.Rows.{get_d_past}
use Rattle.matching.proofs.Words.{has_none}
use Rattle.matching.proofs.fits.Fits.contains.Goals as goal

pub returns-else-track-lt-MOST_TRACKS : goal.returns-else-track-lt-MOST_TRACKS
returns-else-track-lt-MOST_TRACKS c =
    let past = get_d_past c.args.self.now.rows c.args.track (omega arith) in
    le-ltb c.args.track 8 (omega arith) ∙ sym (ap (λ r. has r c.args.head) past ∙ has_none c.args.head)
