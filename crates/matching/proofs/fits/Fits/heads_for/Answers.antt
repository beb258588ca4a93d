use Rattle.std.proofs.Common.{ap, arith}
use Rattle.matching.specs.Sets.{has}
use Rattle.matching.specs.Meaning.{fitting}
use Rattle.matching.proofs.Words.{least_of}
use Rattle.matching.proofs.Heads.{joined_none, joined_more}
use Rattle.matching.proofs.fits.Fits.heads_for.Goals as goal

pub loop-track-init : goal.loop-track-init
loop-track-init c = rw (c.into_iter-track-iterator.ensures.into_iter_gives, c.members-track-items.ensures) (joined_none (fitting c.args.self.now) 8 c.args.set.number (omega arith))

pub row-requires : goal.row-requires
row-requires c = c.loop-track.invariant.low c.in-Some.track (least_of c.in-Some.ensures.steps).member

pub loop-track-preserved : goal.loop-track-preserved
loop-track-preserved c =
    joined_more (fitting c.args.self.now) c.loop-track.invariant (least_of c.in-Some.ensures.steps) (λ h. ap (λ r. has r h) c.row.ensures) c.bitor_assign.ensures.after
