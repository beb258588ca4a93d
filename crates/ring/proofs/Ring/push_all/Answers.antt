use Rattle.std.proofs.Common.{◌∙◌, arith}
use Rattle.ring.specs.Rings.{holds}
use Rattle.ring.proofs.Tails.{pushed_more}
use Rattle.ring.proofs.Ring.push_all.Goals as goal

pub loop-item-preserved : goal.loop-item-preserved
loop-item-preserved g c =
    let held = c.loop-item.invariant in (
      pushed_more c.args.items.now (holds c.args.self.now) _ _ c.args.self.now.capacity _ c.loop-item.item-index c.item-item.result
          (omega arith) c.item-item.is held.2 held.0 c.push.ensures.holds,
      c.push.ensures.unused ∙ held.1,
      c.push.ensures.capacity ∙ held.2,
      c.push.ensures.lent ∙ held.3,
    )
