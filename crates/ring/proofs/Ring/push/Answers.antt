use Rattle.std.proofs.Common.{arith}
use Rattle.ring.proofs.Turn.{turn}
use Rattle.ring.proofs.Ring.push.Goals as goal

pub returns-clause-holds : goal.returns-clause-holds
returns-clause-holds g c =
    let s = c.args.self.now in
    turn s.slots.now s.capacity s.next s.count _ _ c.args.item s.sound (omega (arith, s.sound.place))
    c.place_after-self.ensures.on c.place_after-self.ensures.round (omega arith)
