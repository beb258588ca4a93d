use Rattle.std.proofs.Common.{◌≡◌, ◌++◌, reverse, take}
use Rattle.ring.specs.Rings.{holds, unused}
use Rattle.ring.proofs.Ring.push_all.Given as goal

abbrev pub invariant-loop-item : goal.invariant-loop-item
invariant-loop-item g l =
    (holds l.self ≡ take l.initial.self.capacity (reverse (take l.item-index l.items) ++ holds l.initial.self))
    × (unused l.self ≡ unused l.initial.self)
    × (l.self.capacity ≡ l.initial.self.capacity)
    × (l.self.slots.ghost_name ≡ l.initial.self.slots.ghost_name)
