-- What a ring holds, and what it leaves alone.
use Rattle.std.specs.Prelude.{List, drop}
use Rattle.ring.specs.Latest.{latest}
use Rattle.ring.specs.declared.Ring.{Ring}

-- The items held, newest first.
abbrev pub holds : {X : Type 0} → Ring X → List X
holds r = latest r.slots.now r.capacity r.next r.count

-- The lent slots past the capacity.
abbrev pub unused : {X : Type 0} → Ring X → List X
unused r = drop r.capacity r.slots.now
