use Rattle.std.proofs.Common.{◌≡◌, ℕ, true, ◌&&◌}
use Rattle.rows.specs.Bits.{bit}
use Rattle.rows.proofs.Trying.{kept}
use Rattle.rows.proofs.Telling.{tried}
use Rattle.rows.proofs.places.passing_places.Given as goal

abbrev pub invariant-loop-i : goal.invariant-loop-i
invariant-loop-i g l =
    ((k : ℕ) → bit k l.i-iterator.left ≡ true → bit k l.begun ≡ true)
    × ((k : ℕ) → kept (tried g.K.Kind.facts.passes l.tests l.reading) l.next l.i-iterator.left k ≡ (bit k l.begun && tried g.K.Kind.facts.passes l.tests l.reading k))
