-- Scales of numbers that a head reads, and intervals on them.
use Rattle.std.specs.Prelude.{ℕ, ◌+◌, Bool, ◌&&◌, List, ◌++◌, codes}
use Rattle.kinds.specs.declared.scale.Interval.{Interval}
use Rattle.kinds.specs.Bytes.{pair, word}

pub record Scaled (X : Type 0) : Type 0 where
  -- what is read, and a number in plain figures with its unit
  pub name : List ℕ
  pub figures : X → List ℕ
  -- whether the one is at most the other
  pub le : X → X → Bool
  -- the lawful numbers reach from the least to the most
  pub least : X
  pub most : X
  -- a number as 16 bits, and the number that 16 bits are
  pub bits : X → ℕ
  pub value : ℕ → X

module _ {X : Type 0} (s : Scaled X) where
  abbrev pub lawful : X → Bool
  lawful x = s.le s.least x && s.le x s.most

  -- low, then high, both lawful and in order
  abbrev pub sound : Interval X → Bool
  sound t = s.le s.least t.low && (s.le t.low t.high && s.le t.high s.most)

  -- from low to high, both ends within
  abbrev pub within : Interval X → X → Bool
  within t x = s.le t.low x && s.le x t.high

  abbrev pub interval_bytes : Interval X → List ℕ
  interval_bytes t = pair (s.bits t.low) ++ pair (s.bits t.high)

  -- the interval whose low end stands at place i and its high end behind it
  abbrev pub interval_at : List ℕ → ℕ → Interval X
  interval_at bs i = record { low = s.value (word bs i); high = s.value (word bs (i + 2)) }

  -- as `moisture 6.05 % to 7.50 %`
  abbrev pub interval_text : Interval X → List ℕ
  interval_text t = s.name ++ (codes " " ++ (s.figures t.low ++ (codes " to " ++ s.figures t.high)))
