-- The refusals of a station: the number of each, and the head that 31 adds.
use Rattle.std.specs.Prelude.{ℕ, Some, None, Option}
use Rattle.station.specs.declared.refusal.Refusal.{Refusal}
use Rattle.station.specs.declared.refusal.Refusal.TheVariants.{Kind, Frame, Reading, Signature, Tail, Head, Plan, Tests}

abbrev pub number : Refusal → ℕ
number Kind = 13
number Frame = 30
number (Reading h) = 31
number Signature = 32
number Tail = 33
number Head = 34
number Plan = 35
number Tests = 36

-- a refusal in figures
pub record Told : Type 0 where
  pub number : ℕ
  pub head : Option ℕ

abbrev pub head_of : Refusal → Option ℕ
head_of Kind = None
head_of Frame = None
head_of (Reading h) = Some h
head_of Signature = None
head_of Tail = None
head_of Head = None
head_of Plan = None
head_of Tests = None

abbrev pub told : Refusal → Told
told e = record { number = number e; head = head_of e }

-- the refusal with this number, and the one that names a head
abbrev pub by_number : ℕ → Told
by_number n = record { number = n; head = None }

abbrev pub unlawful_at : ℕ → Told
unlawful_at h = record { number = 31; head = Some h }
