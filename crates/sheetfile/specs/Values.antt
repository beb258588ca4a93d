-- Reading the values of a coding, one after another.
use Rattle.std.specs.Prelude.{ℕ, zero, suc, ◌+◌, List, [], ◌∷◌, take, drop, Some, None, Option}
use Rattle.kinds.specs.Codings.{Coding}
use Rattle.sheetfile.specs.declared.fault.Cause.{Cause}
use Rattle.sheetfile.specs.Card.{fault}
use Rattle.sheetfile.specs.Outcomes.{Outcome, stop, give, into}

-- one value, and the values that follow it; the cause is that of bytes which read as none
abbrev pub one_value : {T : Type 0} → Cause → Option T → ℕ → Outcome T (List T) → Outcome T (List T)
one_value cause None at r = stop (fault cause at)
one_value cause (Some t) at r = record { tests = t ∷ r.tests; end = (into (λ ts. t ∷ ts) r).end }

-- so many values of a coding, one after another
unfoldable pub values_read : {T : Type 0} → Cause → Coding T → ℕ → ℕ → List ℕ → Outcome T (List T)
values_read cause k zero at xs = give []
values_read cause k (suc m) at xs =
    one_value cause (k.reads (take k.width xs)) at (values_read cause k m (at + k.width) (drop k.width xs))
