-- What is counted over all plug orders.
use Rattle.std.specs.Prelude.{ℕ, ◌+◌, ◌≡◌, Bool, true, false, List, ◌++◌, ◌==◌, if◌then◌else◌, min, codes, decimal}
use Rattle.replug.specs.declared.showing.Tally.{Tally}

-- a count stops at the most that 64 bits hold
abbrev pub more : ℕ → ℕ
more n = min (n + 1) 18446744073709551615

-- one more verdict that agrees, or one more that differs
abbrev pub Counts : Tally → Bool → Tally → Type 0
Counts old true new = new ≡ record old { agreed = more old.agreed }
Counts old false new = new ≡ record old { differed = more old.differed }

-- how many orders and verdicts there were, and whether all agree
abbrev pub tally_text : Tally → List ℕ
tally_text t =
    if t.differed == 0
    then decimal t.orders ++ (codes " plug orders, " ++ (decimal t.agreed ++ codes " verdicts: every verdict agrees"))
    else decimal t.orders ++ (codes " plug orders: " ++ (decimal t.agreed ++ (codes " verdicts agree, " ++ (decimal t.differed ++ codes " differ"))))
