-- Counting the numbers below a bound that pass a test.
use Rattle.std.specs.Prelude.{ℕ, zero, suc, ◌+◌, Bool, false, if◌then◌else◌, ◌||◌}

-- How many numbers below n pass the test p.
abbrev pub count : (ℕ → Bool) → ℕ → ℕ
count p zero = 0
count p (suc n) = (if p 0 then 1 else 0) + count (λ x. p (suc x)) n

-- Does a number below n pass the test p?
abbrev pub any : (ℕ → Bool) → ℕ → Bool
any p zero = false
any p (suc n) = p 0 || any (λ x. p (suc x)) n

-- The least number below n that passes the test p, or n where none does.
abbrev pub least : (ℕ → Bool) → ℕ → ℕ
least p zero = 0
least p (suc n) = if p 0 then 0 else suc (least (λ x. p (suc x)) n)
