-- How many tracks can stand on different heads at once, where not all can.
use Rattle.std.specs.Prelude.{◌≡◌, ℕ, zero, suc, ◌-◌, ◌^◌, ◌<◌, max, Bool, true, ◌≢◌}
use Rattle.matching.specs.Count.{count}
use Rattle.matching.specs.Sets.{has}
use Rattle.matching.specs.Fitting.{Fitting}
use Rattle.matching.specs.Short.{usable}

-- The tracks below M that are `on` stand on different heads below N that fit them: track t on the head `at t`.
pub record PlacesPart (fits : Fitting) (M N : ℕ) (on : ℕ → Bool) (at : ℕ → ℕ) : Type 0 where
  pub below : (t : ℕ) → t < M → on t ≡ true → at t < N
  pub fit : (t : ℕ) → t < M → on t ≡ true → fits t (at t) ≡ true
  pub apart : (t u : ℕ) → t < u → u < M → on t ≡ true → on u ≡ true → at t ≢ at u

-- How many more tracks the set has than heads that fit it; 0 if no more.
abbrev pub excess : Fitting → ℕ → ℕ → (ℕ → Bool) → ℕ
excess fits M N set = count set M - count (usable fits set M) N

-- The greatest of f 0, f 1, .. f (n - 1).
abbrev pub greatest : (ℕ → ℕ) → ℕ → ℕ
greatest f zero = 0
greatest f (suc n) = max (f n) (greatest f n)

-- All tracks but the greatest excess of a set.
abbrev pub most : Fitting → ℕ → ℕ → ℕ
most fits M N = M - greatest (λ s. excess fits M N (has s)) (2 ^ M)
