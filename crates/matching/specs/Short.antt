-- Sets of tracks with too few heads.
use Rattle.std.specs.Prelude.{ℕ, ◌^◌, ◌<◌, Bool, ◌&&◌, nat_lt}
use Rattle.matching.specs.Count.{count, any}
use Rattle.matching.specs.Sets.{has}
use Rattle.matching.specs.Fitting.{Fitting}

-- Does the head h fit at least one track below M of the set?
abbrev pub usable : Fitting → (ℕ → Bool) → ℕ → ℕ → Bool
usable fits set M h = any (λ t. set t && fits t h) M

-- The heads below N that fit at least one track of the set are fewer than its tracks.
abbrev pub Short : Fitting → ℕ → ℕ → (ℕ → Bool) → Type 0
Short fits M N set = count (usable fits set M) N < count set M

-- The same as a test.
abbrev pub is_short_set : Fitting → ℕ → ℕ → (ℕ → Bool) → Bool
is_short_set fits M N set = nat_lt (count (usable fits set M) N) (count set M)

-- s is the least number of a short set of tracks.
pub record LeastShort (fits : Fitting) (M N s : ℕ) : Type 0 where
  pub below : s < 2 ^ M
  pub short : Short fits M N (has s)
  pub least : (r : ℕ) → r < s → Short fits M N (has r) → ⊥
