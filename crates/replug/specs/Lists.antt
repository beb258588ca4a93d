-- Lists of as many sockets as heads, in order: the last place goes fastest.
use Rattle.std.specs.Prelude.{◌≡◌, ℕ, ◌+◌, ◌-◌, ◌<◌, ◌≤◌, Bool, true, false, List, ◌∷◌, ◌++◌, length, take, replicate, slice_index}

-- the last socket stands at place k
abbrev pub Last : List ℕ → ℕ → Type 0
Last plugs k = length plugs ≤ slice_index plugs k + 1

-- `new` is the list behind `old`: place p has the next socket, and behind it, where the last sockets stood, are first ones
pub record Next (old new : List ℕ) : Type 0 where
  pub place : ℕ
  pub below : place < length old
  pub more : slice_index old place + 1 < length old
  pub behind : (k : ℕ) → place < k → k < length old → Last old k
  pub new_is : new ≡ take place old ++ (slice_index old place + 1) ∷ replicate (length old - (place + 1)) 0

-- the flag says whether there is a list behind `old`; behind the last comes the first
abbrev pub Advances : List ℕ → Bool → List ℕ → Type 0
Advances old true new = Next old new
Advances old false new = ((k : ℕ) → k < length old → Last old k) × (new ≡ replicate (length old) 0)
