-- Lists of calls of a station, and the run that they leave.
use Rattle.std.specs.Prelude.{◌≡◌, ℕ, ◌+◌, Bool, true, false, cond, List, [], ◌∷◌, length, ◌≢◌}
use Rattle.runs.specs.Frames.{accepts}
use Rattle.runs.specs.Plugs.{Moved}

-- a call: a frame that is fed, a gap, a look at the signature in a position, a look-back by q frames at a head, a recheck
pub data Call (R : Type 0) : Type 0 where
  feed : List R → Call R
  gap : Call R
  look : ℕ → Call R
  look_back : ℕ → ℕ → Call R
  recheck : ℕ → Call R

-- the run after a call: an accepted frame is added, a gap empties it, all else leaves it
abbrev pub after : {R : Type 0} → (R → Bool) → ℕ → List (List R) → Call R → List (List R)
after lawful N run (feed frame) = cond (accepts lawful N frame) (frame ∷ run) run
after lawful N run gap = []
after lawful N run (look p) = run
after lawful N run (look_back q h) = run
after lawful N run (recheck p) = run

-- the run after a list of calls
abbrev pub ran : {R : Type 0} → (R → Bool) → ℕ → List (List R) → List (Call R) → List (List R)
ran lawful N run [] = run
ran lawful N run (c ∷ cs) = ran lawful N (after lawful N run c) cs

-- how many frames a list of calls has accepted
abbrev pub accepted : {R : Type 0} → (R → Bool) → ℕ → List (Call R) → ℕ
accepted lawful N [] = 0
accepted lawful N (feed frame ∷ cs) = cond (accepts lawful N frame) 1 0 + accepted lawful N cs
accepted lawful N (gap ∷ cs) = accepted lawful N cs
accepted lawful N (look p ∷ cs) = accepted lawful N cs
accepted lawful N (look_back q h ∷ cs) = accepted lawful N cs
accepted lawful N (recheck p ∷ cs) = accepted lawful N cs

-- there is a gap among the calls
abbrev pub gapped : {R : Type 0} → List (Call R) → Bool
gapped [] = false
gapped (feed frame ∷ cs) = gapped cs
gapped (gap ∷ cs) = true
gapped (look p ∷ cs) = gapped cs
gapped (look_back q h ∷ cs) = gapped cs
gapped (recheck p ∷ cs) = gapped cs

-- what is fed reaches the other line: a full frame, lawful or not, moved by the plug order, and anything else as it is
pub record Reaches {R : Type 0} (N : ℕ) (to : ℕ → ℕ) (f g : List R) : Type 0 where
  pub full : length f ≡ N → Moved N to f g
  pub other : (length f ≢ N) → g ≡ f

-- the same call, over the other line
abbrev pub SameCall : {R : Type 0} → ℕ → (ℕ → ℕ) → Call R → Call R → Type 0
SameCall {R = R} N to (feed f) d = (g : List R) × (d ≡ feed g) × Reaches N to f g
SameCall N to gap d = d ≡ gap
SameCall N to (look p) d = d ≡ look p
SameCall N to (look_back q h) d = d ≡ look_back q h
SameCall N to (recheck p) d = d ≡ recheck p

-- the same calls, over the other line
abbrev pub Replugged : {R : Type 0} → ℕ → (ℕ → ℕ) → List (Call R) → List (Call R) → Type 0
Replugged N to [] [] = Unit {0}
Replugged N to [] (d ∷ ds) = ⊥
Replugged N to (c ∷ cs) [] = ⊥
Replugged N to (c ∷ cs) (d ∷ ds) = SameCall N to c d × Replugged N to cs ds
