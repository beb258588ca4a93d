-- What a run file brings: frames and gaps, in order.
use Rattle.std.specs.Prelude.{ℕ, suc, List, [], ◌∷◌}

pub data Event (R : Type 0) : Type 0 where
  frame : List R → Event R
  gap : Event R

-- how many frames there are, and how many gaps
abbrev pub frames_of : {R : Type 0} → List (Event R) → ℕ
frames_of [] = 0
frames_of (frame f ∷ es) = suc (frames_of es)
frames_of (gap ∷ es) = frames_of es

abbrev pub gaps_of : {R : Type 0} → List (Event R) → ℕ
gaps_of [] = 0
gaps_of (frame f ∷ es) = gaps_of es
gaps_of (gap ∷ es) = suc (gaps_of es)

-- the run after them, newest frame first, from a run before: a frame is added, a gap empties it
abbrev pub run_after : {R : Type 0} → List (List R) → List (Event R) → List (List R)
run_after run [] = run
run_after run (frame f ∷ es) = run_after (f ∷ run) es
run_after run (gap ∷ es) = run_after [] es
