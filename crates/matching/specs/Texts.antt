-- An answer as text.
use Rattle.std.specs.Prelude.{ℕ, List, ◌∷◌, ◌++◌, codes, decimal}
use Rattle.std.specs.List.{flat_map}
use Rattle.matching.specs.Answer.{Answer, seen, short}

-- each head in decimal, with a blank before it
abbrev pub spaced : List ℕ → List ℕ
spaced hs = flat_map (λ h. 32 ∷ decimal h) hs

-- `seen` and the heads of the tracks, or `short` and the number of the set
abbrev pub answer_text : Answer → List ℕ
answer_text (seen hs) = codes "seen" ++ spaced hs
answer_text (short s) = codes "short " ++ decimal s
