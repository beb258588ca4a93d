-- Verdicts and refusals as text.
use Rattle.std.specs.Prelude.{ℕ, List, [], ◌∷◌, ◌++◌, codes, decimal, Some, None, Option}
use Rattle.matching.specs.Answer.{seen, short}
use Rattle.matching.specs.Texts.{answer_text}
use Rattle.runs.specs.Verdicts.{Verdict, young, seen_on, short_of}
use Rattle.station.specs.Refusals.{Told}

-- `young`, or as the answer of the matching
abbrev pub verdict_text : Verdict → List ℕ
verdict_text young = codes "young"
verdict_text (seen_on hs) = answer_text (seen hs)
verdict_text (short_of s) = answer_text (short s)

-- nothing, or a blank and the head
abbrev pub head_text : Option ℕ → List ℕ
head_text None = []
head_text (Some h) = 32 ∷ decimal h

-- the number, and the head that 31 adds
abbrev pub refusal_text : Told → List ℕ
refusal_text t = decimal t.number ++ head_text t.head
