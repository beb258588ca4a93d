-- What the outcome of a table promises.
use Rattle.std.specs.Prelude.{◌≡◌, ℕ}
use Rattle.matching.specs.declared.fits.Fits.{Fits}
use Rattle.matching.specs.Fitting.{Fitting, Alike}
use Rattle.matching.specs.Answer.{Answer, answer, Right}
use Rattle.matching.specs.Renaming.{Renames, Unmoved, SameWord}
use Rattle.matching.specs.Meaning.{fitting}

-- The answer for the tracks and heads of the table.
abbrev pub answer_for : Fits → Answer
answer_for f = answer (fitting f) f.tracks f.heads

-- The answer a is right for the table, in words: seen with the first of all placings, or short with the least short set, and not both.
abbrev pub RightFor : Fits → Answer → Type 0
RightFor f a = Right (fitting f) f.tracks f.heads a

-- Whatever is right for the table is the answer a.
abbrev pub OnlyRight : Fits → Answer → Type 0
OnlyRight f a = (b : Answer) → RightFor f b → b ≡ a

-- With other names for the heads, a placing exists or not as before, the same sets are short, and the answer has the word and the set of a.
abbrev pub SameRenamed : Fits → Answer → Type 0
SameRenamed f a =
    (fits' : Fitting) (to from : ℕ → ℕ) → Renames f.tracks f.heads (fitting f) fits' to from
    → Unmoved f.tracks f.heads (fitting f) fits' × SameWord a (answer fits' f.tracks f.heads)

-- The answer is a for all fits that are alike on the tracks and heads of the table.
abbrev pub Local : Fits → Answer → Type 0
Local f a = (fits' : Fitting) → Alike f.tracks f.heads (fitting f) fits' → a ≡ answer fits' f.tracks f.heads
