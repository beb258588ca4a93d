-- What the answers of a station say.
use Rattle.std.specs.Prelude.{Ok, Err, Result}
use Rattle.matching.specs.Meaning.{heads_of}
use Rattle.runs.specs.Verdicts.{Verdict, young, seen_on, short_of}
use Rattle.station.specs.declared.refusal.Refusal.{Refusal}
use Rattle.station.specs.declared.verdict.Verdict.{Verdict as ToldVerdict}
use Rattle.station.specs.declared.verdict.Verdict.TheVariants.{Young, Seen, Short}
use Rattle.station.specs.Refusals.{Told, told}

-- a verdict as the code tells it
abbrev pub verdict_of : ToldVerdict → Verdict
verdict_of Young = young
verdict_of (Seen p) = seen_on (heads_of p)
verdict_of (Short s) = short_of s.number

-- an answer, with its refusal in figures
abbrev pub in_figures : {A B : Type 0} → (A → B) → Result A Refusal → Result B Told
in_figures f (Ok a) = Ok (f a)
in_figures f (Err e) = Err (told e)
