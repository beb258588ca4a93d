-- Calls as values, and what a replay of them tells.
use Rattle.std.specs.Prelude.{ℕ, Bool, List, [], Some, None, Ok, Err, Option, Result}
use Rattle.std.specs.List.{slice_get}
use Rattle.runs.specs.Calls.{Call, feed, gap, look, look_back, recheck, ran}
use Rattle.runs.specs.Verdicts.{Verdict, verdict}
use Rattle.sheetfile.specs.Sheets.{Signature, Sheet}
use Rattle.station.specs.Refusals.{Told, by_number}
use Rattle.station.specs.declared.call.Call.{Call as Recorded}
use Rattle.station.specs.declared.call.Call.TheVariants.{Feed, Gap, Look, LookBack, Recheck}

-- the call that a recorded one is
abbrev pub called : {R : Type 0} → Recorded R → Call R
called (Feed frame) = feed frame.now
called Gap = gap
called (Look p) = look p
called (LookBack q h) = look_back q h
called (Recheck p) = recheck p

-- what a look at a position tells on a sheet of N heads with these signatures: 32 past the last, else the verdict on the run
abbrev pub at_position : {T R : Type 0} → (T → R → Bool) → ℕ → Option (Signature T) → List (List R) → Result Verdict Told
at_position passes N None run = Err (by_number 32)
at_position passes N (Some g) run = Ok (verdict passes N g run)

-- what a replay tells: the refusal of the making, else what a look tells on the run that the calls leave
abbrev pub replayed : {T R : Type 0} → (R → Bool) → (T → R → Bool) → Result (Unit {0}) Told → Sheet T → List (Call R) → ℕ → Result Verdict Told
replayed lawful passes (Err e) sheet calls p = Err e
replayed lawful passes (Ok u) sheet calls p =
    at_position passes sheet.heads (slice_get sheet.signatures p) (ran lawful sheet.heads [] calls)
