-- A list of calls, one more at a time, and what a look after it tells. Assumes nothing.
use Rattle.std.proofs.Common.{◌≡◌, ℕ, ◌+◌, ◌<◌, ◌≤◌, Bool, List, [], ◌∷◌, ◌++◌, map, length, get_or, take, Some, None, Ok, Err, Option, Result, sym, refl, ap, ◌∙◌, subst, ⊎_elim, arith}
use Rattle.std.specs.List.{slice_get}
use Rattle.std.proofs.lemmas.List.{take_more, map-append, length-map}
use Rattle.std.proofs.lemmas.Bool.{cases_lt}
use Rattle.runs.specs.Calls.{Call, ran}
use Rattle.runs.specs.Verdicts.{Verdict}
use Rattle.runs.proofs.Histories.{there}
use Rattle.sheet.specs.declared.plan.Plan.{Plan}
use Rattle.sheet.specs.Said.{said, signature_said}
use Rattle.sheetfile.specs.Sheets.{Signature}
use Rattle.station.specs.Refusals.{Told}
use Rattle.station.specs.declared.call.Call.{Call as Recorded}
use Rattle.station.specs.States.{State}
use Rattle.station.specs.Promises.{Looks, Works, Worked}
use Rattle.station.specs.Law.{Law, Reached}
use Rattle.station.specs.Making.{Makes}
use Rattle.station.specs.Working.{called, at_position, replayed}
use Rattle.station.proofs.Law.{reached}

module _ {T R : Type 0} (lawful : R → Bool) (passes : T → R → Bool) where
  pub worked_push : (s t u : State T R) (cs : List (Call R)) (c : Call R) → Worked lawful passes s cs t → Works lawful passes t c u → Worked lawful passes s (cs ++ c ∷ []) u
  worked_push s t u [] c w k = (u, subst (λ (x : State T R). Works lawful passes x c u) w k, refl)
  worked_push s t u (d ∷ cs) c w k = (w.0, w.1, worked_push w.0 t u cs c w.2 k)

  -- one recorded call more
  pub worked_more : (s t u : State T R) (cs : List (Recorded R)) (i : ℕ) (c : Recorded R) → i < length cs → c ≡ get_or cs i c
      → Worked lawful passes s (map called (take i cs)) t → Works lawful passes t (called c) u → Worked lawful passes s (map called (take (i + 1) cs)) u
  worked_more s t u cs i c l at w k =
      let more : take (i + 1) cs ≡ take i cs ++ c ∷ [] = take_more cs i c l ∙ ap (λ x. take i cs ++ x ∷ []) (sym at) in
      let moved : map called (take (i + 1) cs) ≡ map called (take i cs) ++ called c ∷ [] = ap (map called) more ∙ map-append called (take i cs) (c ∷ []) in
      subst (λ (x : List (Call R)). Worked lawful passes s x u) (sym moved) (worked_push s t u (map called (take i cs)) (called c) w k)

  -- no signature in a position: it is past the last entry
  none_there : {X : Type 0} (xs : List X) (p : ℕ) → slice_get xs p ≡ None → length xs ≤ p
  none_there xs p none =
      ⊎_elim
      (λ less.
      let o = there xs p less in
      let z : ◌≡◌ {A = ℕ} 0 1 = cc in
      absurd (omega arith))
      (λ past. past) (cases_lt p (length xs))

  -- the look after any calls of a new station
  pub look_tells : (N : ℕ) (sheet : List (Signature T)) (calls : List (Call R)) (s : State T R) (p : ℕ) (a : Result Verdict Told) (o : Option (Signature T)) → slice_get sheet p ≡ o
      → Law lawful passes → Reached lawful passes N sheet calls s → Looks lawful passes s p a → a ≡ at_position passes N o (ran lawful N [] calls)
  look_tells N sheet calls s p a None at law r l =
      let h = reached lawful passes N sheet calls s r in
      let past = none_there sheet p at in
      l.refused (omega (arith, ap length h.sheet_is, length-map s.entries (signature_said s.tests)))
  look_tells N sheet calls s p a (Some g) at law r l = (law.looks N sheet calls s r p g at a l).is

  pub replay_tells : (made : Result (Unit {0}) Told) (plan : Plan) (tests : List T) (calls : List (Call R)) (s t : State T R) (p : ℕ) (a : Result Verdict Told) → Ok tt ≡ made
      → Makes lawful passes made plan tests s → Law lawful passes → Worked lawful passes s calls t → Looks lawful passes t p a → a ≡ replayed lawful passes made (said plan tests) calls p
  replay_tells (Ok u) plan tests calls s t p a ok m law w l =
      look_tells plan.heads (said plan tests).signatures calls t p a (slice_get (said plan tests).signatures p) refl law (record { start = s; made = m; worked = w }) l
  replay_tells (Err e) plan tests calls s t p a ok m law w l = let z : ◌≡◌ {A = ℕ} 0 1 = cc in absurd (omega arith)
