-- The promise over any list of calls, for every sheet and every plug order. The lists are any lists, so it holds at every
-- moment, after a success and after a refusal.
use Rattle.std.specs.Prelude.{◌≡◌, ℕ, ◌<◌, ◌≤◌, Bool, ◌↔◌, List, [], length, take, Some, Ok, Option, Result}
use Rattle.std.specs.List.{slice_get}
use Rattle.matching.specs.Placings.{Placeable}
use Rattle.matching.specs.Renaming.{Permutes}
use Rattle.sheetfile.specs.Limits.{most_frames}
use Rattle.sheetfile.specs.Sheets.{Signature}
use Rattle.runs.specs.Verdicts.{Verdict, verdict, fits, Right, IsSeen, Agree}
use Rattle.runs.specs.Calls.{Call, ran, Replugged}
use Rattle.runs.specs.Theorems.{Settled}
use Rattle.station.specs.Refusals.{Told}
use Rattle.station.specs.States.{State, signatures, frames, InStep}
use Rattle.station.specs.Frames.{back}
use Rattle.station.specs.Promises.{Worked, Looks, Rechecks, Backs}

module _ {T R : Type 0} (lawful : R → Bool) (passes : T → R → Bool) where
  -- a station made new on a sheet of N heads with these signatures: its run is empty, and words and tail agree
  pub record Made (N : ℕ) (sheet : List (Signature T)) (s : State T R) : Type 0 where
    pub heads_are : s.heads ≡ N
    pub sheet_is : signatures s ≡ sheet
    pub agrees : InStep passes s
    pub empty : frames s ≡ []

  -- a state that some making on the sheet and these calls lead to
  pub record Reached (N : ℕ) (sheet : List (Signature T)) (calls : List (Call R)) (s : State T R) : Type 0 where
    pub start : State T R
    pub made : Made N sheet start
    pub worked : Worked lawful passes start calls s

  -- these are the frames that look-backs show, newest first: for each q below their number every head gives a reading,
  -- the one in the frame, and the next q is absent
  pub record Shown (s : State T R) (shown : List (List R)) : Type 0 where
    pub full : (q : ℕ) (f : List R) → slice_get shown q ≡ Some f → length f ≡ s.heads
    pub gives : (q h : ℕ) (a : Result (Option R) Told) → q ≤ length shown → h < s.heads → Backs lawful passes s q h a → a ≡ Ok (back shown q h)

  -- the look in this position is the verdict on the run, and the run's verdict is what the words say:
  -- seen exactly when the tracks can sit on different heads, else young, else short with a set that is short
  pub record SeenRight (N : ℕ) (g : Signature T) (run : List (List R)) (a : Result Verdict Told) : Type 0 where
    pub is : a ≡ Ok (verdict passes N g run)
    pub right : Right passes N g run (verdict passes N g run)
    pub placed : IsSeen (verdict passes N g run) ↔ Placeable (fits passes g run) (length g.tracks) N

  -- both looks tell a verdict, and the two agree
  pub record BothAgree (a b : Result Verdict Told) : Type 0 where
    pub one : Verdict
    pub other : Verdict
    pub one_is : a ≡ Ok one
    pub other_is : b ≡ Ok other
    pub agree : Agree one other

  pub record Law : Type 0 where
    -- (a) seen, young, short
    pub looks : (N : ℕ) (sheet : List (Signature T)) (calls : List (Call R)) (s : State T R) → Reached N sheet calls s
        → (p : ℕ) (g : Signature T) → slice_get sheet p ≡ Some g → (a : Result Verdict Told) → Looks lawful passes s p a
        → SeenRight N g (ran lawful N [] calls) a
    -- (b) two stations on one sheet, each after any calls of its own, then the same calls through any plug order:
    -- from the m-th frame accepted or the first gap among these, both looks agree
    pub replugged : (N : ℕ) (sheet : List (Signature T)) (mine yours common others : List (Call R)) (s t s' t' : State T R)
        → Reached N sheet mine s → Reached N sheet yours t
        → (to from : ℕ → ℕ) → Permutes N to from → Replugged N to common others
        → Worked lawful passes s common s' → Worked lawful passes t others t'
        → (p : ℕ) (g : Signature T) → slice_get sheet p ≡ Some g → Settled lawful N g.frames common
        → (a b : Result Verdict Told) → Looks lawful passes s' p a → Looks lawful passes t' p b → BothAgree a b
    -- what a look-back gives: the reading q frames before the newest of the run, absent from the 64th on
    pub backs : (N : ℕ) (sheet : List (Signature T)) (calls : List (Call R)) (s : State T R) → Reached N sheet calls s
        → (q h : ℕ) → h < N → (a : Result (Option R) Told) → Backs lawful passes s q h a
        → a ≡ Ok (back (take most_frames (ran lawful N [] calls)) q h)
    -- (c) the frames that look-backs show, judged alone, have the verdict of the look and of the recheck
    pub shown : (N : ℕ) (sheet : List (Signature T)) (calls : List (Call R)) (s : State T R) → Reached N sheet calls s
        → (seen : List (List R)) → Shown s seen
        → (p : ℕ) (g : Signature T) → slice_get sheet p ≡ Some g → (a b : Result Verdict Told) → Looks lawful passes s p a → Rechecks lawful passes s p b
        → (a ≡ Ok (verdict passes N g seen)) × (b ≡ Ok (verdict passes N g seen))
    -- and there are such frames
    pub some_shown : (N : ℕ) (sheet : List (Signature T)) (calls : List (Call R)) (s : State T R) → Reached N sheet calls s
        → (seen : List (List R)) × Shown s seen
