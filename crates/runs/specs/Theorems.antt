-- What holds of verdicts over all runs, and of all lists of calls.
use Rattle.std.specs.Prelude.{◌≡◌, ℕ, ◌≤◌, Bool, true, ◌⊎◌, ◌↔◌, List, [], length, take}
use Rattle.matching.specs.Placings.{Placeable}
use Rattle.matching.specs.Renaming.{Permutes}
use Rattle.sheetfile.specs.Sheets.{Signature, Each}
use Rattle.runs.specs.Verdicts.{Verdict, verdict, fits, Right, IsSeen, Agree}
use Rattle.runs.specs.Plugs.{Paired}
use Rattle.runs.specs.Calls.{Call, ran, accepted, gapped, Replugged}

-- a signature with at least one track, and one test for each of at least one frame
pub record Regular {T : Type 0} (s : Signature T) : Type 0 where
  pub some_tracks : 1 ≤ length s.tracks
  pub some_frames : 1 ≤ s.frames
  pub even : Each (λ track. length track ≡ s.frames) s.tracks

-- every frame of the run is a full one
abbrev pub Full : {R : Type 0} → ℕ → List (List R) → Type 0
Full N run = Each (λ frame. length frame ≡ N) run

-- the calls alone settle the verdict on m frames: m of their frames are accepted, or there is a gap among them
abbrev pub Settled : {R : Type 0} → (R → Bool) → ℕ → ℕ → List (Call R) → Type 0
Settled lawful N m calls = (m ≤ accepted lawful N calls) ⊎ (gapped calls ≡ true)

pub record RunLaws (T R : Type 0) : Type 0 where
  -- the verdict is right in words
  pub right : (passes : T → R → Bool) (N : ℕ) (s : Signature T) (run : List (List R)) → Right passes N s run (verdict passes N s run)
  -- nothing else is right
  pub only : (passes : T → R → Bool) (N : ℕ) (s : Signature T) (run : List (List R)) (v : Verdict) → Right passes N s run v → v ≡ verdict passes N s run
  -- seen exactly when the tracks can be placed on different heads
  pub placed : (passes : T → R → Bool) (N : ℕ) (s : Signature T) (run : List (List R)) → Regular s → IsSeen (verdict passes N s run) ↔ Placeable (fits passes s run) (length s.tracks) N
  -- the latest n frames are enough for a signature of at most n
  pub latest : (passes : T → R → Bool) (N n : ℕ) (s : Signature T) (run : List (List R)) → Regular s → Full N run → s.frames ≤ n → verdict passes N s (take n run) ≡ verdict passes N s run
  -- the same frames through another plug order
  pub replugged : (passes : T → R → Bool) (N : ℕ) (to from : ℕ → ℕ) (s : Signature T) (run other : List (List R)) → Permutes N to from → Regular s → Paired N to s.frames run other → Agree (verdict passes N s run) (verdict passes N s other)
  -- after the same calls through another plug order, from any two runs, what was settled agrees
  pub settled : (lawful : R → Bool) (N m : ℕ) (to from : ℕ → ℕ) (calls others : List (Call R)) (run other : List (List R)) → Permutes N to from → Replugged N to calls others → Settled lawful N m calls → Paired N to m (ran lawful N run calls) (ran lawful N other others)
  -- a run that calls leave has only full frames
  pub full : (lawful : R → Bool) (N : ℕ) (calls : List (Call R)) → Full N (ran lawful N [] calls)
