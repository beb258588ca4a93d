-- A station that follows a run: it is on the sheet, words and tail agree, and the tail keeps the latest 64 frames of the run.
use Rattle.std.specs.Prelude.{◌≡◌, ℕ, Bool, List, take}
use Rattle.sheetfile.specs.Limits.{most_frames}
use Rattle.sheetfile.specs.Sheets.{Signature}
use Rattle.runs.specs.Theorems.{Full}
use Rattle.station.specs.States.{State, signatures, frames, InStep}

pub record Following {T R : Type 0} (lawful : R → Bool) (passes : T → R → Bool) (N : ℕ) (sheet : List (Signature T)) (run : List (List R)) (s : State T R) : Type 0 where
  pub heads_are : s.heads ≡ N
  pub sheet_is : signatures s ≡ sheet
  pub agrees : InStep passes s
  pub keeps : frames s ≡ take most_frames run
  pub full : Full N run
