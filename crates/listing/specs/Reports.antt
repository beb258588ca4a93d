-- The reports of a run: after each frame, each seen signature in sheet order.
use Rattle.std.specs.Prelude.{ℕ, suc, Bool, List, [], ◌∷◌, ◌++◌}
use Rattle.lines.specs.Lines.{Report}
use Rattle.runs.specs.Verdicts.{Verdict, young, seen_on, short_of, verdict}
use Rattle.sheetfile.specs.Sheets.{Signature}
use Rattle.listing.specs.Events.{Event, frame, gap}

-- a verdict on the signature of this name, at the frame of this number: a report where it is seen, else nothing
abbrev pub reported : ℕ → ℕ → Verdict → List Report
reported number name young = []
reported number name (seen_on heads) = record { frame = number; name = name; heads = heads } ∷ []
reported number name (short_of set) = []

module _ {T R : Type 0} (passes : T → R → Bool) (N : ℕ) where
  -- the reports at a frame, by the run up to it
  abbrev pub at_frame : List (Signature T) → ℕ → List (List R) → List Report
  at_frame [] number run = []
  at_frame (g ∷ sheet) number run = reported number g.name (verdict passes N g run) ++ at_frame sheet number run

  -- the reports of these events, after so many frames and with this run before
  abbrev pub reports : List (Signature T) → ℕ → List (List R) → List (Event R) → List Report
  reports sheet number run [] = []
  reports sheet number run (frame f ∷ es) = at_frame sheet (suc number) (f ∷ run) ++ reports sheet (suc number) (f ∷ run) es
  reports sheet number run (gap ∷ es) = reports sheet number [] es
