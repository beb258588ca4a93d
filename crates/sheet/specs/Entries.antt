-- The entries of a plan, and the signatures that they stand for.
use Rattle.std.specs.Prelude.{◌≡◌, ℕ, ◌+◌, List, [], ◌∷◌, ◌++◌, length, drop, Ok, Result}
use Rattle.sheetfile.specs.declared.fault.Fault.{Fault}
use Rattle.sheetfile.specs.Outcomes.{Outcome, into}
use Rattle.sheetfile.specs.Sheets.{Signature, test_count}
use Rattle.sheet.specs.declared.entry.Entry.{Entry}
use Rattle.sheet.specs.Stored.{Left}

-- the entry of a signature whose tests begin at `first`
abbrev pub entry : {T : Type 0} → ℕ → Signature T → Entry
entry first s = record { name = s.name; tracks = length s.tracks; frames = s.frames; first = first }

-- the entries of signatures whose tests follow one another from `first` on
abbrev pub entries_of : {T : Type 0} → ℕ → List (Signature T) → List Entry
entries_of first [] = []
entries_of first (s ∷ ss) = entry first s ∷ entries_of (first + test_count s) ss

-- what reading the signatures leaves: their entries in front, and every other entry as it was
pub record EntriesLeft {T : Type 0} (o : Outcome T (List Entry)) (store : List T) (entries : List Entry) (r : Result ℕ Fault) (new : List T) (after : List Entry) : Type 0 where
  pub read : Left (into length o) 0 store r new
  pub filled : (es : List Entry) → o.end ≡ Ok es → after ≡ es ++ drop (length es) entries
