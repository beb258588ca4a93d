-- The verdict on a run.
use Rattle.std.specs.Prelude.{◌≡◌, ℕ, ◌<◌, ◌≤◌, Bool, cond, List, [], length, nat_lt, slice_index_or}
use Rattle.matching.specs.Answer.{Answer, seen, short, answer}
use Rattle.matching.specs.Fitting.{Fitting}
use Rattle.matching.specs.Placings.{Places, FirstPlacing}
use Rattle.matching.specs.Short.{LeastShort}
use Rattle.rows.specs.Matches.{passed_last}
use Rattle.sheetfile.specs.Sheets.{Signature}
use Rattle.runs.specs.Frames.{history}

-- young: fewer frames than the signature is long; seen, with the heads of its tracks; short, with the number of a set of tracks
pub data Verdict : Type 0 where
  young : Verdict
  seen_on : List ℕ → Verdict
  short_of : ℕ → Verdict

-- head h fits track t: the track's tests, in order, pass the head's readings in the last frames of the run
abbrev pub fits : {T R : Type 0} → (T → R → Bool) → Signature T → List (List R) → Fitting
fits passes s run t h = passed_last passes (slice_index_or s.tracks t []) (history h run)

abbrev pub judged : Answer → Verdict
judged (seen heads) = seen_on heads
judged (short set) = short_of set

-- the verdict on a signature, over a run of a line of N heads
unfoldable pub verdict : {T R : Type 0} → (T → R → Bool) → ℕ → Signature T → List (List R) → Verdict
verdict passes N s run =
    cond (nat_lt (length run) s.frames) young (judged (answer (fits passes s run) (length s.tracks) N))

-- a verdict in words: young exactly before the m-th frame; else seen with the first of all placings; else short with the least
-- short set, and there is no placing
abbrev pub Right : {T R : Type 0} → (T → R → Bool) → ℕ → Signature T → List (List R) → Verdict → Type 0
Right passes N s run young = length run < s.frames
Right passes N s run (seen_on heads) =
    (s.frames ≤ length run) × FirstPlacing (fits passes s run) (length s.tracks) N heads
Right passes N s run (short_of set) =
    (s.frames ≤ length run) × LeastShort (fits passes s run) (length s.tracks) N set
    × ((heads : List ℕ) → Places (fits passes s run) (length s.tracks) N heads → ⊥)

abbrev pub IsSeen : Verdict → Type 0
IsSeen young = ⊥
IsSeen (seen_on heads) = Unit {0}
IsSeen (short_of set) = ⊥

-- both seen, both young, or short with the same set
abbrev pub Agree : Verdict → Verdict → Type 0
Agree young young = Unit {0}
Agree young (seen_on heads) = ⊥
Agree young (short_of set) = ⊥
Agree (seen_on heads) young = ⊥
Agree (seen_on heads) (seen_on others) = Unit {0}
Agree (seen_on heads) (short_of set) = ⊥
Agree (short_of set) young = ⊥
Agree (short_of set) (seen_on heads) = ⊥
Agree (short_of set) (short_of other) = set ≡ other
