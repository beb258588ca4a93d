-- Making a station: what is checked, and what is made.
use Rattle.std.specs.Prelude.{◌≡◌, ℕ, ◌+◌, ◌*◌, min, Bool, cond, List, [], ◌∷◌, length, take, Ok, Err, Result, ◌==◌, nat_le}
use Rattle.sheet.specs.declared.entry.Entry.{Entry}
use Rattle.sheet.specs.declared.plan.Plan.{Plan}
use Rattle.sheet.specs.Said.{said}
use Rattle.sheetfile.specs.Limits.{most_frames}
use Rattle.sheetfile.specs.Sheets.{Signature}
use Rattle.station.specs.Refusals.{Told, by_number}
use Rattle.ring.specs.Latest.{Sound}
use Rattle.bank.specs.Agreement.{Agrees}
use Rattle.station.specs.States.{State, held}
use Rattle.station.specs.Law.{Made}

-- how many tests entries have
abbrev pub tests_in_entries : List Entry → ℕ
tests_in_entries [] = 0
tests_in_entries (e ∷ es) = e.tracks * e.frames + tests_in_entries es

-- the checks in their order: 35 the empty plan, 13 another kind's, 36 a store shorter than the plan's tests,
-- 33 tail memory under 64 × N readings
abbrev pub making : ℕ → Plan → ℕ → ℕ → Result (Unit {0}) Told
making code p tests memory =
    cond (p.count == 0) (Err (by_number 35))
    (cond (p.code == code)
    (cond (nat_le (tests_in_entries (take p.count p.entries)) tests)
    (cond (nat_le (most_frames * p.heads) memory) (Ok tt) (Err (by_number 33)))
    (Err (by_number 36)))
    (Err (by_number 13)))

-- a station at the start of a run: empty, with a bank that agrees with no frames
pub record Starts {T R : Type 0} (passes : T → R → Bool) (heads : ℕ) (entries : List Entry) (tests : List T) (memory : List R) (s : State T R) : Type 0 where
  pub heads_are : s.heads ≡ heads
  pub entries_are : s.entries ≡ entries
  pub tests_are : s.tests ≡ tests
  pub slots_are : s.slots ≡ memory
  pub capacity_is : s.capacity ≡ min (most_frames * heads) (length memory)
  pub sound : Sound s.slots s.capacity s.next s.count
  pub none_held : held s ≡ []
  pub no_run : s.run ≡ 0
  pub agrees : (N : ℕ) (ss : List (Signature T)) → Agrees passes N ss [] s.bank

-- what is made: a station on the sheet that plan and tests say, or, where the making is refused, one with no heads and no signatures
abbrev pub Makes : {T R : Type 0} → (R → Bool) → (T → R → Bool) → Result (Unit {0}) Told → Plan → List T → State T R → Type 0
Makes lawful passes (Ok u) p tests s = Made lawful passes p.heads (said p tests).signatures s
Makes lawful passes (Err e) p tests s = Made lawful passes 0 [] s
