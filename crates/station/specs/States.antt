-- What a station holds, and when its words agree with its tail.
use Rattle.std.specs.Prelude.{◌≡◌, ℕ, ◌*◌, ◌≤◌, Bool, List, map, length, drop}
use Rattle.ring.specs.Latest.{latest, Sound}
use Rattle.bank.specs.declared.Bank.{Bank}
use Rattle.bank.specs.Agreement.{Agrees, Fitted, Stored}
use Rattle.sheet.specs.declared.entry.Entry.{Entry}
use Rattle.sheet.specs.Said.{signature_said}
use Rattle.sheetfile.specs.Limits.{most_frames}
use Rattle.sheetfile.specs.Sheets.{Signature, Each}
use Rattle.station.specs.Frames.{frames_in}

-- a snapshot: the sheet's heads, entries and tests, the tail's memory and ring, the bank of words, and how many frames the tail keeps
pub record State (T R : Type 0) : Type 0 where
  pub heads : ℕ
  pub entries : List Entry
  pub tests : List T
  pub slots : List R
  pub capacity : ℕ
  pub next : ℕ
  pub count : ℕ
  pub bank : Bank
  pub run : ℕ

module _ {T R : Type 0} where
  -- the signatures of the station's sheet
  abbrev pub signatures : State T R → List (Signature T)
  signatures s = map (signature_said s.tests) s.entries

  -- the readings that the tail holds, newest first
  abbrev pub held : State T R → List R
  held s = latest s.slots s.capacity s.next s.count

  -- the frames that the tail keeps, newest first: at most 64
  abbrev pub frames : State T R → List (List R)
  frames s = frames_in s.heads s.run (held s)

  -- the memory past the first 64 frames
  abbrev pub unused : State T R → List R
  unused s = drop s.capacity s.slots

  -- the tail is whole: its ring lies in its memory, and holds the frames that it says
  pub record TailSound (s : State T R) : Type 0 where
    pub fitted : Fitted s.heads (signatures s)
    -- no signature has more tracks than there are heads
    pub few_tracks : Each (λ g. length g.tracks ≤ s.heads) (signatures s)
    pub stored : Stored s.entries s.tests
    pub sound : Sound s.slots s.capacity s.next s.count
    pub capacity_is : s.capacity ≡ most_frames * s.heads
    pub held_is : length (held s) ≡ s.run * s.heads
    pub few : s.run ≤ most_frames

  -- words and tail agree
  pub record InStep (passes : T → R → Bool) (s : State T R) : Type 0 where
    pub tail : TailSound s
    pub words : Agrees passes s.heads (signatures s) (frames s) s.bank

  -- the same sheet, and the same memory past the tail's
  pub record SameSheet (s t : State T R) : Type 0 where
    pub heads_same : t.heads ≡ s.heads
    pub entries_same : t.entries ≡ s.entries
    pub tests_same : t.tests ≡ s.tests
    pub unused_same : unused t ≡ unused s
