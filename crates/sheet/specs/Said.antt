-- The sheet that a plan and its tests say, and what reading a sheet file promises of it.
use Rattle.std.specs.Prelude.{◌≡◌, ℕ, zero, suc, ◌≤◌, List, [], ◌∷◌, map, length, take, drop, Ok, Err, Result, ◌≢◌}
use Rattle.kinds.specs.Codings.{Coding}
use Rattle.sheetfile.specs.declared.fault.Fault.{Fault}
use Rattle.sheetfile.specs.Card.{told}
use Rattle.sheetfile.specs.Checks.{sheet_checks, AllHold, FirstFails}
use Rattle.sheetfile.specs.Encoding.{encode}
use Rattle.sheetfile.specs.Sheets.{Signature, Sheet, Within, all_tests}
use Rattle.sheet.specs.declared.entry.Entry.{Entry}
use Rattle.sheet.specs.declared.plan.Plan.{Plan}
use Rattle.sheet.specs.Filled.{SaysSheet, SaysNothing}
use Rattle.sheet.specs.Stored.{put}

-- so many pieces of m elements each, one after another
unfoldable pub pieces : {T : Type 0} → ℕ → ℕ → List T → List (List T)
pieces m zero ts = []
pieces m (suc n) ts = take m ts ∷ pieces m n (drop m ts)

-- the signature that an entry says: its tracks are cut from the store
abbrev pub signature_said : {T : Type 0} → List T → Entry → Signature T
signature_said store e = record { name = e.name; frames = e.frames; tracks = pieces e.frames e.tracks (drop e.first store) }

-- the sheet that a plan and its tests say
abbrev pub said : {T : Type 0} → Plan → List T → Sheet T
said p store = record { code = p.code; heads = p.heads; signatures = map (signature_said store) (take p.count p.entries) }

-- the sheet keeps all limits and its tests fit the store
pub record Readable {T : Type 0} (code : ℕ) (k : Coding T) (room : ℕ) (s : Sheet T) : Type 0 where
  pub sheet_within : Within code k s
  pub enough : length (all_tests s.signatures) ≤ room

-- A file that was read: it is the one file of the sheet that plan and store now say, that sheet is readable,
-- and the store holds its tests from the start on and is unchanged behind them.
pub record Read {T : Type 0} (code : ℕ) (k : Coding T) (bytes : List ℕ) (old : List T) (p : Plan) (new : List T) : Type 0 where
  pub readable : Readable code k (length old) (said p new)
  pub file : bytes ≡ encode k (said p new)
  pub plan : SaysSheet (said p new) p
  pub store : new ≡ put 0 (all_tests (said p new).signatures) old
  pub every_check : AllHold (sheet_checks code k (length old) bytes)

-- A file that was refused: the plan is empty, the bytes are the file of no readable sheet,
-- and the refusal is that of the first check that fails.
pub record Refused {T : Type 0} (code : ℕ) (k : Coding T) (bytes : List ℕ) (old : List T) (e : Fault) (p : Plan) : Type 0 where
  pub plan : SaysNothing p
  pub no_file : (s : Sheet T) → Readable code k (length old) s → bytes ≢ encode k s
  pub first_check : FirstFails (sheet_checks code k (length old) bytes) (told e)

abbrev pub Verdict : {T : Type 0} → ℕ → Coding T → List ℕ → List T → Result (Unit {0}) Fault → Plan → List T → Type 0
Verdict code k bytes old (Ok u) p new = Read code k bytes old p new
Verdict code k bytes old (Err e) p new = Refused code k bytes old e p
