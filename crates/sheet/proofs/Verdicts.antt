-- What reading a file promises, from what the rule says. Assumes the laws of the kind.
use Rattle.std.proofs.Common.{◌≡◌, ℕ, List, length, Ok, Err, Result, sym, ap, ◌∙◌, subst}
use Rattle.kinds.specs.Codings.{Coding, Lawful}
use Rattle.kinds.specs.Kinds.{most_test_width}
use Rattle.sheetfile.specs.declared.fault.Fault.{Fault}
use Rattle.sheetfile.specs.Sheets.{Sheet, all_tests}
use Rattle.sheetfile.specs.Encoding.{encode}
use Rattle.sheetfile.specs.Reading.{rule}
use Rattle.sheetfile.proofs.Outcomes.{told_ok, told_err}
use Rattle.sheetfile.proofs.Back.{reads_back}
use Rattle.sheetfile.proofs.Only.{Bytes, only_encodings}
use Rattle.sheetfile.proofs.First.{all_hold, first_fails}
use Rattle.sheet.specs.declared.plan.Plan.{Plan}
use Rattle.sheet.specs.Stored.{put}
use Rattle.sheet.specs.Filled.{SaysSheet, Filled, SheetLeft}
use Rattle.sheet.specs.Said.{said, Readable, Verdict}
use Rattle.sheet.proofs.Plans.{said_sheet}

module _ {T : Type 0} (code : ℕ) (k : Coding T) (law : Lawful most_test_width k) (bytes : List ℕ) (octets : Bytes bytes) (old : List T) (p : Plan) (new : List T) where
  -- what is known of the sheet that was read
  pub record Known (s : Sheet T) : Type 0 where
    pub readable : Readable code k (length old) s
    pub file : bytes ≡ encode k s
    pub plan : SaysSheet s p
    pub store : new ≡ put 0 (all_tests s.signatures) old

  pub verdict : (r : Result (Unit {0}) Fault) → SheetLeft (rule code k (length old) bytes) old r p new → Verdict code k bytes old r p new
  verdict (Ok u) h =
      let q = told_ok (λ a. tt) (rule code k (length old) bytes).end u h.read.answer in
      let s = q.0 in
      let o = only_encodings k law code (length old) bytes s octets q.1 in
      let plan : SaysSheet s p = subst (λ (r : Result (Sheet T) Fault). Filled r p) q.1 h.plan in
      let store : new ≡ put 0 (all_tests s.signatures) old = h.read.store_is ∙ ap (λ ts. put 0 ts old) o.tests in
      let known : Known s = record { readable = record { sheet_within = o.within; enough = o.fits }; file = o.file; plan = plan; store = store } in
      let same : said p new ≡ s = said_sheet code k law s p old new o.within plan store in
      let all : Known (said p new) = subst (λ (v : Sheet T). Known v) (sym same) known in
      record { readable = all.readable; file = all.file; plan = all.plan; store = all.store; every_check = all_hold k code (length old) bytes s q.1 }
  verdict (Err e) h =
      let q = told_err (λ a. tt) (rule code k (length old) bytes).end e h.read.answer in
      record {
        plan = subst (λ (r : Result (Sheet T) Fault). Filled r p) q h.plan;
        no_file = λ s w is.
            let b = ap (λ xs. (rule code k (length old) xs).end) is ∙ ap (λ o. o.end) (reads_back k law code (length old) s w.sheet_within w.enough) in
            cc;
        first_check = first_fails k code (length old) bytes e q;
      }
