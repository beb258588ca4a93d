-- The listing of a run file against a sheet, byte by byte.
use Rattle.std.specs.Prelude.{ℕ, List, [], ◌∷◌, ◌++◌, Some, None, Ok, Err, Option, Result}
use Rattle.kinds.specs.Kinds.{Facts}
use Rattle.lines.specs.Lines.{report_lines, end_line, fault_line}
use Rattle.sheetfile.specs.declared.fault.Fault.{Fault}
use Rattle.sheetfile.specs.declared.fault.Cause.TheVariants.{Cut}
use Rattle.sheetfile.specs.Card.{told, fault}
use Rattle.sheetfile.specs.Reading.{rule}
use Rattle.sheetfile.specs.Sheets.{Sheet}
use Rattle.listing.specs.Events.{frames_of, gaps_of}
use Rattle.listing.specs.Reports.{reports}
use Rattle.listing.specs.Scanning.{Scan, scanned}

module _ {R T : Type 0} (k : Facts R T) (sheet : Sheet T) where
  -- the lines of the reports that these bytes of a run bring
  abbrev pub lines_of : List ℕ → List ℕ
  lines_of xs = report_lines (reports k.passes sheet.heads sheet.signatures 0 [] (scanned k.readings sheet.heads xs).events)

  -- the last line, where the run ends here: its fault, or that of a field that is cut, or the counts
  abbrev pub last_of : Scan R → List ℕ
  last_of s = with_fault s.fault s.rest
    where
      with_rest : List ℕ → List ℕ
      with_rest [] = end_line (frames_of s.events) (gaps_of s.events)
      with_rest (x ∷ xs) = fault_line (told (fault Cut s.at))

      with_fault : Option Fault → List ℕ → List ℕ
      with_fault (Some f) rest = fault_line (told f)
      with_fault None rest = with_rest rest

  -- the listing of a run against the sheet
  abbrev pub listing : List ℕ → List ℕ
  listing xs = lines_of xs ++ last_of (scanned k.readings sheet.heads xs)

-- the listing of a run file against a sheet file, with a store for so many tests: a fault of the sheet is all of it
abbrev pub listing_read : {R T : Type 0} → Facts R T → Result (Sheet T) Fault → List ℕ → List ℕ
listing_read k (Ok sheet) run = listing k sheet run
listing_read k (Err f) run = fault_line (told f)

abbrev pub listing_of : {R T : Type 0} → Facts R T → ℕ → List ℕ → List ℕ → List ℕ
listing_of k room sheet-file run-file = listing_read k (rule k.code k.tests room sheet-file).end run-file
