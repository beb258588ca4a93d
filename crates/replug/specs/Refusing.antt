-- What is said of a sheet that is refused.
use Rattle.std.specs.Prelude.{◌≡◌, ℕ, List, Ok, Err, Result, codes}
use Rattle.kinds.specs.Bands.{band_facts}
use Rattle.kinds.specs.Spans.{span_facts}
use Rattle.kinds.specs.Climates.{climate_facts}
use Rattle.kinds.specs.declared.known.KnownKind.{KnownKind}
use Rattle.kinds.specs.declared.known.KnownKind.TheVariants.{Band, Span, Climate}
use Rattle.sheetfile.specs.declared.fault.Fault.{Fault}
use Rattle.sheetfile.specs.Card.{told}
use Rattle.sheetfile.specs.Texts.{fault_text}
use Rattle.sheetfile.specs.Reading.{rule}
use Rattle.replug.specs.declared.trouble.Trouble.{Trouble}
use Rattle.replug.specs.declared.trouble.Trouble.TheVariants.{Text, Fault as ByFault}

abbrev pub trouble_text : Trouble → List ℕ
trouble_text (ByFault e) = fault_text (told e)
trouble_text Text = codes "no memory for the text"

-- it is this fault: no memory is asked for before the sheet is read, so none can run out
abbrev pub Tells : Fault → Trouble → Type 0
Tells e t = t ≡ ByFault e

-- a sheet that reads with this end: after a fault there is no text, and the trouble tells the fault
abbrev pub Refuses : {A T : Type 0} → Result A Fault → Result T Trouble → Type 0
Refuses (Ok a) r = Unit {0}
Refuses (Err e) (Ok t) = ⊥
Refuses (Err e) (Err t) = Tells e t

-- of a sheet file that is read as this kind, into a store of 6,144 tests
abbrev pub RefusesFile : {T : Type 0} → KnownKind → List ℕ → Result T Trouble → Type 0
RefusesFile Band bytes r = Refuses (rule band_facts.code band_facts.tests 6144 bytes).end r
RefusesFile Span bytes r = Refuses (rule span_facts.code span_facts.tests 6144 bytes).end r
RefusesFile Climate bytes r = Refuses (rule climate_facts.code climate_facts.tests 6144 bytes).end r
