-- How the text of a sheet file begins where the file is refused.
use Rattle.std.specs.Prelude.{◌≡◌, ℕ, List, [], ◌∷◌, ◌++◌, Ok, Err, codes, decimal, Result}
use Rattle.kinds.specs.Bands.{band_facts}
use Rattle.kinds.specs.Spans.{span_facts}
use Rattle.kinds.specs.Climates.{climate_facts}
use Rattle.kinds.specs.declared.known.KnownKind.{KnownKind}
use Rattle.kinds.specs.declared.known.KnownKind.TheVariants.{Band, Span, Climate}
use Rattle.sheetfile.specs.declared.fault.Fault.{Fault}
use Rattle.sheetfile.specs.Card.{told}
pub use Rattle.sheetfile.specs.Texts.{fault_line}
use Rattle.sheetfile.specs.Texts.{cause_text, fault_text}
use Rattle.sheetfile.specs.Reading.{rule}

-- behind the fault's line: what is wrong, and where
abbrev pub reason_line : Fault → List ℕ
reason_line e = cause_text e.cause ++ (codes " at byte " ++ (decimal e.place ++ (10 ∷ [])))

-- the text has this at its front
abbrev pub Begins : List ℕ → List ℕ → Type 0
Begins front text = (rest : List ℕ) × (text ≡ front ++ rest)

-- the whole text of a fault
abbrev pub RefusedText : Fault → List ℕ → Type 0
RefusedText e text = text ≡ fault_text (told e) ++ (10 ∷ reason_line e)

-- after a fault the text begins with its line
abbrev pub Tells : {A : Type 0} → Result A Fault → List ℕ → Type 0
Tells (Ok a) text = Unit {0}
Tells (Err e) text = Begins (fault_line (told e)) text

-- of a file that is read as this kind, into a store of 6,144 tests
abbrev pub TellsFile : KnownKind → List ℕ → List ℕ → Type 0
TellsFile Band bytes text = Tells (rule band_facts.code band_facts.tests 6144 bytes).end text
TellsFile Span bytes text = Tells (rule span_facts.code span_facts.tests 6144 bytes).end text
TellsFile Climate bytes text = Tells (rule climate_facts.code climate_facts.tests 6144 bytes).end text
