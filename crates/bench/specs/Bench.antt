-- The customer's worked lines that concern sheets and kinds, as facts about the definitions.
use Rattle.std.specs.Prelude.{◌≡◌, ℕ, true, false, List, [], ◌∷◌, replicate, pos, neg_ℤ, Some, None, Ok, Err, Result}
use Rattle.kinds.specs.declared.band.BandSet.{BandSet}
use Rattle.kinds.specs.declared.climate.ClimateReading.{ClimateReading}
use Rattle.kinds.specs.Bands.{band_facts}
use Rattle.kinds.specs.Spans.{span_facts}
use Rattle.kinds.specs.Climates.{climate_facts}
use Rattle.kinds.specs.Kinds.{Facts}
use Rattle.sheetfile.specs.declared.fault.Fault.{Fault}
use Rattle.sheetfile.specs.Card.{Told, told}
use Rattle.sheetfile.specs.Encoding.{encode}
use Rattle.sheetfile.specs.Reading.{rule}
use Rattle.sheetfile.specs.Sheets.{Signature, Sheet}

-- what was read, or its fault in figures
abbrev pub in_figures : {A : Type 0} → Result A Fault → Result A Told
in_figures (Ok a) = Ok a
in_figures (Err e) = Err (told e)

-- what these bytes read as, into a store of 6,144 tests
abbrev pub reads_as : {R T : Type 0} → Facts R T → List ℕ → Result (Sheet T) Told
reads_as k bytes = in_figures (rule k.code k.tests 6144 bytes).end

-- the fault of this number, place and layer
abbrev pub fault_at : {A : Type 0} → ℕ → ℕ → ℕ → Result A Told
fault_at number place layer = Err (record { number = number; place = place; layer = layer })

-- the set of bands of this number: the sum of 2 ^ b over its bands b
abbrev pub bands : ℕ → BandSet
bands n = record { bits = n }

-- the demo signature, of two tracks and two frames: bands {1} then {2}, and bands {0} then {0, 1}
abbrev pub demo_signature : Signature BandSet
demo_signature = record { name = 301; frames = 2; tracks = (bands 2 ∷ bands 4 ∷ []) ∷ (bands 1 ∷ bands 3 ∷ []) ∷ [] }

-- the sheet of that signature alone, on two heads
abbrev pub first_sheet : List ℕ
first_sheet = 0x01 ∷ 0x00 ∷ 0x02 ∷ 0x01 ∷ 0x02 ∷ 0x02 ∷ 0x00 ∷ 0x12 ∷ 0x01 ∷ 0x2D ∷ 0x02 ∷ 0x02 ∷ 0x03 ∷ 0x00 ∷ 0x04 ∷ 0x00 ∷ 0x02 ∷ 0x00 ∷ 0x04 ∷ 0x03 ∷ 0x00 ∷ 0x04 ∷ 0x00 ∷ 0x01 ∷ 0x00 ∷ 0x03 ∷ []

-- a span sheet whose one test is `02 EE 02 58`: 750 to 600
abbrev pub swapped_span : List ℕ
swapped_span = 0x01 ∷ 0x00 ∷ 0x02 ∷ 0x02 ∷ 0x01 ∷ 0x02 ∷ 0x00 ∷ 0x0B ∷ 0x00 ∷ 0x01 ∷ 0x01 ∷ 0x01 ∷ 0x03 ∷ 0x00 ∷ 0x04 ∷ 0x02 ∷ 0xEE ∷ 0x02 ∷ 0x58 ∷ []

-- a sheet with one signature of one track and n frames, each test the band 0 alone, on one head
abbrev pub long_sheet : ℕ → Sheet BandSet
long_sheet n = record { code = 1; heads = 1; signatures = record { name = 1; frames = n; tracks = replicate n (bands 1) ∷ [] } ∷ [] }

-- what the file of that sheet reads as
abbrev pub long_reads : ℕ → Result (Sheet BandSet) Told
long_reads n = reads_as band_facts (encode band_facts.tests (long_sheet n))

-- a climate reading of no moisture, so many tenths of a degree below zero
abbrev pub frost : ℕ → ClimateReading
frost n = record { moisture = 0; temperature = neg_ℤ (pos n) }

pub record WorkedLines : Type 0 where
  -- the demo sheet reads as it was meant
  pub reads_301 : reads_as band_facts first_sheet ≡ Ok (record { code = 1; heads = 2; signatures = record { name = 301; frames = 2; tracks = (bands 2 ∷ bands 4 ∷ []) ∷ (bands 1 ∷ bands 3 ∷ []) ∷ [] } ∷ [] })
  -- no bytes, no signature, nine heads
  pub empty_sheet : reads_as band_facts [] ≡ fault_at 10 0 1
  pub no_signature : reads_as band_facts (0x01 ∷ 0x00 ∷ 0x02 ∷ 0x01 ∷ 0x08 ∷ []) ≡ fault_at 19 5 3
  pub nine_heads : reads_as band_facts (0x01 ∷ 0x00 ∷ 0x02 ∷ 0x01 ∷ 0x09 ∷ []) ≡ fault_at 14 4 3
  -- 64 frames read, 65 are too many
  pub reads_64 : long_reads 64 ≡ Ok (long_sheet 64)
  pub longer_is_16 : long_reads 65 ≡ fault_at 16 11 3
  -- a span passes its ends and nothing beyond them; with its ends swapped it is no test
  pub passes_600 : span_facts.passes (record { low = 600; high = 750 }) 600 ≡ true
  pub passes_750 : span_facts.passes (record { low = 600; high = 750 }) 750 ≡ true
  pub stops_599 : span_facts.passes (record { low = 600; high = 750 }) 599 ≡ false
  pub stops_751 : span_facts.passes (record { low = 600; high = 750 }) 751 ≡ false
  pub no_test : span_facts.tests.reads (0x02 ∷ 0xEE ∷ 0x02 ∷ 0x58 ∷ []) ≡ None
  pub swapped_is_17 : reads_as span_facts swapped_span ≡ fault_at 17 15 2
  -- temperature -400 is 0xFE70 and lawful, -401 is not
  pub coldest_reads : climate_facts.readings.reads (0x00 ∷ 0x00 ∷ 0xFE ∷ 0x70 ∷ []) ≡ Some (frost 400)
  pub lawful_400 : climate_facts.readings.proper (frost 400) ≡ true
  pub unlawful_401 : climate_facts.readings.proper (frost 401) ≡ false
