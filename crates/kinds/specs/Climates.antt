-- The climate kind: a reading is moisture as in the span kind, then air temperature in tenths of a degree Celsius.
use Rattle.std.specs.Prelude.{ℕ, suc, ◌-◌, ◌/◌, ◌%◌, codes, decimal, Bool, cond, ◌&&◌, List, ◌++◌, ℤ, pos, negsuc, int_le, nat_lt}
use Rattle.kinds.specs.declared.climate.ClimateReading.{ClimateReading}
use Rattle.kinds.specs.declared.climate.ClimateTest.{ClimateTest}
use Rattle.kinds.specs.Bytes.{pair, word}
use Rattle.kinds.specs.Codings.{Coding, fixed}
use Rattle.kinds.specs.Kinds.{Facts}
use Rattle.kinds.specs.Scales.{Scaled, lawful, sound, within, interval_bytes, interval_at, interval_text}
use Rattle.kinds.specs.Spans.{moistures}

-- −40.0 and 250.0 degrees; negsuc n is −(n + 1)
abbrev pub least_temperature : ℤ
least_temperature = negsuc 399

abbrev pub most_temperature : ℤ
most_temperature = pos 2500

-- as `-40.0 C`
abbrev pub tenths_text : ℕ → List ℕ
tenths_text n = decimal (n / 10) ++ (codes "." ++ (decimal (n % 10) ++ codes " C"))

abbrev pub degrees_text : ℤ → List ℕ
degrees_text (pos n) = tenths_text n
degrees_text (negsuc n) = codes "-" ++ tenths_text (suc n)

-- a signed number as 16 bits, in two's complement, and back
abbrev pub to_bits : ℤ → ℕ
to_bits (pos n) = n
to_bits (negsuc n) = 65536 - suc n

abbrev pub of_bits : ℕ → ℤ
of_bits w = cond (nat_lt w 32768) (pos w) (negsuc (65535 - w))

abbrev pub temperatures : Scaled ℤ
temperatures = record { name = codes "temperature"; figures = degrees_text; le = int_le; least = least_temperature; most = most_temperature; bits = to_bits; value = of_bits }

-- a moisture span, then a temperature span
abbrev pub climate_sound : ClimateTest → Bool
climate_sound t = sound moistures t.moisture && sound temperatures t.temperature

-- both must pass
abbrev pub climate_passes : ClimateTest → ClimateReading → Bool
climate_passes t x = within moistures t.moisture x.moisture && within temperatures t.temperature x.temperature

abbrev pub climate_text : ClimateTest → List ℕ
climate_text t = interval_text moistures t.moisture ++ (codes ", " ++ interval_text temperatures t.temperature)

abbrev pub climate_bytes : ClimateTest → List ℕ
climate_bytes t = interval_bytes moistures t.moisture ++ interval_bytes temperatures t.temperature

abbrev pub climate_at : List ℕ → ClimateTest
climate_at bs = record { moisture = interval_at moistures bs 0; temperature = interval_at temperatures bs 4 }

abbrev pub climate_tests : Coding ClimateTest
climate_tests = fixed 8 climate_sound climate_bytes climate_at

abbrev pub climate_lawful : ClimateReading → Bool
climate_lawful x = lawful moistures x.moisture && lawful temperatures x.temperature

abbrev pub reading_bytes : ClimateReading → List ℕ
reading_bytes x = pair x.moisture ++ pair (to_bits x.temperature)

abbrev pub reading_at : List ℕ → ClimateReading
reading_at bs = record { moisture = word bs 0; temperature = of_bits (word bs 2) }

abbrev pub climate_readings : Coding ClimateReading
climate_readings = fixed 4 climate_lawful reading_bytes reading_at

abbrev pub climate_facts : Facts ClimateReading ClimateTest
climate_facts = record { code = 3; tests = climate_tests; readings = climate_readings; passes = climate_passes }
