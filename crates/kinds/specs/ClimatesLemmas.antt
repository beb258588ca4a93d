-- The laws of the climate kind. Assumes nothing.
use Rattle.std.specs.Prelude.{◌≡◌, ℕ, suc, ◌-◌, ◌<◌, true, [], ◌∷◌, ◌++◌, ℤ, pos, negsuc, int_le, slice_index, refl}
use Rattle.std.proofs.Common.{ap, ◌∙◌, arith}
use Rattle.std.proofs.lemmas.Bool.{leb-true, lt-ltb, le-ltb, and_parts, cond-true, cond-false}
use Rattle.kinds.specs.Bytes.{pair, word}
use Rattle.kinds.specs.Codings.{Lawful}
use Rattle.kinds.specs.Kinds.{most_test_width, most_reading_width}
use Rattle.kinds.specs.Scales.{lawful, sound, interval_bytes, interval_at}
use Rattle.kinds.specs.Spans.{moistures}
use Rattle.kinds.specs.Climates.{least_temperature, most_temperature, to_bits, of_bits, temperatures, climate_sound, climate_bytes, climate_at, climate_tests, climate_lawful, reading_bytes, reading_at, climate_readings}
use Rattle.kinds.specs.BytesLemmas.{each_octet, sized_from, pair_octets}
use Rattle.kinds.specs.ScalesLemmas.{Fits, Exact, number_back, number_at, interval_octets, sound_back, interval_again}
use Rattle.kinds.specs.SpansLemmas.{moistures_exact}
use Rattle.kinds.specs.CodingsLemmas.{fixed_lawful}

-- 16 bits, and back
pub bits_back : (w : ℕ) → w < 65536 → to_bits (of_bits w) ≡ w
bits_back w h = grind arith

pub temperature_fits : (z : ℤ) → lawful temperatures z ≡ true → Fits temperatures z
temperature_fits (pos n) h =
    let k = leb-true n 2500 (and_parts (int_le least_temperature (pos n)) (int_le (pos n) most_temperature) h).1 in
    record { few = omega arith; back = cond-true _ _ _ (lt-ltb n 32768 (omega arith)) }
temperature_fits (negsuc n) h =
    let k = leb-true n 399 (and_parts (int_le least_temperature (negsuc n)) (int_le (negsuc n) most_temperature) h).0 in
    record { few = omega arith; back = cond-false _ _ _ (le-ltb (65536 - suc n) 32768 (omega arith)) ∙ ap negsuc (omega arith) }

le_z_trans : (a b c : ℤ) → int_le a b ≡ true → int_le b c ≡ true → int_le a c ≡ true
le_z_trans a b c h k = grind arith

pub temperatures_exact : Exact temperatures
temperatures_exact = record { trans = le_z_trans; fits = temperature_fits; again = bits_back }

pub climate_tests_lawful : Lawful most_test_width climate_tests
climate_tests_lawful =
    fixed_lawful 8 climate_sound climate_bytes climate_at (omega arith) (omega arith)
    (λ t h.
    let p = and_parts (sound moistures t.moisture) (sound temperatures t.temperature) h in
    let k = t.temperature in (
      sized_from 8 (climate_bytes t) refl (interval_octets moistures t.moisture (interval_bytes temperatures k) (interval_octets temperatures k [] refl)),
      ap (λ s. record { moisture = s; temperature = interval_at temperatures (interval_bytes temperatures k) 0 }) (sound_back moistures moistures_exact t.moisture p.0)
          ∙ ap (λ s. record { moisture = t.moisture; temperature = s }) (sound_back temperatures temperatures_exact k p.1),
    ))
    (λ bs h. let o = each_octet 8 bs h in
    ap (λ xs. xs ++ interval_bytes temperatures (interval_at temperatures bs 4)) (interval_again moistures moistures_exact 8 bs o 0)
    ∙ ap (λ xs. slice_index bs 0 ∷ slice_index bs 1 ∷ slice_index bs 2 ∷ slice_index bs 3 ∷ xs) (interval_again temperatures temperatures_exact 8 bs o 4)
    ∙ o.all)

pub climate_readings_lawful : Lawful most_reading_width climate_readings
climate_readings_lawful =
    fixed_lawful 4 climate_lawful reading_bytes reading_at (omega arith) (omega arith)
    (λ x h.
    let p = and_parts (lawful moistures x.moisture) (lawful temperatures x.temperature) h in (
      sized_from 4 (reading_bytes x) refl (pair_octets x.moisture (pair (to_bits x.temperature)) (pair_octets (to_bits x.temperature) [] refl)),
      ap (λ n. record { moisture = n; temperature = of_bits (word (pair (to_bits x.temperature)) 0) }) (number_back moistures x.moisture (moistures_exact.fits x.moisture p.0))
          ∙ ap (λ z. record { moisture = x.moisture; temperature = z }) (number_back temperatures x.temperature (temperature_fits x.temperature p.1)),
    ))
    (λ bs h. let o = each_octet 4 bs h in
    ap (λ xs. xs ++ pair (to_bits (of_bits (word bs 2)))) (number_at moistures moistures_exact 4 bs o 0)
    ∙ ap (λ xs. slice_index bs 0 ∷ slice_index bs 1 ∷ xs) (number_at temperatures temperatures_exact 4 bs o 2)
    ∙ o.all)
