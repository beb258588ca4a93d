-- The laws of the band kind. Assumes nothing.
use Rattle.std.specs.Prelude.{◌≡◌, ℕ, List, [], ◌∷◌, nat_lt, slice_index, refl}
use Rattle.std.proofs.Common.{ap, ◌∙◌, arith}
use Rattle.std.proofs.lemmas.Bool.{ltb-true, leb-true, lt-ltb, and_from, and_parts}
use Rattle.kinds.specs.Bytes.{pair}
use Rattle.kinds.specs.Codings.{Lawful}
use Rattle.kinds.specs.Kinds.{most_test_width, most_reading_width}
use Rattle.kinds.specs.Bands.{set_sound, set_at, band_tests, band_lawful, band_readings, most_band}
use Rattle.kinds.specs.BytesLemmas.{Octets, each_octet, sized_from, pair_at, pair_octets, word_of}
use Rattle.kinds.specs.CodingsLemmas.{fixed_lawful}

pub sets_lawful : Lawful most_test_width band_tests
sets_lawful =
    fixed_lawful 2 set_sound (λ t. pair t.bits) set_at (omega arith) (omega arith)
    (λ t h. let b = ltb-true t.bits 65536 (and_parts (nat_lt 0 t.bits) (nat_lt t.bits 65536) h).1 in
    (sized_from 2 (pair t.bits) refl (pair_octets t.bits [] refl), ap (λ n. record { bits = n }) (word_of t.bits b)))
    (λ bs h. two bs (each_octet 2 bs h))
  where
    two : (bs : List ℕ) → Octets 2 bs → pair (set_at bs).bits ≡ bs
    two bs h = pair_at 2 bs h 0 ∙ h.all

pub bands_lawful : Lawful most_reading_width band_readings
bands_lawful =
    fixed_lawful 1 band_lawful (λ b. b ∷ []) _ (omega arith) (omega arith)
    (λ b h. let l = leb-true b most_band h in (sized_from 1 (b ∷ []) refl (and_from _ _ (lt-ltb b 256 (omega arith)) refl), refl))
    (λ bs h. one bs (each_octet 1 bs h))
  where
    one : (bs : List ℕ) → Octets 1 bs → slice_index bs 0 ∷ [] ≡ bs
    one bs h = h.all
