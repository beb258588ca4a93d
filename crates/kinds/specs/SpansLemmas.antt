-- The laws of the span kind. Assumes nothing.
use Rattle.std.specs.Prelude.{◌≡◌, ℕ, ◌<◌, ◌&&◌, [], nat_le, refl}
use Rattle.std.proofs.Common.{ap, ◌∙◌, arith}
use Rattle.std.proofs.Math.Dec.{leb-zero}
use Rattle.std.proofs.lemmas.Bool.{le-leb, leb-true, and_parts}
use Rattle.kinds.specs.declared.scale.Interval.{Interval}
use Rattle.kinds.specs.Bytes.{pair, word}
use Rattle.kinds.specs.Codings.{Lawful}
use Rattle.kinds.specs.Kinds.{most_test_width, most_reading_width}
use Rattle.kinds.specs.Scales.{lawful, sound, interval_bytes, interval_at}
use Rattle.kinds.specs.Spans.{most_moisture, moistures, span_tests, span_readings}
use Rattle.kinds.specs.BytesLemmas.{each_octet, sized_from, pair_octets}
use Rattle.kinds.specs.ScalesLemmas.{Fits, Exact, number_back, number_at, interval_octets, sound_back, interval_again}
use Rattle.kinds.specs.CodingsLemmas.{fixed_lawful}

-- no moisture is below the least: what a lawful one and a sound span are
pub moisture_lawful : (x : ℕ) → lawful moistures x ≡ nat_le x most_moisture
moisture_lawful x = ap (λ b. b && nat_le x most_moisture) (leb-zero x)

pub span_sound : (t : Interval ℕ) → sound moistures t ≡ (nat_le t.low t.high && nat_le t.high most_moisture)
span_sound t = ap (λ b. b && (nat_le t.low t.high && nat_le t.high most_moisture)) (leb-zero t.low)

pub moisture_fits : (x : ℕ) → x < 65536 → Fits moistures x
moisture_fits x h = record { few = h; back = refl }

pub moistures_exact : Exact moistures
moistures_exact =
    record {
      trans = λ a b c h k. let l = leb-true a b h in let m = leb-true b c k in le-leb a c (omega arith);
      fits = λ x h. let m = leb-true x most_moisture (and_parts (nat_le 0 x) (nat_le x most_moisture) h).1 in moisture_fits x (omega arith);
      again = λ w h. refl;
    }

pub spans_lawful : Lawful most_test_width span_tests
spans_lawful =
    fixed_lawful 4 (sound moistures) (interval_bytes moistures) (λ bs. interval_at moistures bs 0) (omega arith) (omega arith)
    (λ t h. (sized_from 4 (interval_bytes moistures t) refl (interval_octets moistures t [] refl), sound_back moistures moistures_exact t h))
    (λ bs h. let o = each_octet 4 bs h in interval_again moistures moistures_exact 4 bs o 0 ∙ o.all)

pub moistures_lawful : Lawful most_reading_width span_readings
moistures_lawful =
    fixed_lawful 2 (lawful moistures) pair (λ bs. word bs 0) (omega arith) (omega arith)
    (λ n h. (sized_from 2 (pair n) refl (pair_octets n [] refl), number_back moistures n (moistures_exact.fits n h)))
    (λ bs h. let o = each_octet 2 bs h in number_at moistures moistures_exact 2 bs o 0 ∙ o.all)
