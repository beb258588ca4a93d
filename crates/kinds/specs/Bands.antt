-- The band kind: a reading is one of sixteen moisture bands, a test is a set of bands.
use Rattle.std.specs.Prelude.{ℕ, zero, suc, ◌/◌, ◌%◌, ◌^◌, Bool, true, not, ◌&&◌, if◌then◌else◌, List, [], ◌∷◌, ◌++◌, ◌==◌, codes, decimal, nat_le, nat_lt, slice_index}
use Rattle.kinds.specs.declared.band.BandSet.{BandSet}
use Rattle.kinds.specs.Bytes.{pair, word}
use Rattle.kinds.specs.Codings.{Coding, fixed}
use Rattle.kinds.specs.Kinds.{Facts}

abbrev pub most_band : ℕ
most_band = 15

-- a 16-bit set, not empty
abbrev pub set_sound : BandSet → Bool
set_sound t = nat_lt 0 t.bits && nat_lt t.bits 65536

-- band b passes if the bit of weight 2^b is set
abbrev pub in_set : BandSet → ℕ → Bool
in_set t b = t.bits / 2 ^ b % 2 == 1

-- no band below n is in the set
abbrev pub none_below : BandSet → ℕ → Bool
none_below t zero = true
none_below t (suc n) = none_below t n && not (in_set t n)

-- the bands below n that are in the set, as `bands 1, 4`
abbrev pub bands_text : BandSet → ℕ → List ℕ
bands_text t zero = []
bands_text t (suc n) = bands_text t n ++ (if in_set t n then (if none_below t n then codes "bands " else codes ", ") ++ decimal n else [])

-- the set in two bytes
abbrev pub set_at : List ℕ → BandSet
set_at bs = record { bits = word bs 0 }

abbrev pub band_tests : Coding BandSet
band_tests = fixed 2 set_sound (λ t. pair t.bits) set_at

abbrev pub band_lawful : ℕ → Bool
band_lawful b = nat_le b most_band

abbrev pub band_readings : Coding ℕ
band_readings = fixed 1 band_lawful (λ b. b ∷ []) (λ bs. slice_index bs 0)

abbrev pub band_facts : Facts ℕ BandSet
band_facts = record { code = 1; tests = band_tests; readings = band_readings; passes = in_set }
