-- Intervals read back from their bytes. Assumes nothing.
use Rattle.std.specs.Prelude.{◌≡◌, ℕ, ◌+◌, ◌<◌, true, ◌&&◌, List, [], ◌∷◌, ◌++◌, slice_index}
use Rattle.std.proofs.Common.{ap, ◌∙◌}
use Rattle.std.proofs.lemmas.Bool.{and_from, and_parts}
use Rattle.kinds.specs.declared.scale.Interval.{Interval}
use Rattle.kinds.specs.Bytes.{pair, word, octets}
use Rattle.kinds.specs.Scales.{Scaled, lawful, sound, interval_bytes, interval_at}
use Rattle.kinds.specs.BytesLemmas.{Octets, pair_at, pair_octets, word_small, word_of}

-- a number fits 16 bits, and comes back from them
pub record Fits {X : Type 0} (s : Scaled X) (x : X) : Type 0 where
  pub few : s.bits x < 65536
  pub back : s.value (s.bits x) ≡ x

-- The laws of a scale.
pub record Exact {X : Type 0} (s : Scaled X) : Type 0 where
  pub trans : (a b c : X) → s.le a b ≡ true → s.le b c ≡ true → s.le a c ≡ true
  pub fits : (x : X) → lawful s x ≡ true → Fits s x
  pub again : (w : ℕ) → w < 65536 → s.bits (s.value w) ≡ w

module _ {X : Type 0} (s : Scaled X) where
  -- a number reads back from its bytes
  pub number_back : (x : X) → Fits s x → s.value (word (pair (s.bits x)) 0) ≡ x
  number_back x f = ap s.value (word_of (s.bits x) f.few) ∙ f.back

  pub interval_octets : (t : Interval X) (bs : List ℕ) → octets bs ≡ true → octets (interval_bytes s t ++ bs) ≡ true
  interval_octets t bs h = pair_octets (s.bits t.low) (pair (s.bits t.high) ++ bs) (pair_octets (s.bits t.high) bs h)

  pub interval_back : (t : Interval X) → Fits s t.low → Fits s t.high → interval_at s (interval_bytes s t) 0 ≡ t
  interval_back t f g =
      ap (λ x. record { low = x; high = s.value (word (pair (s.bits t.high)) 0) }) (number_back t.low f) ∙ ap (λ x. record { low = t.low; high = x }) (number_back t.high g)

module _ {X : Type 0} (s : Scaled X) (e : Exact s) where
  -- the ends of a sound interval fit
  pub ends_fit : (t : Interval X) → sound s t ≡ true → Fits s t.low × Fits s t.high
  ends_fit t h =
      let p = and_parts (s.le s.least t.low) (s.le t.low t.high && s.le t.high s.most) h in
      let q = and_parts (s.le t.low t.high) (s.le t.high s.most) p.1 in
      (e.fits t.low (and_from _ _ p.0 (e.trans t.low t.high s.most q.0 q.1)), e.fits t.high (and_from _ _ (e.trans s.least t.low t.high p.0 q.0) q.1))

  pub sound_back : (t : Interval X) → sound s t ≡ true → interval_at s (interval_bytes s t) 0 ≡ t
  sound_back t h = let f = ends_fit t h in interval_back s t f.0 f.1

  -- the bytes at place i are those of the number that they stand for
  pub number_at : (n : ℕ) (bs : List ℕ) → Octets n bs → (i : ℕ) → pair (s.bits (s.value (word bs i))) ≡ slice_index bs i ∷ slice_index bs (i + 1) ∷ []
  number_at n bs h i = ap pair (e.again (word bs i) (word_small n bs h i)) ∙ pair_at n bs h i

  pub interval_again : (n : ℕ) (bs : List ℕ) → Octets n bs → (i : ℕ)
      → interval_bytes s (interval_at s bs i) ≡ slice_index bs i ∷ slice_index bs (i + 1) ∷ slice_index bs (i + 2) ∷ slice_index bs (i + 2 + 1) ∷ []
  interval_again n bs h i =
      ap (λ xs. xs ++ pair (s.bits (s.value (word bs (i + 2))))) (number_at n bs h i) ∙ ap (λ xs. slice_index bs i ∷ slice_index bs (i + 1) ∷ xs) (number_at n bs h (i + 2))
