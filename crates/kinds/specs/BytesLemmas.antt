-- Bytes and the numbers they stand for. Assumes nothing.
use Rattle.std.specs.Prelude.{◌≡◌, ℕ, zero, suc, ◌+◌, ◌*◌, ◌/◌, ◌%◌, ◌^◌, ◌<◌, ◌≤◌, true, List, [], ◌∷◌, ◌++◌, length, ◌==◌, nat_lt, slice_index, refl}
use Rattle.std.proofs.Common.{sym, ap, ◌∙◌, arith, pow_mono}
use Rattle.std.proofs.Math.Nat.{div-eq_of_lt}
use Rattle.std.proofs.lemmas.Bool.{eq-eqb, eqb-true, lt-ltb, ltb-true, and_from, and_parts}
use Rattle.kinds.specs.Bytes.{pair, word, octets, sized}

pub octets_of : (bs : List ℕ) → ((i : ℕ) → slice_index bs i < 256) → octets bs ≡ true
octets_of [] h = refl
octets_of (b ∷ bs) h = and_from _ _ (lt-ltb b 256 (h 0)) (octets_of bs (λ i. h (suc i)))

pub sized_from : (n : ℕ) (bs : List ℕ) → length bs ≡ n → octets bs ≡ true → sized n bs ≡ true
sized_from n bs l o = and_from _ _ (eq-eqb (length bs) n l) o

-- what the code's own bytes give
pub sized_of : (n : ℕ) (bs : List ℕ) → length bs ≡ n → ((i : ℕ) → slice_index bs i < 256) → sized n bs ≡ true
sized_of n bs l h = sized_from n bs l (octets_of bs h)

pub sized_parts : (n : ℕ) (bs : List ℕ) → sized n bs ≡ true → (length bs ≡ n) × (octets bs ≡ true)
sized_parts n bs h = let p = and_parts (length bs == n) (octets bs) h in (eqb-true (length bs) n p.0, p.1)

-- each place holds a byte; past the end there is 0
pub octet_at : (bs : List ℕ) → octets bs ≡ true → (i : ℕ) → slice_index bs i < 256
octet_at [] h i = omega arith
octet_at (b ∷ bs) h zero = ltb-true b 256 (and_parts (nat_lt b 256) (octets bs) h).0
octet_at (b ∷ bs) h (suc i) = octet_at bs (and_parts (nat_lt b 256) (octets bs) h).1 i

-- the n elements from place i on
abbrev pub listed : ℕ → ℕ → List ℕ → List ℕ
listed zero i bs = []
listed (suc n) i bs = slice_index bs i ∷ listed n (suc i) bs

pub listed_all : (bs : List ℕ) → listed (length bs) 0 bs ≡ bs
listed_all [] = refl
listed_all (b ∷ bs) = ap (λ xs. b ∷ xs) (later (length bs) 0 ∙ listed_all bs)
  where
    later : (n i : ℕ) → listed n (suc i) (b ∷ bs) ≡ listed n i bs
    later zero i = refl
    later (suc n) i = ap (λ xs. slice_index bs i ∷ xs) (later n (suc i))

-- so many bytes, place by place
pub record Octets (n : ℕ) (bs : List ℕ) : Type 0 where
  pub all : listed n 0 bs ≡ bs
  pub at : (i : ℕ) → slice_index bs i < 256

pub each_octet : (n : ℕ) (bs : List ℕ) → sized n bs ≡ true → Octets n bs
each_octet n bs h = let p = sized_parts n bs h in record { all = ap (λ m. listed m 0 bs) (sym p.0) ∙ listed_all bs; at = octet_at bs p.1 }

-- two bytes are those of the number they stand for
pub pair_of : (a b : ℕ) → a < 256 → b < 256 → pair (a * 256 + b) ≡ a ∷ b ∷ []
pair_of a b h l =
    let p : (a * 256 + b) / 256 % 256 ≡ a = omega arith in
    let q : (a * 256 + b) % 256 ≡ b = omega arith in
    cc

pub pair_at : (n : ℕ) (bs : List ℕ) → Octets n bs → (i : ℕ) → pair (word bs i) ≡ slice_index bs i ∷ slice_index bs (i + 1) ∷ []
pair_at n bs h i = pair_of (slice_index bs i) (slice_index bs (i + 1)) (h.at i) (h.at (i + 1))

pub word_small : (n : ℕ) (bs : List ℕ) → Octets n bs → (i : ℕ) → word bs i < 65536
word_small n bs h i = omega (arith, h.at i, h.at (i + 1))

pub word_of : (n : ℕ) → n < 65536 → (n / 256 % 256) * 256 + n % 256 ≡ n
word_of n h = omega arith

-- the pair's bytes are bytes
pub pair_octets : (n : ℕ) (bs : List ℕ) → octets bs ≡ true → octets (pair n ++ bs) ≡ true
pair_octets n bs h = and_from _ _ (lt-ltb (n / 256 % 256) 256 (omega arith)) (and_from _ _ (lt-ltb (n % 256) 256 (omega arith)) h)

-- a number of 16 bits has none of weight 2^16 or more
pub no_bit : (n b : ℕ) → n < 65536 → 16 ≤ b → n / 2 ^ b ≡ 0
no_bit n b h k = let m : 2 ^ 16 ≤ 2 ^ b = pow_mono k in let l : n < 2 ^ b = omega arith in div-eq_of_lt l
