-- Placings head by head, as the search makes them; and a placing leaves no set short.
use Rattle.std.proofs.Common.{◌≡◌, ℕ, zero, suc, ◌<◌, Bool, true, not, ◌&&◌, eqb, List, [], ◌∷◌, length, get_or, sym, refl, ap, ◌∙◌, arith}
use Rattle.std.proofs.lemmas.Bool.{eq-eqb, ne_eqb, true≢false, and_parts, and_from}
use Rattle.matching.specs.Short.{usable, Short}
use Rattle.matching.specs.Placings.{Places}
use Rattle.matching.specs.Fitting.{Fitting, later}
use Rattle.matching.specs.Search.{without}
use Rattle.matching.proofs.Counting.{count_into, any_in}

-- The same as `Places`, head by head.
abbrev pub Seats : ℕ → Fitting → (ℕ → Bool) → List ℕ → Type 0
Seats N fits free [] = Unit
Seats N fits free (h ∷ hs) = (h < N) × (free h ≡ true) × (fits 0 h ≡ true) × Seats N (later fits) (without free h) hs

abbrev pub Free : (ℕ → Bool) → List ℕ → Type 0
Free free hs = (t : ℕ) → t < length hs → free (get_or hs t 0) ≡ true

places_cons : (N h : ℕ) (hs : List ℕ) (fits : Fitting) (free : ℕ → Bool) → h < N → free h ≡ true → fits 0 h ≡ true
    → Places (later fits) (length hs) N hs × Free (without free h) hs → Places fits (suc (length hs)) N (h ∷ hs) × Free free (h ∷ hs)
places_cons N h hs fits free b f i rest = (record { all = refl; below = below; fit = fit; apart = apart }, open')
  where
    gone : (t : ℕ) → t < length hs → (free (get_or hs t 0) ≡ true) × (not (eqb (get_or hs t 0) h) ≡ true)
    gone t l = and_parts (free (get_or hs t 0)) (not (eqb (get_or hs t 0) h)) (rest.1 t l)

    below : (t : ℕ) → t < suc (length hs) → get_or (h ∷ hs) t 0 < N
    below zero l = b
    below (suc t) l = rest.0.below t (omega arith)

    fit : (t : ℕ) → t < suc (length hs) → fits t (get_or (h ∷ hs) t 0) ≡ true
    fit zero l = i
    fit (suc t) l = rest.0.fit t (omega arith)

    apart : (t u : ℕ) → t < u → u < suc (length hs) → get_or (h ∷ hs) t 0 ≡ get_or (h ∷ hs) u 0 → ⊥
    apart t zero l m e = omega arith
    apart zero (suc u) l m e = true≢false (sym (gone u (omega arith)).1 ∙ ap not (eq-eqb (get_or hs u 0) h (sym e)))
    apart (suc t) (suc u) l m e = rest.0.apart t u (omega arith) (omega arith) e

    open' : (t : ℕ) → t < suc (length hs) → free (get_or (h ∷ hs) t 0) ≡ true
    open' zero l = f
    open' (suc t) l = (gone t (omega arith)).0

pub places_of : (N : ℕ) (hs : List ℕ) (fits : Fitting) (free : ℕ → Bool) → Seats N fits free hs
    → Places fits (length hs) N hs × Free free hs
places_of N [] fits free h =
    (record { all = refl; below = λ t l. absurd (omega arith); fit = λ t l. absurd (omega arith); apart = λ t u l m e. omega arith }, λ t l. absurd (omega arith))
places_of N (h ∷ hs) fits free p = places_cons N h hs fits free p.0 p.1 p.2 (places_of N hs (later fits) (without free h) p.3)

pub seats_of : (N : ℕ) (hs : List ℕ) (fits : Fitting) (free : ℕ → Bool) → Places fits (length hs) N hs → Free free hs
    → Seats N fits free hs
seats_of N [] fits free p f = tt
seats_of N (h ∷ hs) fits free p f = (
  p.below 0 (omega arith),
  f 0 (omega arith),
  p.fit 0 (omega arith),
  seats_of N hs (later fits) (without free h)
      (record { all = refl; below = λ t l. p.below (suc t) (omega arith); fit = λ t l. p.fit (suc t) (omega arith); apart = λ t u l m. p.apart (suc t) (suc u) (omega arith) (omega arith) })
      (λ t l. and_from (free (get_or hs t 0)) (not (eqb (get_or hs t 0) h)) (f (suc t) (omega arith))
      (ap not (ne_eqb (get_or hs t 0) h (λ e. p.apart 0 (suc t) (omega arith) (omega arith) (sym e))))),
)

-- A placing leaves no set short.
pub not_both : (fits : Fitting) (M N : ℕ) (hs : List ℕ) (s : ℕ → Bool) → Places fits M N hs → Short fits M N s → ⊥
not_both fits M N hs s p h =
    omega (
      arith,
      h,
      count_into M N s (usable fits s M) (λ t. get_or hs t 0) (λ t l _. p.below t l)
          (λ t l e. any_in (λ x. s x && fits x (get_or hs t 0)) M t l (and_from (s t) (fits t (get_or hs t 0)) e (p.fit t l)))
          (λ t u l m _ _. p.apart t u l m),
    )
