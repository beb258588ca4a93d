-- The deficiency form of Hall's theorem: how many tracks can be placed at once.
use Rattle.std.proofs.Common.{◌≡◌, ℕ, zero, suc, ◌+◌, ◌-◌, ◌^◌, ◌<◌, ◌≤◌, Bool, true, false, not, ◌&&◌, ◌||◌, ltb, leb, ◌⊎◌, List, get_or, refl, inl, inr, arith}
use Rattle.std.proofs.lemmas.Bool.{ltb-true, ltb-false, lt-ltb, cases_lt, and_parts, and_from, or_cases, or_left, or_right, le-leb, lt-leb, le-ltb, leb-true, not-true}
use Rattle.matching.specs.Count.{count}
use Rattle.matching.specs.Short.{usable, Short}
use Rattle.matching.specs.Placings.{Places}
use Rattle.matching.specs.Sets.{has}
use Rattle.matching.specs.Deficiency.{excess, greatest, most, PlacesPart}
use Rattle.matching.specs.Theorems.{Most}
use Rattle.matching.specs.Fitting.{Fitting}
use Rattle.matching.proofs.Counting.{count_all, count_from, one, count_sum, count_nobody, count_into, any_in, any_out}
use Rattle.matching.proofs.Rightness.{hall_holds}

greatest_le : (f : ℕ → ℕ) (n x : ℕ) → x < n → f x ≤ greatest f n
greatest_le f zero x l = absurd (omega arith)
greatest_le f (suc n) x l =
    elim (cases_lt x n) [ inl m ↦ omega (arith, greatest_le f n x m) | inr m ↦ let z : x ≡ n = omega arith in rw z (omega arith) ]

greatest_at : (f : ℕ → ℕ) (n : ℕ) → (greatest f n ≡ 0) ⊎ ((x : ℕ) × (x < n) × (f x ≡ greatest f n))
greatest_at f zero = inl refl
greatest_at f (suc n) =
    elim (cases_lt (f n) (greatest f n)) [
      | inl l ↦ elim (greatest_at f n) [ inl z ↦ absurd (omega arith) | inr r ↦ inr (r.0, omega arith, omega (arith, r.2)) ]
      | inr l ↦ inr (n, omega arith, omega arith)
    ]

module _ (fits : Fitting) (M N : ℕ) where
  -- No more: a set keeps out as many tracks as its excess.
  bound : (on : ℕ → Bool) (at : ℕ → ℕ) → PlacesPart fits M N on at → (s : ℕ → Bool) → count on M + excess fits M N s ≤ M
  bound on at p s =
      omega (
        arith,
        count_all M,
        count_nobody M,
        inside,
        count_sum s (λ x. false) (λ t. s t && on t) (λ t. not (on t)) (λ x. false) M (λ t l. part (s t) (on t)),
        count_sum on (λ t. not (on t)) (λ x. true) (λ x. false) (λ x. false) M (λ t l. whole (on t)),
      )
    where
      part : (a b : Bool) → one a + 0 ≤ one (a && b) + one (not b) + 0
      part a b = grind arith

      whole : (a : Bool) → one a + one (not a) ≤ 1 + 0 + 0
      whole a = grind arith

      inside : count (λ t. s t && on t) M ≤ count (usable fits s M) N
      inside =
          count_into M N (λ t. s t && on t) (usable fits s M) at (λ t l e. p.below t l (and_parts (s t) (on t) e).1)
          (λ t l e. any_in (λ x. s x && fits x (at t)) M t l (and_from (s t) (fits t (at t)) (and_parts (s t) (on t) e).0 (p.fit t l (and_parts (s t) (on t) e).1)))
          (λ t u l m e k. p.apart t u l m (and_parts (s t) (on t) e).1 (and_parts (s u) (on u) k).1)

  at_most : (on : ℕ → Bool) (at : ℕ → ℕ) → PlacesPart fits M N on at → count on M ≤ most fits M N
  at_most on at p =
      elim (greatest_at (λ s. excess fits M N (has s)) (2 ^ M)) [
        | inl z ↦ omega (arith, bound on at p (λ x. false))
        | inr r ↦ omega (arith, r.2, bound on at p (has r.0))
      ]

  -- Hall's theorem is used on d more heads, which fit every track.
  module _ (d : ℕ) where
    abbrev more : ℕ → ℕ → Bool
    more t h = fits t h || leb N h

    -- A set that is short all the same.
    shorter : (s : ℕ → Bool) → Short more M (N + d) s → d < excess fits M N s
    shorter s h =
        omega (
          arith,
          h,
          count_all d,
          count_nobody (N + d),
          count_into N (N + d) (usable fits s M) (λ x. usable fits s M x && ltb x N) (λ x. x) (λ x l _. omega arith) (λ x l e. and_from (usable fits s M x) (ltb x N) e (lt-ltb x N l)) (λ x y l m _ _ e. omega arith),
          count_into d (N + d) (λ x. true) (λ x. leb N x) (λ x. N + x) (λ x l _. omega arith) (λ x l _. le-leb N (N + x) (omega arith)) (λ x y l m _ _ e. omega arith),
          count_sum (λ x. usable fits s M x && ltb x N) (λ x. leb N x) (usable more s M) (λ x. false) (λ x. false) (N + d) each,
        )
      where
        some : (t : ℕ) × (t < M) × (s t ≡ true)
        some = any_out s M (count_from s M (omega arith))

        each : (x : ℕ) → x < N + d → one (usable fits s M x && ltb x N) + one (leb N x) ≤ one (usable more s M x) + 0 + 0
        each x l = elim (cases_lt x N) [ inl m ↦ old m | inr m ↦ new m ]
          where
            kept : usable fits s M x ≡ true → usable more s M x ≡ true
            kept e =
                let w = any_out (λ t. s t && fits t x) M e in
                let q = and_parts (s w.0) (fits w.0 x) w.2 in
                any_in (λ t. s t && more t x) M w.0 w.1 (and_from (s w.0) (more w.0 x) q.0 (or_left (fits w.0 x) (leb N x) q.1))

            old : x < N → one (usable fits s M x && ltb x N) + one (leb N x) ≤ one (usable more s M x) + 0 + 0
            old m = go (usable fits s M x) (ltb x N) (leb N x) (usable more s M x) (lt-leb N x m) kept
              where
                go : (a b e c : Bool) → e ≡ false → (a ≡ true → c ≡ true) → one (a && b) + one e ≤ one c + 0 + 0
                go a b e c g f = grind arith

            new : N ≤ x → one (usable fits s M x && ltb x N) + one (leb N x) ≤ one (usable more s M x) + 0 + 0
            new m =
                go (usable fits s M x) (ltb x N) (leb N x) (usable more s M x) (le-ltb x N m)
                (any_in (λ t. s t && more t x) M some.0 some.1 (and_from (s some.0) (more some.0 x) some.2 (or_right (fits some.0 x) (leb N x) (le-leb N x m))))
              where
                go : (a b e c : Bool) → b ≡ false → c ≡ true → one (a && b) + one e ≤ one c + 0 + 0
                go a b e c f g = grind arith

    -- The tracks that stand on old heads: all but d.
    kept_on : (hs : List ℕ) → Places more M (N + d) hs
        → PlacesPart fits M N (λ t. ltb (get_or hs t 0) N) (λ t. get_or hs t 0) × (M ≤ count (λ t. ltb (get_or hs t 0) N) M + d)
    kept_on hs p = (
      record { below = λ t l e. ltb-true (get_or hs t 0) N e; fit = fit; apart = λ t u l m _ _. p.apart t u l m },
      omega (
        arith,
        count_all M,
        count_all d,
        count_nobody M,
        count_sum (λ x. true) (λ x. false) (λ t. ltb (get_or hs t 0) N) (λ t. not (ltb (get_or hs t 0) N)) (λ x. false) M (λ t l. whole (ltb (get_or hs t 0) N)),
        count_into M d (λ t. not (ltb (get_or hs t 0) N)) (λ x. true) (λ t. get_or hs t 0 - N)
            (λ t l e. omega (arith, p.below t l, out t e)) (λ t l e. refl)
            (λ t u l m e k z. p.apart t u l m (omega (arith, z, out t e, out u k))),
      ),
    )
      where
        whole : (a : Bool) → 1 + 0 ≤ one a + one (not a) + 0
        whole a = grind arith

        out : (t : ℕ) → not (ltb (get_or hs t 0) N) ≡ true → N ≤ get_or hs t 0
        out t e = ltb-false (get_or hs t 0) N (not-true (ltb (get_or hs t 0) N) e)

        fit : (t : ℕ) → t < M → ltb (get_or hs t 0) N ≡ true → fits t (get_or hs t 0) ≡ true
        fit t l e =
            elim (or_cases (fits t (get_or hs t 0)) (leb N (get_or hs t 0)) (p.fit t l)) [
              | inl k ↦ k
              | inr k ↦ absurd (omega (arith, ltb-true (get_or hs t 0) N e, leb-true N (get_or hs t 0) k))
            ]

pub most_holds : (fits : Fitting) (M N : ℕ) → Most fits M N
most_holds fits M N = record { reached = go; bound = at_most fits M N }
  where
    d : ℕ
    d = greatest (λ s. excess fits M N (has s)) (2 ^ M)

    go : (on : ℕ → Bool) × (at : ℕ → ℕ) × PlacesPart fits M N on at × (count on M ≡ most fits M N)
    go =
        elim (hall_holds (more fits M N d) M (N + d)).either [
          | inl r ↦
              let k = kept_on fits M N d r.0 r.1 in
              (λ t. ltb (get_or r.0 t 0) N, λ t. get_or r.0 t 0, k.0, omega (arith, k.1, at_most fits M N (λ t. ltb (get_or r.0 t 0) N) (λ t. get_or r.0 t 0) k.0))
          | inr r ↦ absurd (omega (arith, shorter fits M N d (has r.0) r.2, greatest_le (λ s. excess fits M N (has s)) (2 ^ M) r.0 r.1))
        ]
