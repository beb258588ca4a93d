-- Hall's theorem, along the search: where it fails, a set is short.
use Rattle.std.proofs.Common.{◌≡◌, ℕ, zero, suc, ◌+◌, ◌<◌, ◌≤◌, Bool, true, false, cond, not, ◌&&◌, ◌||◌, eqb, ltb, ◌⊎◌, List, [], ◌∷◌, Some, None, Option, sym, refl, ◌∙◌, inl, inr, arith}
use Rattle.std.proofs.lemmas.Bool.{eq-eqb, ltb-true, lt-ltb, cases_Bool, cases_lt, cond-true, true≢false, and_parts, and_from, or_cases}
use Rattle.matching.specs.Count.{count}
use Rattle.matching.specs.Short.{usable}
use Rattle.matching.specs.Fitting.{Fitting, later}
use Rattle.matching.specs.Search.{without, or_else, prepend, first_some, first_on}
use Rattle.matching.proofs.First.{some_none}
use Rattle.matching.proofs.Counting.{one, count_sum, count_nobody, count_le, count_one, any_in, any_out}

-- A set of the k tracks that has fewer free heads than tracks.
abbrev pub ShortOn : ℕ → Fitting → ℕ → (ℕ → Bool) → (ℕ → Bool) → Type 0
ShortOn N fits k free s = count (λ h. free h && usable fits s k h) N < count s k

-- The count of heads in `join`, at one head.
at_head : (H wT wS wU wI f l l' e : Bool)
    → (wU ≡ true → (wT ≡ true) ⊎ (wS ≡ true)) → (wI ≡ true → (wT ≡ true) × (wS ≡ true)) → (l' ≡ true → (l ≡ true) ⊎ (e ≡ true))
    → one (H && (wU || (f && l'))) + one (H && wI) ≤ one (H && (wT || (f && l))) + one ((H && not e) && wS) + one e
at_head H wT wS wU wI f l l' e u i c = grind arith

none_or : (a b : Option (List ℕ)) → or_else a b ≡ None → (a ≡ None) × (b ≡ None)
none_or (Some a) b e = absurd (some_none a e)
none_or None b e = (refl, e)

none_prepend : (h : ℕ) (a : Option (List ℕ)) → prepend h a ≡ None → a ≡ None
none_prepend h (Some a) e = absurd (some_none (h ∷ a) e)
none_prepend h None e = refl

module _ (N : ℕ) (fits : Fitting) (k : ℕ) (free : ℕ → Bool) where
  -- The tracks of s and one more, which fits the heads of p, have no more free heads than s has tracks.
  abbrev Tight : (ℕ → Bool) → (ℕ → Bool) → Type 0
  Tight p s = count (λ h. free h && (usable fits s k h || p h)) N ≤ count s k

  -- The extra track may also have the head n, without which t is short: then the two sets join, or their common part is short.
  join : (p : ℕ → Bool) (n : ℕ) (s t : ℕ → Bool) → Tight (λ h. p h && ltb h n) s → ShortOn N fits k (without free n) t
      → ((r : ℕ → Bool) × ShortOn N fits k free r) ⊎ ((r : ℕ → Bool) × Tight (λ h. p h && ltb h (suc n)) r)
  join p n s t hs ht =
      elim (cases_lt (count (λ h. free h && usable fits i k h) N) (count i k)) [
        | inl l ↦ inl (i, l)
        | inr l ↦ inr (u, omega (arith, tracks, heads, count_one n N, count_nobody k))
      ]
    where
      u : ℕ → Bool
      u x = s x || t x

      i : ℕ → Bool
      i x = s x && t x

      tracks : count s k + count t k ≤ count u k + count i k + count (λ x. false) k
      tracks = count_sum s t u i (λ x. false) k (λ x l. each (s x) (t x))
        where
          each : (a b : Bool) → one a + one b ≤ one (a || b) + one (a && b) + 0
          each a b = grind arith

      up : (h : ℕ) → usable fits u k h ≡ true → (usable fits s k h ≡ true) ⊎ (usable fits t k h ≡ true)
      up h e =
          let r = any_out (λ x. u x && fits x h) k e in
          let q = and_parts (u r.0) (fits r.0 h) r.2 in
          elim (or_cases (s r.0) (t r.0) q.0) [
            | inl a ↦ inl (any_in (λ x. s x && fits x h) k r.0 r.1 (and_from (s r.0) (fits r.0 h) a q.1))
            | inr a ↦ inr (any_in (λ x. t x && fits x h) k r.0 r.1 (and_from (t r.0) (fits r.0 h) a q.1))
          ]

      down : (h : ℕ) → usable fits i k h ≡ true → (usable fits s k h ≡ true) × (usable fits t k h ≡ true)
      down h e =
          let r = any_out (λ x. i x && fits x h) k e in
          let q = and_parts (i r.0) (fits r.0 h) r.2 in
          let m = and_parts (s r.0) (t r.0) q.0 in (
            any_in (λ x. s x && fits x h) k r.0 r.1 (and_from (s r.0) (fits r.0 h) m.0 q.1),
            any_in (λ x. t x && fits x h) k r.0 r.1 (and_from (t r.0) (fits r.0 h) m.1 q.1),
          )

      next : (h : ℕ) → ltb h (suc n) ≡ true → (ltb h n ≡ true) ⊎ (eqb h n ≡ true)
      next h e = elim (cases_lt h n) [ inl l ↦ inl (lt-ltb h n l) | inr l ↦ inr (eq-eqb h n (omega (arith, ltb-true h (suc n) e))) ]

      heads : count (λ h. free h && (usable fits u k h || (p h && ltb h (suc n)))) N + count (λ h. free h && usable fits i k h) N
          ≤ count (λ h. free h && (usable fits s k h || (p h && ltb h n))) N + count (λ h. without free n h && usable fits t k h) N + count (λ h. eqb h n) N
      heads =
          count_sum (λ h. free h && (usable fits u k h || (p h && ltb h (suc n)))) (λ h. free h && usable fits i k h)
          (λ h. free h && (usable fits s k h || (p h && ltb h n))) (λ h. without free n h && usable fits t k h) (λ h. eqb h n) N
          (λ h l. at_head (free h) (usable fits s k h) (usable fits t k h) (usable fits u k h) (usable fits i k h) (p h) (ltb h n) (ltb h (suc n)) (eqb h n) (up h) (down h) (next h))

  -- None of the heads below n leaves a placing of the other tracks.
  none_below : (p : ℕ → Bool) (go : ℕ → Option (List ℕ)) → ((h : ℕ) → go h ≡ None → (r : ℕ → Bool) × ShortOn N fits k (without free h) r)
      → (n : ℕ) → first_some (λ h. cond (free h && p h) (prepend h (go h)) None) n ≡ None
      → ((r : ℕ → Bool) × ShortOn N fits k free r) ⊎ ((r : ℕ → Bool) × Tight (λ h. p h && ltb h n) r)
  none_below p go rec zero e = inr (λ x. false, omega (arith, count_nobody N, count_le (λ h. free h && (usable fits (λ x. false) k h || (p h && ltb h 0))) (λ x. false) N nobody))
    where
      nobody : (h : ℕ) → h < N → (free h && (usable fits (λ x. false) k h || (p h && ltb h 0))) ≡ true → false ≡ true
      nobody h l e =
          let q = and_parts (free h) (usable fits (λ x. false) k h || (p h && ltb h 0)) e in
          elim (or_cases (usable fits (λ x. false) k h) (p h && ltb h 0) q.1) [
            | inl a ↦ (any_out (λ x. false && fits x h) k a).2
            | inr a ↦ absurd (omega (arith, ltb-true h 0 (and_parts (p h) (ltb h 0) a).1))
          ]
  none_below p go rec (suc n) e =
      let q = none_or (first_some (λ h. cond (free h && p h) (prepend h (go h)) None) n) (cond (free n && p n) (prepend n (go n)) None) e in
      elim (none_below p go rec n q.0) [
        | inl r ↦ inl r
        | inr r ↦ elim (cases_Bool (free n && p n)) [
          | inl c ↦ let s = rec n (none_prepend n (go n) (sym (cond-true (free n && p n) (prepend n (go n)) None c) ∙ q.1)) in
              join p n r.0 s.0 r.1 s.1
          | inr c ↦ inr (
            r.0,
            omega (
              arith,
              count_le (λ h. free h && (usable fits r.0 k h || (p h && ltb h (suc n)))) (λ h. free h && (usable fits r.0 k h || (p h && ltb h n))) N
                  (λ h l. same (free h) (usable fits r.0 k h) (p h) (ltb h (suc n)) (ltb h n) (miss c h)),
              r.1,
            ),
          )
        ]
      ]
    where
      miss : (free n && p n) ≡ false → (h : ℕ) → free h ≡ true → p h ≡ true → ltb h (suc n) ≡ true → ltb h n ≡ true
      miss c h a b l =
          elim (cases_lt h n) [
            | inl m ↦ lt-ltb h n m
            | inr m ↦ let z : h ≡ n = omega (arith, ltb-true h (suc n) l) in
                absurd (true≢false (sym (and_from (free n) (p n) (rw z at a) (rw z at b)) ∙ c))
          ]

      same : (f w a b c : Bool) → (f ≡ true → a ≡ true → b ≡ true → c ≡ true) → (f && (w || (a && b))) ≡ true → (f && (w || (a && c))) ≡ true
      same f w a b c h e = grind arith

-- The tracks of s, each one later, and track 0 if b.
abbrev pub with_first : Bool → (ℕ → Bool) → ℕ → Bool
with_first b s zero = b
with_first b s (suc t) = s t

-- Where the search finds no placing, the short sets of its failures join to one.
pub short_of_none : (N : ℕ) (fits : Fitting) (k : ℕ) (free : ℕ → Bool) → first_on N fits k free ≡ None → (s : ℕ → Bool) × ShortOn N fits k free s
short_of_none N fits zero free e = absurd (some_none [] e)
short_of_none N fits (suc k) free e =
    elim (none_below N (later fits) k free (fits 0) (λ h. first_on N (later fits) k (without free h)) (λ h. short_of_none N (later fits) k (without free h)) N e) [
      | inl r ↦ (with_first false r.0, omega (arith, r.1))
      | inr r ↦ (
        with_first true r.0,
        omega (
          arith,
          r.1,
          count_le (λ h. free h && (fits 0 h || usable (later fits) r.0 k h)) (λ h. free h && (usable (later fits) r.0 k h || (fits 0 h && ltb h N))) N
              (λ h l. swap (free h) (fits 0 h) (usable (later fits) r.0 k h) (ltb h N) (lt-ltb h N l)),
        ),
      )
    ]
  where
    swap : (f a w l : Bool) → l ≡ true → (f && (a || w)) ≡ true → (f && (w || (a && l))) ≡ true
    swap f a w l h e = grind arith
