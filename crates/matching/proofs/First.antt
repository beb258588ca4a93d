-- The search finds a placing, the first one, wherever there is one.
use Rattle.std.proofs.Common.{◌≡◌, ℕ, zero, suc, ◌<◌, ◌≤◌, Bool, true, false, cond, not, ◌&&◌, eqb, ◌⊎◌, List, [], ◌∷◌, length, Some, None, Option, sym, refl, ap, ◌∙◌, subst, ap₂, inl, inr, arith}
use Rattle.std.proofs.lemmas.Bool.{cases_lt, cases_order, cond-true, and_parts, and_from}
use Rattle.matching.specs.Fitting.{Fitting, later}
use Rattle.matching.specs.Search.{without, or_else, prepend, first_some, first_on}
use Rattle.matching.specs.Placings.{NoLater}
use Rattle.matching.proofs.Seats.{Seats}

-- The first list below n is the one at some number, with none before it.
pub record At (f : ℕ → Option (List ℕ)) (n : ℕ) (q : List ℕ) : Type 0 where
  pub at : ℕ
  pub inside : at < n
  pub is : f at ≡ Some q
  pub before : (g : ℕ) → g < at → f g ≡ None

pub some_none : (a : List ℕ) → Some a ≡ None → ⊥
some_none a e = let z : ◌≡◌ {A = ℕ} 0 1 = cc in omega arith

abbrev Cases : (ℕ → Option (List ℕ)) → ℕ → Type 0
Cases f n = ((first_some f n ≡ None) × ((g : ℕ) → g < n → f g ≡ None)) ⊎ ((q : List ℕ) × (first_some f n ≡ Some q) × At f n q)

first_some_cases : (f : ℕ → Option (List ℕ)) (n : ℕ) → Cases f n
first_some_cases f zero = inl (refl, λ g l. absurd (omega arith))
first_some_cases f (suc n) =
    elim (first_some_cases f n) [
      | inr r ↦ inr (r.0, ap (λ o. or_else o (f n)) r.1, record { at = r.2.at; inside = omega arith; is = r.2.is; before = r.2.before })
      | inl r ↦ here (f n) refl r.0 r.1
    ]
  where
    here : (o : Option (List ℕ)) → f n ≡ o → first_some f n ≡ None → ((g : ℕ) → g < n → f g ≡ None) → Cases f (suc n)
    here None e z b = inl (ap₂ or_else z e, λ g l. elim (cases_lt g n) [ inl m ↦ b g m | inr m ↦ let w : g ≡ n = omega arith in rw w e ])
    here (Some q) e z b = inr (q, ap₂ or_else z e, record { at = n; inside = omega arith; is = e; before = b })

taken : (b : Bool) (h : ℕ) (o : Option (List ℕ)) (q : List ℕ) → cond b (prepend h o) None ≡ Some q
    → (b ≡ true) × ((q' : List ℕ) × (o ≡ Some q') × (q ≡ h ∷ q'))
taken false h o q e = absurd (some_none q (sym e))
taken true h None q e = absurd (some_none q (sym e))
taken true h (Some q') q e = (refl, (q', refl, cc))

module _ (N : ℕ) where
  abbrev choice : Fitting → ℕ → (ℕ → Bool) → ℕ → Option (List ℕ)
  choice fits k free h = cond (free h && fits 0 h) (prepend h (first_on N (later fits) k (without free h))) None

  pub sound : (k : ℕ) (fits : Fitting) (free : ℕ → Bool) (hs : List ℕ) → first_on N fits k free ≡ Some hs → (length hs ≡ k) × Seats N fits free hs
  sound zero fits free hs e = let z : [] ≡ hs = cc in (sym (ap length z), subst (λ v. Seats N fits free v) z tt)
  sound (suc k) fits free hs e =
      elim (first_some_cases (choice fits k free) N) [
        | inl r ↦ absurd (some_none hs (sym e ∙ r.0))
        | inr r ↦
            let a = r.2 in
            let q = taken (free a.at && fits 0 a.at) a.at (first_on N (later fits) k (without free a.at)) r.0 a.is in
            let i = and_parts (free a.at) (fits 0 a.at) q.0 in
            let s = sound k (later fits) (without free a.at) q.1.0 q.1.1 in
            let z : (a.at ∷ q.1.0) ≡ hs = cc (r.1, e, q.1.2) in
            (sym (ap length z) ∙ ap suc s.0, subst (λ v. Seats N fits free v) z (a.inside, i.0, i.1, s.1))
      ]

  pub earliest : (k : ℕ) (fits : Fitting) (free : ℕ → Bool) (gs : List ℕ) → length gs ≡ k → Seats N fits free gs
      → (hs : List ℕ) × (first_on N fits k free ≡ Some hs) × NoLater hs gs
  earliest zero fits free gs l p = ([], refl, tt)
  earliest (suc k) fits free [] l p = absurd (omega arith)
  earliest (suc k) fits free (g ∷ gs) l p =
      let r = earliest k (later fits) (without free g) gs (omega arith) p.3 in
      let e : choice fits k free g ≡ Some (g ∷ r.0) = cond-true (free g && fits 0 g) (prepend g (first_on N (later fits) k (without free g))) None (and_from (free g) (fits 0 g) p.1 p.2) ∙ ap (prepend g) r.1 in
      elim (first_some_cases (choice fits k free) N) [
        | inl c ↦ absurd (some_none (g ∷ r.0) (sym e ∙ c.1 g p.0))
        | inr c ↦
            let a = c.2 in
            let q = taken (free a.at && fits 0 a.at) a.at (first_on N (later fits) k (without free a.at)) c.0 a.is in (
              a.at ∷ q.1.0,
              c.1 ∙ ap Some q.1.2,
              elim (cases_order a.at g) [
                | inl z ↦ inr (z, subst (λ v. NoLater v gs) (tails r.0 q.1.0 a.at g c.0 (sym e ∙ ap (choice fits k free) (sym z) ∙ a.is) q.1.2) r.2)
                | inr d ↦ elim d [ inl m ↦ inl m | inr m ↦ absurd (some_none (g ∷ r.0) (sym e ∙ a.before g m)) ]
              ],
            )
      ]
    where
      tails : (x y : List ℕ) (a g : ℕ) (c : List ℕ) → Some (g ∷ x) ≡ Some c → c ≡ a ∷ y → x ≡ y
      tails x y a g c e f = cc

-- Nothing is found where no number has a list, and the list at h where no number before has one.
pub first_some_none : (f : ℕ → Option (List ℕ)) (n : ℕ) → ((h : ℕ) → h < n → f h ≡ None) → first_some f n ≡ None
first_some_none f zero e = refl
first_some_none f (suc n) e = ap₂ or_else (first_some_none f n (λ h l. e h (omega arith))) (e n (omega arith))

pub first_some_at : (f : ℕ → Option (List ℕ)) (n h : ℕ) (q : List ℕ) → h < n → ((g : ℕ) → g < h → f g ≡ None) → f h ≡ Some q → first_some f n ≡ Some q
first_some_at f zero h q l e k = absurd (omega arith)
first_some_at f (suc n) h q l e k =
    elim (cases_lt h n) [
      | inl m ↦ ap (λ o. or_else o (f n)) (first_some_at f n h q m e k)
      | inr m ↦ let z : h ≡ n = omega arith in ap₂ or_else (first_some_none f n (λ g l. e g (omega arith))) (ap f (sym z) ∙ k)
    ]

-- Numbers without a list may be left out at the end.
pub first_some_cut : (f : ℕ → Option (List ℕ)) (N L : ℕ) → N ≤ L → ((h : ℕ) → N ≤ h → f h ≡ None) → first_some f L ≡ first_some f N
first_some_cut f N zero l e = let z : N ≡ 0 = omega arith in ap (first_some f) (sym z)
first_some_cut f N (suc L) l e =
    elim (cases_lt L N) [
      | inl m ↦ let z : suc L ≡ N = omega arith in ap (first_some f) z
      | inr m ↦ ap₂ or_else (first_some_cut f N L m e) (e L m) ∙ or_none (first_some f N)
    ]
  where
    or_none : (o : Option (List ℕ)) → or_else o None ≡ o
    or_none (Some q) = refl
    or_none None = refl

-- The search depends on which heads below N are free, and on no more.
pub first_some_same : (f g : ℕ → Option (List ℕ)) (n : ℕ) → ((h : ℕ) → h < n → f h ≡ g h) → first_some f n ≡ first_some g n
first_some_same f g zero e = refl
first_some_same f g (suc n) e = ap₂ or_else (first_some_same f g n (λ h l. e h (omega arith))) (e n (omega arith))

pub first_on_same : (N : ℕ) (fits : Fitting) (k : ℕ) (p q : ℕ → Bool) → ((h : ℕ) → h < N → p h ≡ q h) → first_on N fits k p ≡ first_on N fits k q
first_on_same N fits zero p q e = refl
first_on_same N fits (suc k) p q e =
    first_some_same (λ h. cond (p h && fits 0 h) (prepend h (first_on N (later fits) k (without p h))) None)
    (λ h. cond (q h && fits 0 h) (prepend h (first_on N (later fits) k (without q h))) None) N
    (λ h l. ap₂ (λ b o. cond (b && fits 0 h) (prepend h o) None) (e h l)
    (first_on_same N (later fits) k (without p h) (without q h) (λ x m. ap (λ b. b && not (eqb x h)) (e x m))))
