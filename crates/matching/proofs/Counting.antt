-- Laws of counting. Sums of counts go by `count-sum`, and maps between what is counted by `count-into`.
use Rattle.std.proofs.Common.{◌≡◌, ℕ, zero, suc, ◌+◌, ◌<◌, ◌≤◌, Bool, true, false, cond, not, ◌&&◌, ◌||◌, eqb, sym, refl, ap, ◌∙◌, inl, inr, arith}
use mathlib.Core.Bool.{or-false}
use Rattle.std.proofs.lemmas.Bool.Decides.{nat_tests}
use Rattle.std.proofs.lemmas.Bool.{cases_lt, eqb-true, eq-eqb, ne_eqb, cases_Bool, true≢false, and_from, or_cases, or_left, or_right}
use Rattle.matching.specs.Count.{count, any}
use Rattle.matching.specs.Search.{without}

abbrev pub one : Bool → ℕ
one b = cond b 1 0

-- Where the sums compare at each number, the counts do.
pub count_sum : (c d a b e : ℕ → Bool) (n : ℕ)
    → ((x : ℕ) → x < n → one (c x) + one (d x) ≤ one (a x) + one (b x) + one (e x))
    → count c n + count d n ≤ count a n + count b n + count e n
count_sum c d a b e zero h = omega arith
count_sum c d a b e (suc n) h =
    omega (
      arith,
      h 0 (omega arith),
      count_sum (λ x. c (suc x)) (λ x. d (suc x)) (λ x. a (suc x)) (λ x. b (suc x)) (λ x. e (suc x)) n (λ x l. h (suc x) (omega arith)),
    )

pub count_nobody : (n : ℕ) → count (λ x. false) n ≡ 0
count_nobody zero = refl
count_nobody (suc n) = omega (arith, count_nobody n)

pub count_le : (p q : ℕ → Bool) (n : ℕ) → ((x : ℕ) → x < n → p x ≡ true → q x ≡ true) → count p n ≤ count q n
count_le p q n h =
    omega (arith, count_nobody n, count_sum p (λ _. false) q (λ _. false) (λ _. false) n pt)
  where
    pt : (x : ℕ) → x < n → one (p x) + 0 ≤ one (q x) + 0 + 0
    pt x l = go (p x) (q x) (h x l)
      where
        go : (a b : Bool) → (a ≡ true → b ≡ true) → one a + 0 ≤ one b + 0 + 0
        go false b f = omega arith
        go true b f = rw (f refl) (omega arith)

pub any_in : (p : ℕ → Bool) (n t : ℕ) → t < n → p t ≡ true → any p n ≡ true
any_in p zero t l e = absurd (omega arith)
any_in p (suc n) zero l e = or_left (p 0) (any (λ x. p (suc x)) n) e
any_in p (suc n) (suc t) l e = or_right (p 0) (any (λ x. p (suc x)) n) (any_in (λ x. p (suc x)) n t (omega arith) e)

pub any_out : (p : ℕ → Bool) (n : ℕ) → any p n ≡ true → (t : ℕ) × (t < n) × (p t ≡ true)
any_out p zero e = absurd (true≢false (sym e))
any_out p (suc n) e =
    elim (or_cases (p 0) (any (λ x. p (suc x)) n) e) [
      | inl h ↦ (0, omega arith, h)
      | inr h ↦ let r = any_out (λ x. p (suc x)) n h in (suc r.0, omega arith, r.2)
    ]

pub count_one : (h n : ℕ) → count (λ x. eqb x h) n ≤ 1
count_one h zero = omega arith
count_one zero (suc n) = omega (arith, count_nobody n, count_le (λ x. eqb (suc x) 0) (λ _. false) n (λ x l e. absurd (omega (arith, eqb-true (suc x) 0 e))))
count_one (suc h) (suc n) =
    omega (arith, count_one h n, count_le (λ x. eqb (suc x) (suc h)) (λ x. eqb x h) n (λ x l e. eq-eqb x h (omega (arith, eqb-true (suc x) (suc h) e))), pt)
  where
    pt : one (eqb 0 (suc h)) ≡ 0
    pt = grind (arith, nat_tests)

pub count_one_in : (h n : ℕ) → h < n → 1 ≤ count (λ x. eqb x h) n
count_one_in h zero l = absurd (omega arith)
count_one_in zero (suc n) l = omega arith
count_one_in (suc h) (suc n) l =
    omega (arith, count_one_in h n (omega arith), count_le (λ x. eqb x h) (λ x. eqb (suc x) (suc h)) n (λ x l e. eq-eqb (suc x) (suc h) (ap suc (eqb-true x h e))))

pub count_without : (q : ℕ → Bool) (h n : ℕ) → h < n → q h ≡ true → count (without q h) n + 1 ≡ count q n
count_without q h n l e =
    omega (
      arith,
      count_one h n,
      count_one_in h n l,
      count_nobody n,
      count_sum (without q h) (λ x. eqb x h) q (λ x. false) (λ x. false) n (λ x m. each (q x) (eqb x h) (λ k. rw (← eqb-true x h k) at e)),
      count_sum q (λ x. false) (without q h) (λ x. eqb x h) (λ x. false) n (λ x m. back (q x) (eqb x h)),
    )
  where
    each : (a b : Bool) → (b ≡ true → a ≡ true) → one (a && not b) + one b ≤ one a + 0 + 0
    each a b f = grind arith

    back : (a b : Bool) → one a + 0 ≤ one (a && not b) + one b + 0
    back a b = grind arith

-- f takes what passes p below n, apart, into what passes q below m.
pub count_into : (n m : ℕ) (p q : ℕ → Bool) (f : ℕ → ℕ)
    → ((x : ℕ) → x < n → p x ≡ true → f x < m)
    → ((x : ℕ) → x < n → p x ≡ true → q (f x) ≡ true)
    → ((x y : ℕ) → x < y → y < n → p x ≡ true → p y ≡ true → f x ≡ f y → ⊥)
    → count p n ≤ count q m
count_into zero m p q f b i a = omega arith
count_into (suc n) m p q f b i a =
    let rec : (r : ℕ → Bool) → ((x : ℕ) → x < n → p (suc x) ≡ true → r (f (suc x)) ≡ true) → count (λ x. p (suc x)) n ≤ count r m =
    λ r j. count_into n m (λ x. p (suc x)) r (λ x. f (suc x)) (λ x l. b (suc x) (omega arith)) j (λ x y l k. a (suc x) (suc y) (omega arith) (omega arith)) in
    elim (cases_Bool (p 0)) [
      | inl e ↦ omega (
        arith,
        ap one e,
        count_without q (f 0) m (b 0 (omega arith) e) (i 0 (omega arith) e),
        rec (without q (f 0)) (λ x l k.
            and_from (q (f (suc x))) (not (eqb (f (suc x)) (f 0))) (i (suc x) (omega arith) k)
            (ap not (ne_eqb (f (suc x)) (f 0) (λ z. a 0 (suc x) (omega arith) (omega arith) e k (sym z))))),
      )
      | inr e ↦ omega (arith, ap one e, rec q (λ x l. i (suc x) (omega arith)))
    ]

-- One more at the end, as a loop counts.
pub count_suc : (p : ℕ → Bool) (n : ℕ) → count p (suc n) ≡ count p n + cond (p n) 1 0
count_suc p zero = omega arith
count_suc p (suc n) = omega (arith, count_suc (λ x. p (suc x)) n)

pub any_suc : (p : ℕ → Bool) (n : ℕ) → any p (suc n) ≡ (any p n || p n)
any_suc p zero = each (p 0)
  where
    each : (a : Bool) → (a || false) ≡ (false || a)
    each a = grind arith
any_suc p (suc n) = ap (λ b. p 0 || b) (any_suc (λ x. p (suc x)) n) ∙ each (p 0) (any (λ x. p (suc x)) n) (p (suc n))
  where
    each : (a b c : Bool) → (a || (b || c)) ≡ ((a || b) || c)
    each a b c = grind arith

pub count_le_all : (p : ℕ → Bool) (n : ℕ) → count p n ≤ n
count_le_all p zero = omega arith
count_le_all p (suc n) = omega (arith, count_le_all (λ x. p (suc x)) n, each (p 0))
  where
    each : (b : Bool) → one b ≤ 1
    each b = grind arith

-- All numbers pass.
pub count_all : (n : ℕ) → count (λ x. true) n ≡ n
count_all zero = refl
count_all (suc n) = omega (arith, count_all n)

-- What has a count has a number that passes.
pub count_from : (p : ℕ → Bool) (n : ℕ) → 0 < count p n → any p n ≡ true
count_from p n l = go (any p n) refl
  where
    go : (b : Bool) → any p n ≡ b → any p n ≡ true
    go true e = e
    go false e = absurd (omega (arith, l, count_nobody n, count_le p (λ x. false) n (λ x m k. sym e ∙ any_in p n x m k)))

-- Numbers that do not pass may be left out at the end.
pub count_cut : (p : ℕ → Bool) (N L : ℕ) → N ≤ L → ((h : ℕ) → N ≤ h → p h ≡ false) → count p L ≡ count p N
count_cut p N zero l e = let z : N ≡ 0 = omega arith in ap (count p) (sym z)
count_cut p N (suc L) l e =
    elim (cases_lt L N) [
      | inl m ↦ let z : suc L ≡ N = omega arith in ap (count p) z
      | inr m ↦ let b : one (p L) ≡ 0 = ap one (e L m) in omega (arith, count_suc p L, count_cut p N L m e, b)
    ]

pub any_cut : (p : ℕ → Bool) (N L : ℕ) → N ≤ L → ((h : ℕ) → N ≤ h → p h ≡ false) → any p L ≡ any p N
any_cut p N zero l e = let z : N ≡ 0 = omega arith in ap (any p) (sym z)
any_cut p N (suc L) l e =
    elim (cases_lt L N) [
      | inl m ↦ let z : suc L ≡ N = omega arith in ap (any p) z
      | inr m ↦ any_suc p L ∙ ap (λ b. any p L || b) (e L m) ∙ or-false (any p L) ∙ any_cut p N L m e
    ]
