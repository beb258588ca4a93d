-- The short set of least number, as the first of all sets that is short.
use Rattle.std.proofs.Common.{◌≡◌, ℕ, ◌^◌, ◌<◌, ◌≤◌, Bool, true, false, ◌&&◌, ltb, List, length, get_or, map, Some, None, Option, sym, refl, ap, ◌∙◌, subst, ap₂, inl, inr, arith}
use mathlib.Core.Path.{fun_ext}
use Rattle.std.specs.List.{range_with_len, HoldsAt, AllWithin}
use Rattle.std.specs.Option.{MatchOption, IsSome}
use Rattle.std.proofs.lemmas.Bool.{true≢false, cases_lt, lt-ltb}
use Rattle.std.proofs.lemmas.List.FromFn.{get_or-map-range_with_len, length-map-range_with_len}
use Rattle.matching.specs.declared.set.SmallSet.{SmallSet}
use Rattle.matching.specs.Count.{count, least}
use Rattle.matching.specs.Sets.{has}
use Rattle.matching.specs.Fitting.{Fitting}
use Rattle.matching.specs.Short.{usable, is_short_set}
use Rattle.matching.specs.Search.{first_placing_of}
use Rattle.matching.proofs.Counting.{count_cut, any_cut}
use Rattle.matching.proofs.Words.{has_past}
use Rattle.matching.proofs.Least.{least_at}
use Rattle.matching.proofs.Rightness.{none_short}

-- A set of tracks below M is short among K tracks as it is among M.
is_short_among : (fits : Fitting) (M K N s : ℕ) → M ≤ K → s < 2 ^ M → is_short_set fits K N (has s) ≡ is_short_set fits M N (has s)
is_short_among fits M K N s l w =
    ap₂ ltb
    (ap (λ p. count p N) (fun_ext (λ h. any_cut (λ t. has s t && fits t h) M K l (λ t m. ap (λ b. b && fits t h) (has_past M s t w m)))))
    (count_cut (has s) M K l (λ t m. has_past M s t w m))

-- The sets below n, in the order of their numbers.
abbrev pub of_number : ℕ → SmallSet
of_number k = record { number = k }

-- The first of the sets that passes, or that none does.
abbrev pub FirstOf : (ℕ → Bool) → ℕ → Option SmallSet → Type 0
FirstOf p n r =
    MatchOption r (AllWithin (λ s. p s.number ≡ false) (map of_number (range_with_len 0 n)) 0 (length (map of_number (range_with_len 0 n))))
    (λ x. (p x.number ≡ true)
    × (i : ℕ)
    × (i < length (map of_number (range_with_len 0 n)))
    × HoldsAt (λ y. y ≡ x) (map of_number (range_with_len 0 n)) i
    × AllWithin (λ s. p s.number ≡ false) (map of_number (range_with_len 0 n)) 0 i)

-- Where there is no placing, the first set that is short is the least of the sets of tracks below M.
pub least_found : (fits : Fitting) (M K N n : ℕ) → M ≤ K → 2 ^ M ≤ n → first_placing_of fits M N ≡ None → (r : Option SmallSet)
    → FirstOf (λ s. is_short_set fits K N (has s)) n r → IsSome r × ((x : SmallSet) → r ≡ Some x → x.number ≡ least (λ s. is_short_set fits M N (has s)) (2 ^ M))
least_found fits M K N n l b e r f = go r f
  where
    p : ℕ → Bool
    p s = is_short_set fits K N (has s)

    w : (s : ℕ) × (s < 2 ^ M) × (p s ≡ true)
    w = let v = none_short fits M N e in (v.0, v.1, is_short_among fits M K N v.0 l v.1 ∙ lt-ltb (count (usable fits (has v.0) M) N) (count (has v.0) M) v.2)

    all : List SmallSet
    all = map of_number (range_with_len 0 n)

    here : (k : ℕ) (d : SmallSet) → k < n → get_or all k d ≡ of_number k
    here k d m = get_or-map-range_with_len of_number 0 n k k d m (omega arith)

    missed : (k j : ℕ) (d : SmallSet) → k < n → k < j → AllWithin (λ s. p s.number ≡ false) all 0 j → p k ≡ false
    missed k j d m h a = subst (λ (s : SmallSet). p s.number ≡ false) (here k d m) (a k d (omega arith) h)

    go : (r : Option SmallSet) → FirstOf p n r → IsSome r × ((x : SmallSet) → r ≡ Some x → x.number ≡ least (λ s. is_short_set fits M N (has s)) (2 ^ M))
    go None f =
        absurd (true≢false (sym w.2 ∙ missed w.0 (length all) (of_number 0) (omega (arith, w.1)) (omega (arith, w.1, length-map-range_with_len of_number 0 n)) f))
    go (Some x) f =
        let i = f.1 in
        let small : i < n = omega (arith, f.2, length-map-range_with_len of_number 0 n) in
        let is : x.number ≡ i = ap (λ (s : SmallSet). s.number) (sym (f.3 x) ∙ here i x small) in
        let low : i < 2 ^ M = elim (cases_lt w.0 i) [ inl h ↦ absurd (true≢false (sym w.2 ∙ missed w.0 i x (omega arith) h f.4)) | inr h ↦ omega (arith, w.1) ] in
        let found : x.number ≡ least (λ s. is_short_set fits M N (has s)) (2 ^ M) =
        is ∙ sym (least_at (λ s. is_short_set fits M N (has s)) (2 ^ M) i low (sym (is_short_among fits M K N i l low) ∙ ap p (sym is) ∙ f.0)
        (λ k h. sym (is_short_among fits M K N k l (omega arith)) ∙ missed k i x (omega arith) h f.4)) in
        (refl, λ y e. let same : y ≡ x = cc in ap (λ (s : SmallSet). s.number) same ∙ found)
