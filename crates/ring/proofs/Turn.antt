-- What a ring holds after a write at its next place.
use Rattle.std.proofs.Common.{◌≡◌, ℕ, suc, ◌+◌, ◌-◌, ◌<◌, ◌≤◌, min, ◌≢◌, List, [], ◌∷◌, ◌++◌, reverse, length, get_or, take, drop, set, sym, refl, ap, ◌∙◌, inl, inr, arith}
use Rattle.std.proofs.lemmas.List.{append_assoc, append-nil, reverse-append, length-take-le, length-reverse, length-drop, length-append, length-take, length-set, take_more_set, take-append-le, take_all, drop_more, same_lists, get_or-set_other, get_or-take, get_or-drop, drop_all}
use Rattle.std.proofs.lemmas.Bool.{cases_lt}
use Rattle.ring.specs.Latest.{latest, Sound}

-- A list z that is one short of full, with x before it or y after it: what a ring that holds `count` keeps of the two.
cut : {X : Type 0} (z : List X) (x y : X) (capacity count : ℕ) → length z + 1 ≡ capacity → count ≤ capacity
    → take (min (count + 1) capacity) (x ∷ z) ≡ take capacity (x ∷ take count (z ++ y ∷ []))
cut {X} z x y capacity count full le =
    let n = length z in
    let m : min (count + 1) capacity ≡ suc (min count n) = omega arith in
    let e : capacity ≡ suc n = omega arith in
    let inner : take (min count n) z ≡ take n (take count (z ++ y ∷ [])) =
    elim (cases_lt n count) [
      | inl more ↦
          let a : take count (z ++ y ∷ []) ≡ z ++ y ∷ [] = take_all count (z ++ y ∷ []) (simp length-append (omega arith)) in
          let b : take n (z ++ y ∷ []) ≡ take n z = take-append-le n z (y ∷ []) (omega arith) in
          let j : min count n ≡ n = omega arith in
          cc
      | inr less ↦
          let a : take count (z ++ y ∷ []) ≡ take count z = take-append-le count z (y ∷ []) less in
          let b : take n (take count z) ≡ take count z = take_all n (take count z) (simp length-take (omega arith)) in
          let j : min count n ≡ count = omega arith in
          cc
    ] in
    ap (λ i. take i (x ∷ z)) m ∙ ap (λ l. x ∷ l) inner ∙ ap (λ i. take i (x ∷ take count (z ++ y ∷ []))) (sym e)

-- the slots before a place, after a write there
front : {X : Type 0} (s : List X) (at : ℕ) (x : X) → at < length s → reverse (take (at + 1) (set s at x)) ≡ x ∷ reverse (take at s)
front s at x h = ap reverse (take_more_set s at x h) ∙ reverse-append (take at s) (x ∷ [])

-- the slots from a place on, backwards
back : {X : Type 0} (s : List X) (at capacity : ℕ) (d : X) → at < capacity → capacity ≤ length s
    → reverse (drop at (take capacity s)) ≡ reverse (drop (at + 1) (take capacity s)) ++ get_or (take capacity s) at d ∷ []
back s at capacity d h in' =
    let l : at < length (take capacity s) = simp length-take (omega arith) in
    ap reverse (drop_more (take capacity s) at d l) ∙ reverse-append (get_or (take capacity s) at d ∷ []) (drop (at + 1) (take capacity s))

-- the slots past a write, up to the capacity
beyond : {X : Type 0} (s : List X) (at capacity : ℕ) (x : X) → at < capacity → capacity ≤ length s
    → drop (at + 1) (take capacity (set s at x)) ≡ drop (at + 1) (take capacity s)
beyond s at capacity x h in' =
    same_lists _ _ (simp (length-drop, length-take, length-set) refl)
    (λ k d lt.
    let lt' : k < min capacity (length s) - (at + 1) = simp (length-drop, length-take, length-set) at lt in
    let here : at + 1 + k < capacity = omega arith in
    let ne : at + 1 + k ≢ at = omega arith in
    get_or-drop (at + 1) (take capacity (set s at x)) k d
    ∙ get_or-take capacity (set s at x) (at + 1 + k) d here
    ∙ get_or-set_other s at (at + 1 + k) x d ne
    ∙ sym (get_or-take capacity s (at + 1 + k) d here)
    ∙ sym (get_or-drop (at + 1) (take capacity s) k d))

-- A write at the next place puts the item before the latest ones, of which `capacity` are kept.
pub turn : {X : Type 0} (s : List X) (capacity at count at' count' : ℕ) (x : X) → Sound s capacity at count → at < capacity
    → (at + 1 < capacity → at' ≡ at + 1) → (at + 1 ≡ capacity → at' ≡ 0) → count' ≡ min (count + 1) capacity
    → latest (set s at x) capacity at' count' ≡ take capacity (x ∷ latest s capacity at count)
turn {X} s capacity at count at' count' x ok here on round more =
    let A = reverse (take at s) in
    let B = reverse (drop (at + 1) (take capacity s)) in
    let y = get_or (take capacity s) at x in
    let in' : at < length s = omega arith in
    let l_a : length A ≡ at = simp length-reverse (length-take-le at s (omega arith)) in
    let l_b : length B ≡ capacity - (at + 1) = simp (length-reverse, length-drop, length-take) (omega arith) in
    let lz : length (A ++ B) + 1 ≡ capacity = simp length-append (omega arith) in
    let old : A ++ reverse (drop at (take capacity s)) ≡ (A ++ B) ++ y ∷ [] =
    ap (λ l. A ++ l) (back s at capacity x here ok.room) ∙ sym (append_assoc A B (y ∷ [])) in
    let new : reverse (take at' (set s at x)) ++ reverse (drop at' (take capacity (set s at x))) ≡ x ∷ (A ++ B) =
    elim (cases_lt (at + 1) capacity) [
      | inl l ↦
          ap (λ i. reverse (take i (set s at x)) ++ reverse (drop i (take capacity (set s at x)))) (on l)
          ∙ ap (λ f. f ++ reverse (drop (at + 1) (take capacity (set s at x)))) (front s at x in')
          ∙ ap (λ f. x ∷ (A ++ reverse f)) (beyond s at capacity x here ok.room)
      | inr l ↦
          let e : at + 1 ≡ capacity = omega arith in
          let none : B ≡ [] = ap reverse (drop_all (at + 1) (take capacity s) (simp length-take (omega arith))) in
          ap (λ i. reverse (take i (set s at x)) ++ reverse (drop i (take capacity (set s at x)))) (round e)
          ∙ ap (λ i. reverse (take i (set s at x))) (sym e)
          ∙ front s at x in'
          ∙ ap (λ f. x ∷ f) (sym (append-nil A))
          ∙ ap (λ f. x ∷ (A ++ f)) (sym none)
    ] in
    ap (λ i. take i (reverse (take at' (set s at x)) ++ reverse (drop at' (take capacity (set s at x))))) more
    ∙ ap (λ l. take (min (count + 1) capacity) l) new
    ∙ cut (A ++ B) x y capacity count lz ok.held
    ∙ ap (λ l. take capacity (x ∷ take count l)) (sym old)
