-- The latest n of a history, newest first, as items come to it.
use Rattle.std.proofs.Common.{◌≡◌, ℕ, zero, suc, ◌+◌, ◌<◌, ◌≤◌, List, [], ◌∷◌, ◌++◌, reverse, length, get_or, take, sym, refl, ap, ◌∙◌, arith}
use Rattle.std.proofs.lemmas.List.{reverse-append, take_more, take-take}

tail_cut : {X : Type 0} (m n : ℕ) (items history : List X) → m ≤ n → take m (items ++ take n history) ≡ take m (items ++ history)
tail_cut m n [] history h = take-take m n history h
tail_cut zero n (x ∷ items) history h = refl
tail_cut (suc m) n (x ∷ items) history h = ap (λ l. x ∷ l) (tail_cut m n items history (omega arith))

-- Items that come to the latest n give the latest n of the items and the whole history.
pub tail_more : {X : Type 0} (n : ℕ) (items history : List X) → take n (items ++ take n history) ≡ take n (items ++ history)
tail_more n items history = tail_cut n n items history (omega arith)

-- A loop that pushes items: one more of them,
pub pushed_more : {X : Type 0} (items held was is : List X) (n n' i : ℕ) (x : X) → i < length items → x ≡ get_or items i x → n' ≡ n
    → was ≡ take n (reverse (take i items) ++ held) → is ≡ take n' (x ∷ was)
    → is ≡ take n (reverse (take (i + 1) items) ++ held)
pushed_more items held was is n n' i x l at same before after =
    let more : reverse (take (i + 1) items) ≡ x ∷ reverse (take i items) =
    ap reverse (take_more items i x l) ∙ reverse-append (take i items) (get_or items i x ∷ []) ∙ ap (λ y. y ∷ reverse (take i items)) (sym at) in
    after ∙ ap (λ k. take k (x ∷ was)) same ∙ ap (λ t. take n (x ∷ t)) before ∙ tail_more n (x ∷ []) (reverse (take i items) ++ held)
    ∙ ap (λ t. take n (t ++ held)) (sym more)
