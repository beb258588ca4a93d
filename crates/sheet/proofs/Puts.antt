-- Tests put into a store, one more, and some after others. Assumes nothing.
use Rattle.std.proofs.Common.{◌≡◌, ℕ, ◌+◌, ◌<◌, ◌≤◌, List, [], ◌∷◌, ◌++◌, length, take, drop, set, Ok, Err, Result, sym, refl, ap, ◌∙◌, zero-add, arith}
use borrow.Rule.Slice.PartMut.{put_mid, same_len_mid}
use Rattle.std.proofs.lemmas.List.{append-nil, append_assoc, length-append, length-drop, length-take-le, take-append-drop, drop-append-le, take_more_set, drop-set-lt, drop-drop, take_at, drop_at}
use Rattle.sheetfile.specs.declared.fault.Fault.{Fault}
use Rattle.sheetfile.specs.Outcomes.{Outcome, stop, on, into, after, chain}
use Rattle.sheetfile.proofs.Outcomes.{told_ok, told_err}
use Rattle.sheet.specs.Stored.{put, Left}

module _ {T : Type 0} where
  pub put_none : (n : ℕ) (s : List T) → put n [] s ≡ s
  put_none n s = ap (λ m. take n s ++ drop m s) (omega arith) ∙ take-append-drop n s

  pub put_more : (n : ℕ) (t : T) (ts : List T) (s : List T) → n < length s → put n (t ∷ ts) s ≡ put (n + 1) ts (set s n t)
  put_more n t ts s h =
      let m = n + 1 + length ts in
      let e1 : take (n + 1) (set s n t) ≡ take n s ++ t ∷ [] = take_more_set s n t h in
      let e2 : drop m (set s n t) ≡ drop m s = drop-set-lt m s n t (omega arith) in
      ap (λ l. take n s ++ (t ∷ ts ++ drop l s)) (omega arith)
      ∙ sym (append_assoc (take n s) (t ∷ []) (ts ++ drop m s))
      ∙ ap (λ xs. xs ++ (ts ++ drop m s)) (sym e1)
      ∙ ap (λ xs. take (n + 1) (set s n t) ++ (ts ++ xs)) (sym e2)

  pub put_put : (n : ℕ) (ts us s : List T) → n + length ts ≤ length s → put n (ts ++ us) s ≡ put (n + length ts) us (put n ts s)
  put_put n ts us s h =
      let m = n + length ts in
      let front = take n s ++ ts in
      let both : put n ts s ≡ front ++ drop m s = sym (append_assoc (take n s) ts (drop m s)) in
      let size : length front ≡ m = length-append (take n s) ts ∙ ap (λ l. l + length ts) (length-take-le n s (omega arith)) in
      let e1 : take m (put n ts s) ≡ front = ap (take m) both ∙ take_at front (drop m s) m size in
      let e2 : drop m (put n ts s) ≡ drop m s = ap (drop m) both ∙ drop_at front (drop m s) m size in
      let far : drop (m + length us) (put n ts s) ≡ drop (m + length us) s = sym (drop-drop (length us) m (put n ts s)) ∙ ap (drop (length us)) e2 ∙ drop-drop (length us) m s in
      let count : n + length (ts ++ us) ≡ m + length us = omega (arith, length-append ts us) in
      ap (λ l. take n s ++ ((ts ++ us) ++ drop l s)) count
      ∙ ap (λ xs. take n s ++ xs) (append_assoc ts us (drop (m + length us) s))
      ∙ sym (append_assoc (take n s) ts (us ++ drop (m + length us) s))
      ∙ ap (λ xs. xs ++ (us ++ drop (m + length us) s)) (sym e1)
      ∙ ap (λ xs. take m (put n ts s) ++ (us ++ xs)) (sym far)

  -- what is left to do comes to the same as the whole
  pub record Same {A : Type 0} (o : Outcome T A) (n : ℕ) (s : List T) (o' : Outcome T A) (n' : ℕ) (s' : List T) : Type 0 where
    pub answer : o'.end ≡ o.end
    pub store_is : put n' o'.tests s' ≡ put n o.tests s

  module _ {A : Type 0} {o : Outcome T A} {n : ℕ} {s : List T} where
    pub same_first : Same o n s o n s
    same_first = record { answer = refl; store_is = refl }

    pub same_at : {o' o'' : Outcome T A} {n' n'' : ℕ} {s' : List T} → o' ≡ o'' → n' ≡ n'' → Same o n s o' n' s' → Same o n s o'' n'' s'
    same_at {o' = o'} {n'' = n''} {s' = s'} p q h = record { answer = ap (λ r. r.end) (sym p) ∙ h.answer; store_is = ap (λ r. put n'' r.tests s') (sym p) ∙ ap (λ l. put l o'.tests s') (sym q) ∙ h.store_is }

    -- where nothing is left to put
    pub same_last : {o' : Outcome T A} {n' : ℕ} {s' : List T} (r : Result A Fault) → Same o n s o' n' s' → o' ≡ record { tests = []; end = r } → Left o n s r s'
    same_last {n' = n'} {s' = s'} r h e =
        record {
          answer = sym (ap (λ q. q.end) e) ∙ h.answer;
          store_is = sym (put_none n' s') ∙ ap (λ q. put n' q.tests s') (sym e) ∙ h.store_is;
        }

    -- one test more
    pub same_test : {o' o'' : Outcome T A} {n' : ℕ} {s' : List T} (t : T) → Same o n s o' n' s' → n' < length s' → o' ≡ record { tests = t ∷ o''.tests; end = o''.end } → Same o n s o'' (n' + 1) (set s' n' t)
    same_test {o'' = o''} {n' = n'} {s' = s'} t h l e =
        record {
          answer = sym (ap (λ q. q.end) e) ∙ h.answer;
          store_is = sym (put_more n' t o''.tests s' l) ∙ ap (λ q. put n' q.tests s') (sym e) ∙ h.store_is;
        }

    -- one part more, of which the tests are put
    pub same_part : {o' o'' : Outcome T A} {n' : ℕ} {s' new : List T} (ts : List T) → Same o n s o' n' s' → n' + length ts ≤ length s' → o' ≡ after ts o'' → new ≡ put n' ts s' → Same o n s o'' (n' + length ts) new
    same_part {o'' = o''} {n' = n'} {s' = s'} ts h l e is =
        record {
          answer = sym (ap (λ q. q.end) e) ∙ h.answer;
          store_is = ap (λ xs. put (n' + length ts) o''.tests xs) is ∙ sym (put_put n' ts o''.tests s' l) ∙ ap (λ q. put n' q.tests s') (sym e) ∙ h.store_is;
        }

-- a part, and what follows it
module _ {T A B X Y : Type 0} {o : Outcome T Y} {n : ℕ} {s : List T} {n' : ℕ} {s' new : List T} (g : B → Y) (h : A → X) (a : Outcome T A) (f : A → Outcome T B) where
  pub same_chain : (x : X) → Same o n s (into g (chain a f)) n' s' → Left (into h a) n' s' (Ok x) new → n' + length a.tests ≤ length s' → (y : A) × (a.end ≡ Ok y) × (h y ≡ x) × Same o n s (into g (f y)) (n' + length a.tests) new
  same_chain x so part fits =
      let p = told_ok h a.end x part.answer in
      let step : into g (chain a f) ≡ after a.tests (into g (f p.0)) = ap (λ r. into g (after a.tests (on r f))) p.1 in
      (p.0, p.1, p.2, same_part a.tests so fits step part.store_is)

  pub left_chain : (e : Fault) → Same o n s (into g (chain a f)) n' s' → Left (into h a) n' s' (Err e) new → Left o n s (Err e) new
  left_chain e so part =
      let p = told_err h a.end e part.answer in
      let step : into g (chain a f) ≡ record { tests = a.tests ++ []; end = Err e } = ap (λ r. into g (after a.tests (on r f))) p in
      record {
        answer = sym (ap (λ q. q.end) step) ∙ so.answer;
        store_is = part.store_is ∙ ap (λ ts. put n' ts s') (sym (append-nil a.tests)) ∙ ap (λ q. put n' q.tests s') (sym step) ∙ so.store_is;
      }

-- tests put into a part of a store, and the whole store then
module _ {T : Type 0} (a n : ℕ) (s new : List T) where
  pub length_mid : a + n ≤ length s → length new ≡ length (take n (drop a s)) → length (put_mid a n s new) ≡ length s
  length_mid fits kept = same_len_mid a n s new kept

  put_in_part : (ts : List T) → a + n ≤ length s → new ≡ put 0 ts (take n (drop a s)) → length new ≡ length (take n (drop a s)) → put_mid a n s new ≡ put a ts s
  put_in_part ts fits is kept =
      let rest = drop a s in
      let part = take n rest in
      let size : length part ≡ n = length-take-le n rest (omega (arith, length-drop a s)) in
      let now : new ≡ ts ++ drop (length ts) part = is ∙ ap (λ l. ts ++ drop l part) (zero-add (length ts)) in
      let few : length ts ≤ length part = omega (arith, ap length now, length-append ts (drop (length ts) part), length-drop (length ts) part) in
      let more : drop (length ts) part ++ drop n rest ≡ drop (length ts) rest = sym (drop-append-le (length ts) part (drop n rest) few) ∙ ap (drop (length ts)) (take-append-drop n rest) in
      ap (λ ys. take a s ++ (ys ++ drop n rest)) now
      ∙ ap (λ ys. take a s ++ ys) (append_assoc ts (drop (length ts) part) (drop n rest) ∙ ap (λ ys. ts ++ ys) (more ∙ drop-drop (length ts) a s))

  pub left_part : {A : Type 0} {o : Outcome T A} {r : Result A Fault} → a + n ≤ length s → length new ≡ length (take n (drop a s)) → Left o 0 (take n (drop a s)) r new → Left o a s r (put_mid a n s new)
  left_part {o = o} fits kept h = record { answer = h.answer; store_is = put_in_part o.tests fits h.store_is kept }

-- the same fault, by another term
pub stopped : {T A : Type 0} {o : Outcome T A} {e : Fault} (d : Fault) → d ≡ e → o ≡ stop e → o ≡ stop d
stopped d is h = h ∙ ap stop (sym is)

-- a refusal leaves the store
pub refused : {T A : Type 0} {o : Outcome T A} {e : Fault} (n : ℕ) (s : List T) → o ≡ stop e → Left o n s (Err e) s
refused n s h = record { answer = sym (ap (λ q. q.end) h); store_is = sym (put_none n s) ∙ ap (λ q. put n q.tests s) (sym h) }

pub left_is : {T A : Type 0} {o o' : Outcome T A} {n : ℕ} {s new : List T} {r : Result A Fault} → o ≡ o' → Left o' n s r new → Left o n s r new
left_is {n = n} {s = s} e h = record { answer = h.answer ∙ ap (λ q. q.end) (sym e); store_is = h.store_is ∙ ap (λ q. put n q.tests s) (sym e) }
