-- What lists of calls leave, on two lines plugged in different orders. Assumes nothing.
use Rattle.std.proofs.Common.{◌≡◌, ℕ, zero, suc, ◌+◌, ◌<◌, ◌≤◌, Bool, true, false, cond, eqb, List, [], ◌∷◌, length, Some, sym, refl, ap, ◌∙◌, subst, ⊎_elim, arith}
use Rattle.std.specs.List.{slice_get}
use Rattle.std.proofs.lemmas.Bool.{eq-eqb, eqb-true, and_from, and_parts, cases_lt}
use Rattle.std.proofs.lemmas.Option.{slice_get_past as nth_past}
use Rattle.matching.specs.Renaming.{Permutes}
use Rattle.runs.specs.Frames.{all_lawful, accepts}
use Rattle.runs.specs.Plugs.{Moved, Paired}
use Rattle.runs.specs.Calls.{Call, feed, gap, look, look_back, recheck, after, ran, accepted, gapped, Reaches, Replugged}
use Rattle.runs.specs.Theorems.{Full, Settled}

-- two tests that hold together are the same
same_test : (a b : Bool) → (a ≡ true → b ≡ true) → (b ≡ true → a ≡ true) → a ≡ b
same_test true b h k = sym (h refl)
same_test false true h k = k refl
same_test false false h k = refl

within : {X : Type 0} (xs : List X) (i : ℕ) (x : X) → slice_get xs i ≡ Some x → i < length xs
within xs i x e =
    ⊎_elim (λ l. l)
    (λ past. let n = nth_past xs i past in let z : ◌≡◌ {A = ℕ} 0 1 = cc in absurd (omega arith))
    (cases_lt i (length xs))

module _ {R : Type 0} (lawful : R → Bool) where
  -- all readings are lawful exactly when the one at each head is
  lawful_at : (f : List R) → all_lawful lawful f ≡ true → (h : ℕ) (x : R) → slice_get f h ≡ Some x → lawful x ≡ true
  lawful_at [] a h x e = let z : ◌≡◌ {A = ℕ} 0 1 = cc in absurd (omega arith)
  lawful_at (y ∷ f) a zero x e =
      let same : y ≡ x = cc in ap lawful (sym same) ∙ (and_parts (lawful y) (all_lawful lawful f) a).0
  lawful_at (y ∷ f) a (suc h) x e = lawful_at f (and_parts (lawful y) (all_lawful lawful f) a).1 h x e

  lawful_all : (f : List R) → ((h : ℕ) (x : R) → slice_get f h ≡ Some x → lawful x ≡ true) → all_lawful lawful f ≡ true
  lawful_all [] each = refl
  lawful_all (y ∷ f) each = and_from _ _ (each 0 y refl) (lawful_all f (λ h x e. each (suc h) x e))

  module _ (N : ℕ) (to from : ℕ → ℕ) (perm : Permutes N to from) where
    moved_lawful : (f g : List R) → Moved N to f g → all_lawful lawful f ≡ true → all_lawful lawful g ≡ true
    moved_lawful f g m a =
        lawful_all g (λ h x e.
        let l : h < N = omega (arith, within g h x e, m.full_there) in
        lawful_at f a (from h) x (sym (m.each (from h) (perm.from_below h l)) ∙ ap (slice_get g) (perm.forth h l) ∙ e))

    lawful_moved : (f g : List R) → Moved N to f g → all_lawful lawful g ≡ true → all_lawful lawful f ≡ true
    lawful_moved f g m a =
        lawful_all f (λ h x e.
        let l : h < N = omega (arith, within f h x e, m.full) in
        lawful_at g a (to h) x (m.each h l ∙ e))

    -- a frame is accepted on both lines or on neither
    pub accepts_same : (f g : List R) → Reaches N to f g → accepts lawful N g ≡ accepts lawful N f
    accepts_same f g r = same_test (accepts lawful N g) (accepts lawful N f) back there_too
      where
        there_too : accepts lawful N f ≡ true → accepts lawful N g ≡ true
        there_too a =
            let p = and_parts (eqb (length f) N) (all_lawful lawful f) a in
            let m = r.full (eqb-true (length f) N p.0) in
            and_from _ _ (eq-eqb (length g) N m.full_there) (moved_lawful f g m p.1)

        full_or : (b : Bool) → eqb (length f) N ≡ b → accepts lawful N g ≡ true → accepts lawful N f ≡ true
        full_or true e a =
            let m = r.full (eqb-true (length f) N e) in
            and_from _ _ e (lawful_moved f g m (and_parts (eqb (length g) N) (all_lawful lawful g) a).1)
        full_or false e a =
            let same = r.other (λ l. let t = eq-eqb (length f) N l in let z : ◌≡◌ {A = ℕ} 0 1 = cc in omega arith) in
            ap (accepts lawful N) (sym same) ∙ a

        back : accepts lawful N g ≡ true → accepts lawful N f ≡ true
        back a = full_or (eqb (length f) N) refl a

    accepted_full : (f : List R) → accepts lawful N f ≡ true → length f ≡ N
    accepted_full f a = eqb-true (length f) N (and_parts (eqb (length f) N) (all_lawful lawful f) a).0

    paired_none : (n : ℕ) → Paired {R = R} N to n [] []
    paired_none zero = tt
    paired_none (suc n) = tt

    paired_less : (n m : ℕ) (run other : List (List R)) → m ≤ n → Paired N to n run other → Paired N to m run other
    paired_less n zero run other l p = tt
    paired_less zero (suc m) run other l p = absurd (omega arith)
    paired_less (suc n) (suc m) [] [] l p = tt
    paired_less (suc n) (suc m) [] (g ∷ other) l p = absurd p
    paired_less (suc n) (suc m) (f ∷ run) [] l p = absurd p
    paired_less (suc n) (suc m) (f ∷ run) (g ∷ other) l p = (p.0, paired_less n m run other (omega arith) p.1)

    -- one fed frame more: accepted on both lines, or on neither
    fed_paired : (n : ℕ) (f g : List R) (run other : List (List R)) → Reaches N to f g → Paired N to n run other
        → Paired N to (n + cond (accepts lawful N f) 1 0) (after lawful N run (feed f)) (after lawful N other (feed g))
    fed_paired n f g run other r p =
        subst (λ (b : Bool). Paired N to (n + cond (accepts lawful N f) 1 0) (after lawful N run (feed f)) (cond b (g ∷ other) other)) (sym (accepts_same f g r)) (by (accepts lawful N f) refl)
      where
        by : (b : Bool) → accepts lawful N f ≡ b → Paired N to (n + cond b 1 0) (cond b (f ∷ run) run) (cond b (g ∷ other) other)
        by true e = let one : suc n ≡ n + 1 = omega arith in subst (λ (k : ℕ). Paired N to k (f ∷ run) (g ∷ other)) one (r.full (accepted_full f e), p)
        by false e = let none : n ≡ n + 0 = omega arith in subst (λ (k : ℕ). Paired N to k run other) none p

    pub ran_paired : (n : ℕ) (calls others : List (Call R)) (run other : List (List R)) → Replugged N to calls others → Paired N to n run other
        → Paired N to (n + accepted lawful N calls) (ran lawful N run calls) (ran lawful N other others)
    ran_paired n [] [] run other r p = let none : n ≡ n + 0 = omega arith in subst (λ (k : ℕ). Paired N to k run other) none p
    ran_paired n [] (d ∷ others) run other r p = absurd r
    ran_paired n (c ∷ calls) [] run other r p = absurd r
    ran_paired n (feed f ∷ calls) (d ∷ others) run other r p =
        let g = r.0.0 in
        let a = cond (accepts lawful N f) 1 0 in
        let step = fed_paired n f g run other r.0.2 p in
        let sum : n + a + accepted lawful N calls ≡ n + (a + accepted lawful N calls) = omega arith in
        subst (λ (e : Call R). Paired N to (n + (a + accepted lawful N calls)) (ran lawful N (after lawful N run (feed f)) calls) (ran lawful N (after lawful N other e) others)) (sym r.0.1)
        (subst (λ (k : ℕ). Paired N to k (ran lawful N (after lawful N run (feed f)) calls) (ran lawful N (after lawful N other (feed g)) others)) sum
        (ran_paired (n + a) calls others (after lawful N run (feed f)) (after lawful N other (feed g)) r.1 step))
    ran_paired n (gap ∷ calls) (d ∷ others) run other r p =
        subst (λ (e : Call R). Paired N to (n + accepted lawful N calls) (ran lawful N [] calls) (ran lawful N (after lawful N other e) others)) (sym r.0) (ran_paired n calls others [] [] r.1 (paired_none n))
    ran_paired n (look i ∷ calls) (d ∷ others) run other r p =
        subst (λ (e : Call R). Paired N to (n + accepted lawful N calls) (ran lawful N run calls) (ran lawful N (after lawful N other e) others)) (sym r.0) (ran_paired n calls others run other r.1 p)
    ran_paired n (look_back q h ∷ calls) (d ∷ others) run other r p =
        subst (λ (e : Call R). Paired N to (n + accepted lawful N calls) (ran lawful N run calls) (ran lawful N (after lawful N other e) others)) (sym r.0) (ran_paired n calls others run other r.1 p)
    ran_paired n (recheck i ∷ calls) (d ∷ others) run other r p =
        subst (λ (e : Call R). Paired N to (n + accepted lawful N calls) (ran lawful N run calls) (ran lawful N (after lawful N other e) others)) (sym r.0) (ran_paired n calls others run other r.1 p)

    pub ran_gapped : (n : ℕ) (calls others : List (Call R)) (run other : List (List R)) → Replugged N to calls others → gapped calls ≡ true → Paired N to n (ran lawful N run calls) (ran lawful N other others)
    ran_gapped n [] others run other r h = let z : ◌≡◌ {A = ℕ} 0 1 = cc in absurd (omega arith)
    ran_gapped n (c ∷ calls) [] run other r h = absurd r
    ran_gapped n (feed f ∷ calls) (d ∷ others) run other r h = ran_gapped n calls others (after lawful N run (feed f)) (after lawful N other d) r.1 h
    ran_gapped n (gap ∷ calls) (d ∷ others) run other r h =
        subst (λ (e : Call R). Paired N to n (ran lawful N [] calls) (ran lawful N (after lawful N other e) others)) (sym r.0)
        (paired_less (n + accepted lawful N calls) n (ran lawful N [] calls) (ran lawful N [] others) (omega arith) (ran_paired n calls others [] [] r.1 (paired_none n)))
    ran_gapped n (look i ∷ calls) (d ∷ others) run other r h = ran_gapped n calls others run (after lawful N other d) r.1 h
    ran_gapped n (look_back q i ∷ calls) (d ∷ others) run other r h = ran_gapped n calls others run (after lawful N other d) r.1 h
    ran_gapped n (recheck i ∷ calls) (d ∷ others) run other r h = ran_gapped n calls others run (after lawful N other d) r.1 h

    pub settled : (m : ℕ) (calls others : List (Call R)) (run other : List (List R)) → Replugged N to calls others → Settled lawful N m calls → Paired N to m (ran lawful N run calls) (ran lawful N other others)
    settled m calls others run other r s =
        ⊎_elim
        (λ l. paired_less (0 + accepted lawful N calls) m (ran lawful N run calls) (ran lawful N other others) (omega arith) (ran_paired 0 calls others run other r tt))
        (λ h. ran_gapped m calls others run other r h)
        s

  -- a run that calls leave has only full frames
  pub ran_full : (N : ℕ) (calls : List (Call R)) (run : List (List R)) → Full N run → Full N (ran lawful N run calls)
  ran_full N [] run h = h
  ran_full N (feed f ∷ calls) run h = ran_full N calls (after lawful N run (feed f)) (by (accepts lawful N f) refl)
    where
      by : (b : Bool) → accepts lawful N f ≡ b → Full N (cond b (f ∷ run) run)
      by true e = (eqb-true (length f) N (and_parts (eqb (length f) N) (all_lawful lawful f) e).0, h)
      by false e = h
  ran_full N (gap ∷ calls) run h = ran_full N calls [] tt
  ran_full N (look i ∷ calls) run h = ran_full N calls run h
  ran_full N (look_back q i ∷ calls) run h = ran_full N calls run h
  ran_full N (recheck i ∷ calls) run h = ran_full N calls run h
