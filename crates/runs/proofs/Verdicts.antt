-- The laws of the verdict. Assumes nothing.
use Rattle.std.proofs.Common.{◌≡◌, ℕ, zero, suc, ◌<◌, ◌≤◌, Bool, true, false, ◌↔◌, List, [], ◌∷◌, length, get_or, take, sym, ap, ◌∙◌, subst, ⊎_elim, arith}
use Rattle.std.proofs.lemmas.Bool.{cond-true, cond-false, lt-ltb, le-ltb, cases_lt}
use Rattle.std.proofs.lemmas.List.{length-take}
use Rattle.matching.specs.Answer.{Answer, seen, short, answer, Right as RightAnswer}
use Rattle.matching.specs.Fitting.{Alike}
use Rattle.matching.specs.Placings.{Placeable}
use Rattle.matching.specs.Renaming.{Permutes, Renames, SameWord}
use Rattle.matching.proofs.Rightness.{answer_right, answer_only, hall_holds}
use Rattle.matching.proofs.Renaming.{answer_unmoved}
use Rattle.matching.proofs.Local.{answer_local}
use Rattle.rows.specs.Matches.{passed_last}
use Rattle.rows.proofs.Histories.{passed_short, passed_take, passed_same}
use Rattle.sheetfile.specs.Sheets.{Signature, Each}
use Rattle.runs.specs.Frames.{history}
use Rattle.runs.specs.Verdicts.{Verdict, young, seen_on, short_of, fits, judged, verdict, Right, IsSeen, Agree}
use Rattle.runs.specs.Plugs.{Paired}
use Rattle.runs.specs.Theorems.{Regular, Full}
use Rattle.runs.proofs.Histories.{history_short, history_take, history_paired}

-- each track of a regular signature has one test for each frame
each_at : {X : Type 0} (n : ℕ) (xss : List (List X)) (t : ℕ) → Each (λ xs. length xs ≡ n) xss → t < length xss → length (get_or xss t []) ≡ n
each_at n [] t h l = absurd (omega arith)
each_at n (xs ∷ xss) zero h l = h.0
each_at n (xs ∷ xss) (suc t) h l = each_at n xss t h.1 (omega arith)

module _ {T R : Type 0} (passes : T → R → Bool) (N : ℕ) (s : Signature T) where
  module _ (run : List (List R)) where
    abbrev M : ℕ
    M = length s.tracks

    abbrev all : Answer
    all = answer (fits passes s run) M N

    pub is_young : length run < s.frames → verdict passes N s run ≡ young
    unfolding verdict
    is_young h = cond-true _ _ _ (lt-ltb (length run) s.frames h)

    pub is_judged : s.frames ≤ length run → verdict passes N s run ≡ judged all
    unfolding verdict
    is_judged h = cond-false _ _ _ (le-ltb (length run) s.frames h)

    judged_right : s.frames ≤ length run → (a : Answer) → RightAnswer (fits passes s run) M N a → Right passes N s run (judged a)
    judged_right h (seen heads) r = (h, r.0)
    judged_right h (short set) r = (h, r.0, r.1)

    pub right : Right passes N s run (verdict passes N s run)
    right =
        ⊎_elim
        (λ h. subst (λ (v : Verdict). Right passes N s run v) (sym (is_young h)) h)
        (λ h. subst (λ (v : Verdict). Right passes N s run v) (sym (is_judged h)) (judged_right h all (answer_right (fits passes s run) M N)))
        (cases_lt (length run) s.frames)

    pub only : (v : Verdict) → Right passes N s run v → v ≡ verdict passes N s run
    only young h = sym (is_young h)
    only (seen_on heads) h =
        let r : RightAnswer (fits passes s run) M N (seen heads) = (h.1, λ set k. (hall_holds (fits passes s run) M N).not_both heads set h.1.places k) in
        ap judged (answer_only (fits passes s run) M N (seen heads) r) ∙ sym (is_judged h.0)
    only (short_of set) h =
        ap judged (answer_only (fits passes s run) M N (short set) (h.1, h.2)) ∙ sym (is_judged h.0)

    -- before the m-th frame no head fits
    no_fit : Regular s → length run < s.frames → (t h : ℕ) → t < M → fits passes s run t h ≡ false
    no_fit reg l t h k =
        passed_short passes (get_or s.tracks t []) (history h run)
        (let long = each_at s.frames s.tracks t reg.even k in omega (arith, history_short h run, long))

    no_placing : Regular s → length run < s.frames → Placeable (fits passes s run) M N → ⊥
    no_placing reg l p =
        let f = p.1.fit 0 (omega (arith, reg.some_tracks)) in
        let g = no_fit reg l 0 (get_or p.0 0 0) (omega (arith, reg.some_tracks)) in
        let z : ◌≡◌ {A = Bool} true false = sym f ∙ g in
        let y : ◌≡◌ {A = ℕ} 0 1 = cc in
        omega arith

    seen_placed : (a : Answer) → RightAnswer (fits passes s run) M N a → IsSeen (judged a) ↔ Placeable (fits passes s run) M N
    seen_placed (seen heads) r = ((λ u. (heads, r.0.places)), (λ p. tt))
    seen_placed (short set) r = ((λ u. absurd u), (λ p. r.1 p.0 p.1))

    pub placed : Regular s → IsSeen (verdict passes N s run) ↔ Placeable (fits passes s run) M N
    placed reg =
        ⊎_elim
        (λ h. subst (λ (v : Verdict). IsSeen v ↔ Placeable (fits passes s run) M N) (sym (is_young h)) ((λ u. absurd u), (λ p. no_placing reg h p)))
        (λ h. subst (λ (v : Verdict). IsSeen v ↔ Placeable (fits passes s run) M N) (sym (is_judged h)) (seen_placed all (answer_right (fits passes s run) M N)))
        (cases_lt (length run) s.frames)

  -- the latest n frames are enough
  pub latest : (n : ℕ) (run : List (List R)) → Regular s → Full N run → s.frames ≤ n → verdict passes N s (take n run) ≡ verdict passes N s run
  latest n run reg full few =
      ⊎_elim
      (λ h. is_young (take n run) (omega (arith, length-take n run)) ∙ sym (is_young run h))
      (λ h. is_judged (take n run) (omega (arith, length-take n run)) ∙ ap judged (answer_local (fits passes s (take n run)) (fits passes s run) (length s.tracks) N same) ∙ sym (is_judged run h))
      (cases_lt (length run) s.frames)
    where
      same : Alike (length s.tracks) N (fits passes s (take n run)) (fits passes s run)
      same t h l k =
          let tests = get_or s.tracks t [] in
          let long = each_at s.frames s.tracks t reg.even l in
          ap (passed_last passes tests) (history_take N h n run k full) ∙ passed_take passes tests (history h run) n (omega (arith, long))

  -- paired runs are young together
  both_young : (to : ℕ → ℕ) (n : ℕ) (run other : List (List R)) → Paired N to n run other → length run < n → length other < n
  both_young to zero run other p l = absurd (omega arith)
  both_young to (suc n) [] [] p l = omega arith
  both_young to (suc n) [] (g ∷ other) p l = absurd p
  both_young to (suc n) (f ∷ run) [] p l = absurd p
  both_young to (suc n) (f ∷ run) (g ∷ other) p l = omega (arith, both_young to n run other p.1 (omega arith))

  both_old : (to : ℕ → ℕ) (n : ℕ) (run other : List (List R)) → Paired N to n run other → n ≤ length run → n ≤ length other
  both_old to zero run other p l = omega arith
  both_old to (suc n) [] other p l = absurd (omega arith)
  both_old to (suc n) (f ∷ run) [] p l = absurd p
  both_old to (suc n) (f ∷ run) (g ∷ other) p l = omega (arith, both_old to n run other p.1 (omega arith))

  judged_agree : (a b : Answer) → SameWord a b → Agree (judged a) (judged b)
  judged_agree (seen heads) (seen others) h = tt
  judged_agree (seen heads) (short set) h = absurd h
  judged_agree (short set) (seen heads) h = absurd h
  judged_agree (short set) (short other) h = h

  pub replugged : (to from : ℕ → ℕ) (run other : List (List R)) → Permutes N to from → Regular s → Paired N to s.frames run other → Agree (verdict passes N s run) (verdict passes N s other)
  replugged to from run other perm reg pair =
      ⊎_elim
      (λ h. subst (λ (v : Verdict). Agree v (verdict passes N s other)) (sym (is_young run h)) (subst (λ (v : Verdict). Agree young v) (sym (is_young other (both_young to s.frames run other pair h))) tt))
      (λ h. subst (λ (v : Verdict). Agree v (verdict passes N s other)) (sym (is_judged run h)) (subst (λ (v : Verdict). Agree (judged (answer (fits passes s run) (length s.tracks) N)) v) (sym (is_judged other (both_old to s.frames run other pair h)))
      (judged_agree (answer (fits passes s run) (length s.tracks) N) (answer (fits passes s other) (length s.tracks) N) (answer_unmoved (fits passes s run) (fits passes s other) (length s.tracks) N to from renames).1)))
      (cases_lt (length run) s.frames)
    where
      renames : Renames (length s.tracks) N (fits passes s run) (fits passes s other) to from
      renames = record {
        permutes = perm;
        same = λ t h l k.
            let tests = get_or s.tracks t [] in
            let long = each_at s.frames s.tracks t reg.even l in
            passed_same passes tests (history (to h) other) (history h run) (ap (λ n. take n (history (to h) other)) long ∙ history_paired N to h s.frames run other k pair ∙ ap (λ n. take n (history h run)) (sym long));
      }
