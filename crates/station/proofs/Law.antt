-- The promise over any list of calls. Assumes nothing but what the calls' own promises say.
use Rattle.std.proofs.Common.{◌≡◌, ℕ, zero, suc, ◌<◌, ◌≤◌, Bool, true, cond, eqb, List, [], ◌∷◌, map, length, take, Some, Ok, Err, Result, sym, refl, ap, ◌∙◌, subst, arith}
use Rattle.std.specs.List.{slice_get}
use Rattle.std.proofs.lemmas.List.{take-take}
use Rattle.std.proofs.lemmas.Bool.{eqb-true, and_parts}
use Rattle.sheetfile.specs.Limits.{most_frames}
use Rattle.sheetfile.specs.Sheets.{Signature}
use Rattle.runs.specs.Verdicts.{Verdict, verdict}
use Rattle.runs.specs.Calls.{Call, feed, gap, look, look_back, recheck, after, ran}
use Rattle.runs.specs.Frames.{all_lawful, accepts}
use Rattle.runs.specs.Theorems.{Full}
use Rattle.runs.proofs.Verdicts.{right, placed, latest, replugged}
use Rattle.runs.proofs.Calls.{settled}
use Rattle.runs.proofs.Histories.{there}
use Rattle.bank.specs.Agreement.{SignatureFitted}
use Rattle.sheet.specs.Said.{signature_said}
use Rattle.station.specs.Refusals.{Told}
use Rattle.station.specs.Frames.{back}
use Rattle.station.specs.States.{State, signatures, frames, held, TailSound, SameSheet}
use Rattle.station.specs.Promises.{Fed, Looks, Rechecks, Works, Worked}
use Rattle.station.specs.Following.{Following}
use Rattle.station.specs.Law.{Reached, Shown, Law}
use Rattle.station.proofs.Places.{each_nth}
use Rattle.station.proofs.Frames.{frames_full}
use Rattle.station.proofs.Feeding.{passed, passed_accepts}

-- the latest n of one more and the latest n
take_more : {X : Type 0} (n : ℕ) (x : X) (xs : List X) → take n (x ∷ take n xs) ≡ take n (x ∷ xs)
take_more zero x xs = refl
take_more (suc n) x xs = ap (λ ys. x ∷ ys) (take-take n (suc n) xs (omega arith))

module _ {T R : Type 0} (lawful : R → Bool) (passes : T → R → Bool) (N : ℕ) (sheet : List (Signature T)) where
  abbrev Follows : List (List R) → State T R → Type 0
  Follows run s = Following lawful passes N sheet run s

  same_sheet : (s t : State T R) → SameSheet s t → signatures t ≡ signatures s
  same_sheet s t h = ap (λ ts. map (signature_said ts) t.entries) h.tests_same ∙ ap (map (signature_said s.tests)) h.entries_same

  accepted_full : (f : List R) → accepts lawful N f ≡ true → length f ≡ N
  accepted_full f a = eqb-true (length f) N (and_parts (eqb (length f) N) (all_lawful lawful f) a).0

  -- a feed, by its answer
  follows_fed : (run : List (List R)) (s t : State T R) (f : List R) (a : Result (Unit {0}) Told) → Follows run s → passed a ≡ accepts lawful N f → Fed lawful passes s f a t → Follows (after lawful N run (feed f)) t
  follows_fed run s t f (Err e) h ok fed =
      subst (λ (b : Bool). Follows (cond b (f ∷ run) run) t) ok (subst (λ (u : State T R). Follows run u) (sym fed) h)
  follows_fed run s t f (Ok u) h ok fed =
      let next = fed.1 h.agrees in
      let accepted : Follows (f ∷ run) t = record {
        heads_are = fed.0.heads_same ∙ h.heads_are;
        sheet_is = same_sheet s t fed.0 ∙ h.sheet_is;
        agrees = next.0;
        keeps = next.1 ∙ ap (λ fs. take most_frames (f ∷ fs)) h.keeps ∙ take_more most_frames f run;
        full = (accepted_full f (sym ok), h.full);
      } in
      subst (λ (b : Bool). Follows (cond b (f ∷ run) run) t) ok accepted

  -- one call more
  pub follows_one : (run : List (List R)) (s t : State T R) (c : Call R) → Follows run s → Works lawful passes s c t → Follows (after lawful N run c) t
  follows_one run s t (feed f) h w =
      let answer = w.1.answer in
      follows_fed run s t f w.0 h (ap passed answer ∙ passed_accepts lawful s.heads f ∙ ap (λ n. accepts lawful n f) h.heads_are) w.1.leaves
  follows_one run s t gap h w =
      let next = w.agrees h.agrees in
      record { heads_are = w.sheet.heads_same ∙ h.heads_are; sheet_is = same_sheet s t w.sheet ∙ h.sheet_is; agrees = next.0; keeps = next.1; full = tt }
  follows_one run s t (look p) h w = subst (λ (u : State T R). Follows run u) (sym w.2) h
  follows_one run s t (look_back q i) h w = subst (λ (u : State T R). Follows run u) (sym w.2) h
  follows_one run s t (recheck p) h w = subst (λ (u : State T R). Follows run u) (sym w.2) h

  -- any list of calls
  follows : (run : List (List R)) (s t : State T R) (calls : List (Call R)) → Follows run s → Worked lawful passes s calls t → Follows (ran lawful N run calls) t
  follows run s t [] h w = subst (λ (u : State T R). Follows run u) (sym w) h
  follows run s t (c ∷ calls) h w = follows (after lawful N run c) w.0 t calls (follows_one run s w.0 c h w.1) w.2

  pub reached : (calls : List (Call R)) (s : State T R) → Reached lawful passes N sheet calls s → Follows (ran lawful N [] calls) s
  reached calls s r =
      let m = r.made in
      follows [] r.start s calls (record { heads_are = m.heads_are; sheet_is = m.sheet_is; agrees = m.agrees; keeps = m.empty; full = tt }) r.worked

  module _ (run : List (List R)) (s : State T R) (h : Follows run s) (p : ℕ) (g : Signature T) (at : slice_get sheet p ≡ Some g) where
    here : slice_get (signatures s) p ≡ Some g
    here = ap (λ ss. slice_get ss p) h.sheet_is ∙ at

    fitted : SignatureFitted g
    fitted = each_nth SignatureFitted (signatures s) p g h.agrees.tail.fitted.each here

    -- the verdict on what the tail keeps is that on the run
    whole : verdict passes s.heads g (frames s) ≡ verdict passes N g run
    whole =
        ap (λ n. verdict passes n g (frames s)) h.heads_are
        ∙ ap (verdict passes N g) h.keeps
        ∙ latest passes N g most_frames run fitted.regular h.full fitted.few_frames

    pub look_is : (a : Result Verdict Told) → Looks lawful passes s p a → a ≡ Ok (verdict passes N g run)
    look_is a l = l.judged h.agrees g here ∙ ap Ok whole

    recheck_is : (a : Result Verdict Told) → Rechecks lawful passes s p a → a ≡ Ok (verdict passes N g run)
    recheck_is a l = l.judged h.agrees.tail g here ∙ ap Ok whole

    some_heads : 1 ≤ s.heads
    some_heads =
        let few : length g.tracks ≤ s.heads = each_nth (λ k. length k.tracks ≤ s.heads) (signatures s) p g h.agrees.tail.few_tracks here in
        omega (arith, fitted.regular.some_tracks)

-- frames that give the same readings, and end together, are the same
module _ {R : Type 0} where
  same_frame : (xs ys : List R) → length xs ≡ length ys → ((i : ℕ) → i < length xs → slice_get xs i ≡ slice_get ys i) → xs ≡ ys
  same_frame [] [] l e = refl
  same_frame [] (y ∷ ys) l e = absurd (omega arith)
  same_frame (x ∷ xs) [] l e = absurd (omega arith)
  same_frame (x ∷ xs) (y ∷ ys) l e =
      let first = e 0 (omega arith) in
      let head : x ≡ y = cc in
      ap (λ z. z ∷ xs) head ∙ ap (λ zs. y ∷ zs) (same_frame xs ys (omega arith) (λ i k. e (suc i) (omega arith)))

  same_frames : (N : ℕ) → 1 ≤ N → (xs ys : List (List R)) → Full N xs → Full N ys → ((q h : ℕ) → q ≤ length ys → h < N → back xs q h ≡ back ys q h) → xs ≡ ys
  same_frames N some [] [] fx fy e = refl
  same_frames N some [] (y ∷ ys) fx fy e =
      let o = there y 0 (omega (arith, fy.0)) in
      let c = e 0 0 (omega arith) (omega arith) ∙ o.1 in
      let z : ◌≡◌ {A = ℕ} 0 1 = cc in
      absurd (omega arith)
  same_frames N some (x ∷ xs) [] fx fy e =
      let o = there x 0 (omega (arith, fx.0)) in
      let c = sym o.1 ∙ e 0 0 (omega arith) (omega arith) in
      let z : ◌≡◌ {A = ℕ} 0 1 = cc in
      absurd (omega arith)
  same_frames N some (x ∷ xs) (y ∷ ys) fx fy e =
      let head : x ≡ y = same_frame x y (fx.0 ∙ sym fy.0) (λ i k. e 0 i (omega arith) (omega (arith, fx.0))) in
      ap (λ z. z ∷ xs) head ∙ ap (λ zs. y ∷ zs) (same_frames N some xs ys fx.1 fy.1 (λ q h l k. e (suc q) h (omega arith) k))

  -- each frame of a list by its place
  each_full : (N : ℕ) (xs : List (List R)) → ((q : ℕ) (f : List R) → slice_get xs q ≡ Some f → length f ≡ N) → Full N xs
  each_full N [] e = tt
  each_full N (x ∷ xs) e = (e 0 x refl, each_full N xs (λ q f i. e (suc q) f i))

module _ {T R : Type 0} (lawful : R → Bool) (passes : T → R → Bool) where
  kept_full : (s : State T R) → TailSound s → Full s.heads (frames s)
  kept_full s h = frames_full s.heads s.run (held s) (omega (arith, h.held_is))

  shown_frames : (s : State T R) (seen : List (List R)) → TailSound s → 1 ≤ s.heads → Shown lawful passes s seen → frames s ≡ seen
  shown_frames s seen sound some h =
      same_frames s.heads some (frames s) seen (kept_full s sound) (each_full s.heads seen h.full)
      (λ q i l k.
      let told = h.gives q i (Ok (back (frames s) q i)) l k (record { refused = λ past. absurd (omega arith); reading = λ past t. refl }) in
      cc)

  pub law : Law lawful passes
  law = record {
    looks = λ N sheet calls s r p g at a l.
        let h = reached lawful passes N sheet calls s r in
        let run = ran lawful N [] calls in
        record {
          is = look_is lawful passes N sheet run s h p g at a l;
          right = right passes N g run;
          placed = placed passes N g run (fitted lawful passes N sheet run s h p g at).regular;
        };
    replugged = λ N sheet mine yours common others s t s' t' rs rt to from perm same ws wt p g at st a b la lb.
        let run = ran lawful N (ran lawful N [] mine) common in
        let other = ran lawful N (ran lawful N [] yours) others in
        let hs = follows lawful passes N sheet (ran lawful N [] mine) s s' common (reached lawful passes N sheet mine s rs) ws in
        let ht = follows lawful passes N sheet (ran lawful N [] yours) t t' others (reached lawful passes N sheet yours t rt) wt in
        record {
          one = verdict passes N g run;
          other = verdict passes N g other;
          one_is = look_is lawful passes N sheet run s' hs p g at a la;
          other_is = look_is lawful passes N sheet other t' ht p g at b lb;
          agree = replugged passes N g to from run other perm (fitted lawful passes N sheet run s' hs p g at).regular
              (settled lawful N to from perm g.frames common others (ran lawful N [] mine) (ran lawful N [] yours) same st);
        };
    backs = λ N sheet calls s r q i k a b.
        let f = reached lawful passes N sheet calls s r in
        b.reading (λ past. omega (arith, f.heads_are)) f.agrees.tail ∙ ap (λ fs. Ok (back fs q i)) f.keeps;
    shown = λ N sheet calls s r seen sh p g at a b la lb.
        let h = reached lawful passes N sheet calls s r in
        let run = ran lawful N [] calls in
        let same : frames s ≡ seen = shown_frames s seen h.agrees.tail (some_heads lawful passes N sheet run s h p g at) sh in
        let alone : verdict passes N g run ≡ verdict passes N g seen =
        sym (whole lawful passes N sheet run s h p g at) ∙ ap (λ n. verdict passes n g (frames s)) h.heads_are ∙ ap (verdict passes N g) same in
        (look_is lawful passes N sheet run s h p g at a la ∙ ap Ok alone, recheck_is lawful passes N sheet run s h p g at b lb ∙ ap Ok alone);
    some_shown = λ N sheet calls s r.
        let h = reached lawful passes N sheet calls s r in (
          frames s,
          record {
            full = λ q f e. each_nth (λ f. length f ≡ s.heads) (frames s) q f (kept_full s h.agrees.tail) e;
            gives = λ q i a l k b. b.reading (λ past. omega arith) h.agrees.tail;
          },
        );
  }
