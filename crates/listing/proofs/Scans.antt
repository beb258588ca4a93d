-- Reading a run file: more bytes behind, and one event after another. Assumes nothing.
use Rattle.std.proofs.Common.{◌≡◌, ℕ, zero, suc, ◌+◌, ◌*◌, ◌≤◌, Bool, true, false, cond, eqb, ltb, List, ◌∷◌, ◌++◌, length, get_or, take, drop, Some, None, Ok, Err, Option, Result, sym, refl, ap, ◌∙◌, subst, arith}
use Rattle.std.proofs.lemmas.Bool.{or_parts, or_from, ltb-false, le-ltb, cond-true, cond-false}
use Rattle.std.proofs.lemmas.List.{length-append, length-drop, length-take-le, get_or_append_left, take-append-le, drop-append-le}
use Rattle.kinds.specs.Bytes.{word}
use Rattle.kinds.specs.Codings.{Coding}
use Rattle.sheetfile.specs.declared.fault.Fault.{Fault}
use Rattle.sheetfile.specs.declared.fault.Cause.TheVariants.{Tag, Length, LongRun}
use Rattle.sheetfile.specs.Card.{fault}
use Rattle.runfile.specs.Fields.{Part, framed, gapped, unfinished, run_field, tagged, size, frame_tag, gap_tag}
use Rattle.listing.specs.Events.{Event, frame, gap, frames_of, gaps_of}
use Rattle.listing.specs.Scanning.{frames_with, gaps_with, Step, waits, faulty, brings, Scan, ends, fails, first, on_step, event_of, too_many, by_event, by_field, step_at, scan}

-- a field that is finished lies in the bytes
pub record Finished (xs : List ℕ) : Type 0 where
  pub some : 3 ≤ length xs
  pub long : 3 + word xs 1 ≤ length xs

pub finished : (xs : List ℕ) → unfinished xs ≡ false → Finished xs
finished xs h =
    let p = or_parts (ltb (length xs) 3) (ltb (length xs) (3 + word xs 1)) h in
    record { some = ltb-false (length xs) 3 p.0; long = ltb-false (length xs) (3 + word xs 1) p.1 }

module _ (xs ys : List ℕ) (h : unfinished xs ≡ false) where
  word_same : word (xs ++ ys) 1 ≡ word xs 1
  word_same =
      let f = finished xs h in
      ap (λ a. a * 256 + get_or (xs ++ ys) 2 0) (get_or_append_left xs ys 0 1 (omega (arith, f.some))) ∙ ap (λ b. get_or xs 1 0 * 256 + b) (get_or_append_left xs ys 0 2 (omega (arith, f.some)))

  -- more bytes behind do not change it
  pub finished_more : unfinished (xs ++ ys) ≡ false
  finished_more =
      let f = finished xs h in
      or_from _ _ (le-ltb (length (xs ++ ys)) 3 (omega (arith, length-append xs ys, f.some))) (le-ltb (length (xs ++ ys)) (3 + word (xs ++ ys) 1) (omega (arith, length-append xs ys, f.long, word_same)))

  pub field_more : (due at : ℕ) → run_field due at (xs ++ ys) ≡ run_field due at xs
  field_more due at =
      let f = finished xs h in
      let body : take (word (xs ++ ys) 1) (drop 3 (xs ++ ys)) ≡ take (word xs 1) (drop 3 xs) =
      ap (λ n. take n (drop 3 (xs ++ ys))) word_same ∙ ap (take (word xs 1)) (drop-append-le 3 xs ys f.some) ∙ take-append-le (word xs 1) (drop 3 xs) ys (omega (arith, f.long, length-drop 3 xs)) in
      cond-false _ _ _ finished_more
      ∙ ap (λ t. tagged due t (word (xs ++ ys) 1) (take (word (xs ++ ys) 1) (drop 3 (xs ++ ys))) at) (get_or_append_left xs ys 0 0 (omega (arith, f.some)))
      ∙ ap (λ w. tagged due (get_or xs 0 0) w (take (word (xs ++ ys) 1) (drop 3 (xs ++ ys))) at) word_same
      ∙ ap (λ b. tagged due (get_or xs 0 0) (word xs 1) b at) body
      ∙ sym (cond-false _ _ _ h)

-- how many bytes a field takes
module _ (due at : ℕ) (xs : List ℕ) (h : unfinished xs ≡ false) where
  abbrev body : List ℕ
  body = take (word xs 1) (drop 3 xs)

  sized : (a b c d : Bool) (p : Part) → cond a (cond b (Ok (framed body at)) (Err (fault Length at))) (cond c (cond d (Ok (gapped at)) (Err (fault Length at))) (Err (fault Tag at))) ≡ Ok p → size p ≤ length xs
  sized true true c d p e =
      let same : framed body at ≡ p = cc in
      subst (λ (q : Part). size q ≤ length xs) same (omega (arith, (finished xs h).long, length-take-le (word xs 1) (drop 3 xs) (omega (arith, (finished xs h).long, length-drop 3 xs))))
  sized true false c d p e = let z : ◌≡◌ {A = ℕ} 0 1 = cc in absurd (omega arith)
  sized false b true true p e = let same : gapped at ≡ p = cc in subst (λ (q : Part). size q ≤ length xs) same (finished xs h).some
  sized false b true false p e = let z : ◌≡◌ {A = ℕ} 0 1 = cc in absurd (omega arith)
  sized false b false d p e = let z : ◌≡◌ {A = ℕ} 0 1 = cc in absurd (omega arith)

  pub field_fits : (p : Part) → run_field due at xs ≡ Ok p → size p ≤ length xs
  field_fits p e = sized (eqb (get_or xs 0 0) frame_tag) (eqb (word xs 1) due) (eqb (get_or xs 0 0) gap_tag) (eqb (word xs 1) 0) p (sym (cond-false _ _ _ h) ∙ e)

-- these events first
abbrev pub after : {R : Type 0} → List (Event R) → Scan R → Scan R
after es s = record { events = es ++ s.events; fault = s.fault; at = s.at; rest = s.rest }

module _ {R : Type 0} (k : Coding R) (N : ℕ) where
  abbrev due : ℕ
  due = N * k.width

  -- what a finished field comes to
  step_is : (frames gaps at : ℕ) (xs : List ℕ) → unfinished xs ≡ false → step_at k N frames gaps at xs ≡ by_field k N frames gaps at (run_field due at xs)
  step_is frames gaps at xs h = cond-false _ _ _ h

  pub step_more : (frames gaps at : ℕ) (xs ys : List ℕ) → unfinished xs ≡ false → step_at k N frames gaps at (xs ++ ys) ≡ step_at k N frames gaps at xs
  step_more frames gaps at xs ys h =
      step_is frames gaps at (xs ++ ys) (finished_more xs ys h) ∙ ap (by_field k N frames gaps at) (field_more xs ys h due at) ∙ sym (step_is frames gaps at xs h)

  -- it does not wait, and the bytes of its event lie in the bytes
  pub record Used (xs : List ℕ) (used : ℕ) : Type 0 where
    pub some : 3 ≤ used
    pub within : used ≤ length xs

  size_some : (p : Part) → 3 ≤ size p
  size_some (framed body at) = omega arith
  size_some (gapped at) = omega arith

  by_event_used : (n : ℕ) (r : Result (Event R) Fault) (e : Event R) (used : ℕ) → by_event k N n r ≡ brings e used → n ≡ used
  by_event_used n (Ok d) e used h = cc
  by_event_used n (Err f) e used h = let z : ◌≡◌ {A = ℕ} 0 1 = cc in absurd (omega arith)

  by_field_used : (frames gaps at : ℕ) (r : Result Part Fault) (e : Event R) (used : ℕ) → by_field k N frames gaps at r ≡ brings e used → (p : Part) × (r ≡ Ok p) × (size p ≡ used)
  by_field_used frames gaps at (Ok p) e used h = (p, refl, by (too_many k N frames gaps p) h)
    where
      by : (b : Bool) → cond b (faulty (fault LongRun at)) (by_event k N (size p) (event_of k N p)) ≡ brings e used → size p ≡ used
      by true e = let z : ◌≡◌ {A = ℕ} 0 1 = cc in absurd (omega arith)
      by false g = by_event_used (size p) (event_of k N p) e used g
  by_field_used frames gaps at (Err f) e used h = let z : ◌≡◌ {A = ℕ} 0 1 = cc in absurd (omega arith)

  pub step_used : (frames gaps at : ℕ) (xs : List ℕ) (e : Event R) (used : ℕ) → unfinished xs ≡ false → step_at k N frames gaps at xs ≡ brings e used → Used xs used
  step_used frames gaps at xs e used h s =
      let p = by_field_used frames gaps at (run_field due at xs) e used (sym (step_is frames gaps at xs h) ∙ s) in
      record { some = omega (arith, size_some p.0, p.2); within = omega (arith, field_fits due at xs h p.0 p.1, p.2) }

  by_field_waits : (frames gaps at : ℕ) (r : Result Part Fault) → by_field k N frames gaps at r ≡ waits → ⊥
  by_field_waits frames gaps at (Ok p) h = by (too_many k N frames gaps p) (event_of k N p) h
    where
      by : (b : Bool) (r : Result (Event R) Fault) → cond b (faulty (fault LongRun at)) (by_event k N (size p) r) ≡ waits → ⊥
      by true r e = let z : ◌≡◌ {A = ℕ} 0 1 = cc in omega arith
      by false (Ok d) e = let z : ◌≡◌ {A = ℕ} 0 1 = cc in omega arith
      by false (Err f) e = let z : ◌≡◌ {A = ℕ} 0 1 = cc in omega arith
  by_field_waits frames gaps at (Err f) h = let z : ◌≡◌ {A = ℕ} 0 1 = cc in omega arith

  step_never_waits : (frames gaps at : ℕ) (xs : List ℕ) → unfinished xs ≡ false → step_at k N frames gaps at xs ≡ waits → ⊥
  step_never_waits frames gaps at xs h s = by_field_waits frames gaps at (run_field due at xs) (sym (step_is frames gaps at xs h) ∙ s)

  -- bytes that begin with no finished field
  pub scan_waits : (n frames gaps at : ℕ) (xs : List ℕ) → unfinished xs ≡ true → scan k N n frames gaps at xs ≡ ends at xs
  unfolding scan
  scan_waits zero frames gaps at xs h = refl
  scan_waits (suc n) frames gaps at xs h =
      ap (on_step at xs (λ e used. scan k N n (frames_with e frames) (gaps_with e gaps) (at + used) (drop used xs))) (cond-true (unfinished xs) waits (by_field k N frames gaps at (run_field due at xs)) h)

  -- one event, or a fault
  pub scan_brings : (n frames gaps at : ℕ) (xs : List ℕ) (e : Event R) (used : ℕ) → step_at k N frames gaps at xs ≡ brings e used
      → scan k N (suc n) frames gaps at xs ≡ first e (scan k N n (frames_with e frames) (gaps_with e gaps) (at + used) (drop used xs))
  unfolding scan
  scan_brings n frames gaps at xs e used s = ap (on_step at xs (λ e used. scan k N n (frames_with e frames) (gaps_with e gaps) (at + used) (drop used xs))) s

  pub scan_fails : (n frames gaps at : ℕ) (xs : List ℕ) (f : Fault) → step_at k N frames gaps at xs ≡ faulty f → scan k N (suc n) frames gaps at xs ≡ fails f at
  unfolding scan
  scan_fails n frames gaps at xs f s = ap (on_step at xs (λ e used. scan k N n (frames_with e frames) (gaps_with e gaps) (at + used) (drop used xs))) s

  not_empty : (xs : List ℕ) → unfinished xs ≡ false → length xs ≤ 0 → ⊥
  not_empty xs h l = omega (arith, (finished xs h).some)

  -- bytes that no turn is left for have no finished field
  empty_waits : (n frames gaps at : ℕ) (xs : List ℕ) → length xs ≤ 0 → scan k N n frames gaps at xs ≡ ends at xs
  empty_waits n frames gaps at xs l = by (unfinished xs) refl
    where
      by : (b : Bool) → unfinished xs ≡ b → scan k N n frames gaps at xs ≡ ends at xs
      by true h = scan_waits n frames gaps at xs h
      by false h = absurd (not_empty xs h l)

  -- as many turns as there are bytes are enough
  pub scan_enough : (n m frames gaps at : ℕ) (xs : List ℕ) → length xs ≤ n → length xs ≤ m → scan k N n frames gaps at xs ≡ scan k N m frames gaps at xs
  scan_enough zero m frames gaps at xs ln lm = empty_waits zero frames gaps at xs ln ∙ sym (empty_waits m frames gaps at xs ln)
  scan_enough (suc n) zero frames gaps at xs ln lm = empty_waits (suc n) frames gaps at xs lm ∙ sym (empty_waits zero frames gaps at xs lm)
  scan_enough (suc n) (suc m) frames gaps at xs ln lm =
      by (unfinished xs) refl (λ d used u. scan_enough n m (frames_with d frames) (gaps_with d gaps) (at + used) (drop used xs) (omega (arith, length-drop used xs, u.some)) (omega (arith, length-drop used xs, u.some)))
    where
      step : unfinished xs ≡ false → ((d : Event R) (used : ℕ) → Used xs used → scan k N n (frames_with d frames) (gaps_with d gaps) (at + used) (drop used xs) ≡ scan k N m (frames_with d frames) (gaps_with d gaps) (at + used) (drop used xs))
          → (s : Step R) → step_at k N frames gaps at xs ≡ s → scan k N (suc n) frames gaps at xs ≡ scan k N (suc m) frames gaps at xs
      step h more waits e = absurd (step_never_waits frames gaps at xs h e)
      step h more (faulty f) e = scan_fails n frames gaps at xs f e ∙ sym (scan_fails m frames gaps at xs f e)
      step h more (brings d used) e =
          scan_brings n frames gaps at xs d used e ∙ ap (first d) (more d used (step_used frames gaps at xs d used h e)) ∙ sym (scan_brings m frames gaps at xs d used e)

      by : (b : Bool) → unfinished xs ≡ b → ((d : Event R) (used : ℕ) → Used xs used → scan k N n (frames_with d frames) (gaps_with d gaps) (at + used) (drop used xs) ≡ scan k N m (frames_with d frames) (gaps_with d gaps) (at + used) (drop used xs))
          → scan k N (suc n) frames gaps at xs ≡ scan k N (suc m) frames gaps at xs
      by true h more = scan_waits (suc n) frames gaps at xs h ∙ sym (scan_waits (suc m) frames gaps at xs h)
      by false h more = step h more (step_at k N frames gaps at xs) refl

  -- going on with more bytes: from a fault nothing changes, else from the field that is not finished
  abbrev pub go_on_by : Option Fault → ℕ → ℕ → Scan R → List ℕ → Scan R
  go_on_by (Some f) frames gaps s ys = s
  go_on_by None frames gaps s ys = after s.events (scan k N (length (s.rest ++ ys)) (frames + frames_of s.events) (gaps + gaps_of s.events) s.at (s.rest ++ ys))

  abbrev pub go_on : ℕ → ℕ → Scan R → List ℕ → Scan R
  go_on frames gaps s ys = go_on_by s.fault frames gaps s ys

  frames_first : (e : Event R) (frames : ℕ) (es : List (Event R)) → frames + frames_of (e ∷ es) ≡ frames_with e frames + frames_of es
  frames_first (frame f) frames es = omega arith
  frames_first gap frames es = omega arith

  gaps_first : (e : Event R) (gaps : ℕ) (es : List (Event R)) → gaps + gaps_of (e ∷ es) ≡ gaps_with e gaps + gaps_of es
  gaps_first (frame f) gaps es = omega arith
  gaps_first gap gaps es = omega arith

  go_on_first : (e : Event R) (frames gaps : ℕ) (s : Scan R) (ys : List ℕ) → go_on frames gaps (first e s) ys ≡ first e (go_on (frames_with e frames) (gaps_with e gaps) s ys)
  go_on_first e frames gaps s ys = by s.fault
    where
      by : (o : Option Fault) → go_on_by o frames gaps (first e s) ys ≡ first e (go_on_by o (frames_with e frames) (gaps_with e gaps) s ys)
      by (Some f) = refl
      by None =
          ap (λ n. after (e ∷ s.events) (scan k N (length (s.rest ++ ys)) n (gaps + gaps_of (e ∷ s.events)) s.at (s.rest ++ ys))) (frames_first e frames s.events)
          ∙ ap (λ n. after (e ∷ s.events) (scan k N (length (s.rest ++ ys)) (frames_with e frames + frames_of s.events) n s.at (s.rest ++ ys))) (gaps_first e gaps s.events)

  waiting : (n m frames gaps at : ℕ) (xs ys : List ℕ) → unfinished xs ≡ true → length (xs ++ ys) ≤ m → scan k N m frames gaps at (xs ++ ys) ≡ go_on frames gaps (scan k N n frames gaps at xs) ys
  waiting n m frames gaps at xs ys h lm =
      let e0 : frames ≡ frames + 0 = omega arith in
      let e1 : gaps ≡ gaps + 0 = omega arith in
      scan_enough m (length (xs ++ ys)) frames gaps at (xs ++ ys) lm (omega arith)
      ∙ ap (λ f. scan k N (length (xs ++ ys)) f gaps at (xs ++ ys)) e0
      ∙ ap (λ g. scan k N (length (xs ++ ys)) (frames + 0) g at (xs ++ ys)) e1
      ∙ sym (ap (λ s. go_on frames gaps s ys) (scan_waits n frames gaps at xs h))

  -- reading bytes and then more is reading all of them
  pub scan_append : (n m frames gaps at : ℕ) (xs ys : List ℕ) → length xs ≤ n → length (xs ++ ys) ≤ m → scan k N m frames gaps at (xs ++ ys) ≡ go_on frames gaps (scan k N n frames gaps at xs) ys
  scan_append zero m frames gaps at xs ys ln lm = by (unfinished xs) refl
    where
      by : (b : Bool) → unfinished xs ≡ b → scan k N m frames gaps at (xs ++ ys) ≡ go_on frames gaps (scan k N zero frames gaps at xs) ys
      by true h = waiting zero m frames gaps at xs ys h lm
      by false h = absurd (not_empty xs h ln)
  scan_append (suc n) zero frames gaps at xs ys ln lm = by (unfinished xs) refl
    where
      by : (b : Bool) → unfinished xs ≡ b → scan k N zero frames gaps at (xs ++ ys) ≡ go_on frames gaps (scan k N (suc n) frames gaps at xs) ys
      by true h = waiting (suc n) zero frames gaps at xs ys h lm
      by false h = absurd (not_empty xs h (omega (arith, length-append xs ys)))
  scan_append (suc n) (suc m) frames gaps at xs ys ln lm =
      by (unfinished xs) refl (λ d used u. scan_append n m (frames_with d frames) (gaps_with d gaps) (at + used) (drop used xs) ys (omega (arith, length-drop used xs, u.some)) (omega (arith, length-append xs ys, length-append (drop used xs) ys, length-drop used xs, u.some, u.within)))
    where
      step : unfinished xs ≡ false
          → ((d : Event R) (used : ℕ) → Used xs used → scan k N m (frames_with d frames) (gaps_with d gaps) (at + used) (drop used xs ++ ys) ≡ go_on (frames_with d frames) (gaps_with d gaps) (scan k N n (frames_with d frames) (gaps_with d gaps) (at + used) (drop used xs)) ys)
          → (s : Step R) → step_at k N frames gaps at xs ≡ s → scan k N (suc m) frames gaps at (xs ++ ys) ≡ go_on frames gaps (scan k N (suc n) frames gaps at xs) ys
      step h more waits e = absurd (step_never_waits frames gaps at xs h e)
      step h more (faulty f) e =
          scan_fails m frames gaps at (xs ++ ys) f (step_more frames gaps at xs ys h ∙ e) ∙ sym (ap (λ s. go_on frames gaps s ys) (scan_fails n frames gaps at xs f e))
      step h more (brings d used) e =
          let u = step_used frames gaps at xs d used h e in
          let s = scan k N n (frames_with d frames) (gaps_with d gaps) (at + used) (drop used xs) in
          scan_brings m frames gaps at (xs ++ ys) d used (step_more frames gaps at xs ys h ∙ e)
          ∙ ap (λ zs. first d (scan k N m (frames_with d frames) (gaps_with d gaps) (at + used) zs)) (drop-append-le used xs ys u.within)
          ∙ ap (first d) (more d used u)
          ∙ sym (go_on_first d frames gaps s ys)
          ∙ sym (ap (λ t. go_on frames gaps t ys) (scan_brings n frames gaps at xs d used e))

      by : (b : Bool) → unfinished xs ≡ b
          → ((d : Event R) (used : ℕ) → Used xs used → scan k N m (frames_with d frames) (gaps_with d gaps) (at + used) (drop used xs ++ ys) ≡ go_on (frames_with d frames) (gaps_with d gaps) (scan k N n (frames_with d frames) (gaps_with d gaps) (at + used) (drop used xs)) ys)
          → scan k N (suc m) frames gaps at (xs ++ ys) ≡ go_on frames gaps (scan k N (suc n) frames gaps at xs) ys
      by true h more = waiting (suc n) (suc m) frames gaps at xs ys h lm
      by false h more = step h more (step_at k N frames gaps at xs) refl
