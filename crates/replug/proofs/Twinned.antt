-- Two stations worked by the same calls: one call more, and what they say. Assumes the promise over lists of calls.
use Rattle.std.proofs.Common.{◌≡◌, ℕ, Bool, true, false, List, [], ◌∷◌, ◌++◌, length, Some, None, Ok, Err, Option, Result, is_ok, sym, refl, ap, ◌∙◌, subst, inr, arith}
use Rattle.std.specs.List.{slice_get}
use Rattle.std.proofs.lemmas.Bool.{eq-eqb, and_from}
use Rattle.matching.specs.Renaming.{Permutes}
use Rattle.runs.specs.Calls.{Call, feed, gap, look, look_back, recheck, ran, gapped, SameCall, Replugged}
use Rattle.runs.specs.Verdicts.{Verdict, young, seen_on, short_of, Agree}
use Rattle.sheet.specs.declared.plan.Plan.{Plan}
use Rattle.sheet.specs.Said.{said}
use Rattle.sheetfile.specs.Sheets.{Signature}
use Rattle.station.specs.Refusals.{Told}
use Rattle.station.specs.States.{State}
use Rattle.station.specs.Promises.{Feeds, Gaps, Looks, Works}
use Rattle.station.specs.Law.{Made, Reached}
use Rattle.station.specs.Making.{Makes}
use Rattle.station.specs.Working.{at_position}
use Rattle.station.proofs.Law.{law}
use Rattle.station.proofs.Working.{worked_push, look_tells}
use Rattle.replug.specs.declared.order.Order.{Order}
use Rattle.replug.specs.Orders.{socket, Plugged}
use Rattle.replug.specs.Twins.{agrees, same_answer, Twinned}

-- verdicts that agree in words
agree_test : (a b : Verdict) → Agree a b → agrees a b ≡ true
agree_test young young h = refl
agree_test young (seen_on hs) h = absurd h
agree_test young (short_of s) h = absurd h
agree_test (seen_on hs) young h = absurd h
agree_test (seen_on hs) (seen_on gs) h = refl
agree_test (seen_on hs) (short_of s) h = absurd h
agree_test (short_of s) young h = absurd h
agree_test (short_of s) (seen_on hs) h = absurd h
agree_test (short_of s) (short_of r) h = eq-eqb s r h

-- one call more on both lists
replugged_push : {R : Type 0} (N : ℕ) (to : ℕ → ℕ) (cs ds : List (Call R)) (c d : Call R) → Replugged N to cs ds → SameCall N to c d → Replugged N to (cs ++ c ∷ []) (ds ++ d ∷ [])
replugged_push N to [] [] c d r s = (s, tt)
replugged_push N to [] (e ∷ ds) c d r s = absurd r
replugged_push N to (b ∷ cs) [] c d r s = absurd r
replugged_push N to (b ∷ cs) (e ∷ ds) c d r s = (r.0, replugged_push N to cs ds c d r.1 s)

gapped_push : {R : Type 0} (cs : List (Call R)) (c : Call R) → gapped cs ≡ true → gapped (cs ++ c ∷ []) ≡ true
gapped_push [] c h = let z : ◌≡◌ {A = ℕ} 0 1 = cc in absurd (omega arith)
gapped_push (feed f ∷ cs) c h = gapped_push cs c h
gapped_push (gap ∷ cs) c h = refl
gapped_push (look p ∷ cs) c h = gapped_push cs c h
gapped_push (look_back q i ∷ cs) c h = gapped_push cs c h
gapped_push (recheck p ∷ cs) c h = gapped_push cs c h

-- an order is a permutation of its heads
pub permutes : (o : Order) → Permutes o.heads (socket o.to) (socket o.from)
permutes o = record { to_below = o.to_below; from_below = o.from_below; back = o.back; forth = o.forth }

module _ {T R : Type 0} (lawful : R → Bool) (passes : T → R → Bool) where
  made_ok : (made : Result (Unit {0}) Told) (plan : Plan) (tests : List T) (s : State T R) → made ≡ Ok tt → Makes lawful passes made plan tests s → Made lawful passes plan.heads (said plan tests).signatures s
  made_ok (Ok u) plan tests s ok m = m
  made_ok (Err e) plan tests s ok m = let z : ◌≡◌ {A = ℕ} 0 1 = cc in absurd (omega arith)

  pub twins_begin : (o : Order) (plan : Plan) (tests : List T) (one other : Result (Unit {0}) Told) (s t s' t' : State T R) → Makes lawful passes one plan tests s → Makes lawful passes other plan tests t → Gaps lawful passes s s' → Gaps lawful passes t t'
      → one ≡ Ok tt → other ≡ Ok tt → o.heads ≡ plan.heads → Twinned lawful passes o s' t'
  twins_begin o plan tests one other s t s' t' ms mt gs gt ok ok' same =
      let P : ℕ → State T R → Type 0 = λ n u. Made lawful passes n (said plan tests).signatures u in
      record {
        sheet = (said plan tests).signatures;
        start = s;
        other_start = t;
        calls = gap ∷ [];
        others = gap ∷ [];
        made = subst (λ (n : ℕ). P n s) (sym same) (made_ok one plan tests s ok ms);
        other_made = subst (λ (n : ℕ). P n t) (sym same) (made_ok other plan tests t ok' mt);
        replugged = (refl, tt);
        settled = refl;
        worked = (s', gs, refl);
        other_worked = (t', gt, refl);
      }

  pub twins_on : (o : Order) (s t s' t' : State T R) (c d : Call R) → SameCall o.heads (socket o.to) c d → Works lawful passes s c s' → Works lawful passes t d t' → Twinned lawful passes o s t → Twinned lawful passes o s' t'
  twins_on o s t s' t' c d same ws wt h =
      record {
        sheet = h.sheet;
        start = h.start;
        other_start = h.other_start;
        calls = h.calls ++ c ∷ [];
        others = h.others ++ d ∷ [];
        made = h.made;
        other_made = h.other_made;
        replugged = replugged_push o.heads (socket o.to) h.calls h.others c d h.replugged same;
        settled = gapped_push h.calls c h.settled;
        worked = worked_push lawful passes h.start s s' h.calls c h.worked ws;
        other_worked = worked_push lawful passes h.other_start t t' h.others d h.other_worked wt;
      }

  -- a frame fed to both: a full one moved, any other as it is
  pub twins_moved : {E : Type 0} (o : Order) (s t s' t' : State T R) (f plugged old : List R) (a b : Result (Unit {0}) Told) (done : Result (Unit {0}) E) → is_ok done ≡ true → Plugged o f old done plugged → Feeds lawful passes s f a s' → Feeds lawful passes t plugged b t' → Twinned lawful passes o s t → Twinned lawful passes o s' t'
  twins_moved o s t s' t' f plugged old a b done is p fs ft h =
      let moved = p.moved is in
      twins_on o s t s' t' (feed f) (feed plugged) (plugged, refl, record { full = λ l. moved; other = λ ne. absurd (ne moved.full) }) (a, fs) (b, ft) h

  pub twins_other : {E : Type 0} (o : Order) (s t s' t' : State T R) (f plugged old : List R) (a b : Result (Unit {0}) Told) (done : Result (Unit {0}) E) → is_ok done ≡ false → length old ≡ o.heads → Plugged o f old done plugged → Feeds lawful passes s f a s' → Feeds lawful passes t f b t' → Twinned lawful passes o s t → Twinned lawful passes o s' t'
  twins_other o s t s' t' f plugged old a b done is long p fs ft h =
      let not_full : length f ≡ o.heads → ⊥ = λ l.
      let both = and_from _ _ (eq-eqb (length f) o.heads l) (eq-eqb (length old) o.heads long) in
      let said = p.answer in
      let z : ◌≡◌ {A = ℕ} 0 1 = cc in
      omega arith in
      twins_on o s t s' t' (feed f) (feed f) (f, refl, record { full = λ l. absurd (not_full l); other = λ ne. refl }) (a, fs) (b, ft) h

  module _ (o : Order) (s t : State T R) (p : ℕ) (a b : Result Verdict Told) (h : Twinned lawful passes o s t) (la : Looks lawful passes s p a) (lb : Looks lawful passes t p b) where
    by_position : (g : Option (Signature T)) → slice_get h.sheet p ≡ g → same_answer a b ≡ true
    by_position None at =
        let one = look_tells lawful passes o.heads h.sheet h.calls s p a None at (law lawful passes) (record { start = h.start; made = h.made; worked = h.worked }) la in
        let two = look_tells lawful passes o.heads h.sheet h.others t p b None at (law lawful passes) (record { start = h.other_start; made = h.other_made; worked = h.other_worked }) lb in
        ap (λ r. same_answer r b) one ∙ ap (λ r. same_answer (at_position passes o.heads None (ran lawful o.heads [] h.calls)) r) two
    by_position (Some g) at =
        let start : (u : State T R) → Made lawful passes o.heads h.sheet u → Reached lawful passes o.heads h.sheet [] u = λ u m. record { start = u; made = m; worked = refl } in
        let both =
        (law lawful passes).replugged o.heads h.sheet [] [] h.calls h.others h.start h.other_start s t
        (start h.start h.made) (start h.other_start h.other_made)
        (socket o.to) (socket o.from) (permutes o) h.replugged h.worked h.other_worked p g at (inr h.settled) a b la lb in
        ap (λ r. same_answer r b) both.one_is ∙ ap (λ r. same_answer (Ok both.one) r) both.other_is ∙ agree_test both.one both.other both.agree

    pub twins_agree : same_answer a b ≡ true
    twins_agree = by_position (slice_get h.sheet p) refl
