-- A refusal of the reading rule is that of the first check that fails. Assumes nothing.
use Rattle.std.proofs.Common.{◌≡◌, ℕ, zero, suc, ◌+◌, ◌*◌, ◌<◌, Bool, true, false, cond, not, eqb, ltb, leb, List, [], ◌∷◌, ◌++◌, length, get_or, take, drop, is_some, Some, None, Ok, Err, Option, Result, sym, refl, ap, ◌∙◌, subst, arith}
use Rattle.std.proofs.lemmas.Bool.{eqb-true, ltb-false}
use Rattle.std.proofs.lemmas.List.{length-take-le, length-drop, get_or-take, get_or-drop}
use Rattle.kinds.specs.Bytes.{word}
use Rattle.kinds.specs.Codings.{Coding}
use Rattle.sheetfile.specs.declared.fault.Cause.TheVariants.{Cut, Tag, Length, Kind, Heads, Tracks, Frames, Test, Thirteenth, Bare, Name, Store}
use Rattle.sheetfile.specs.declared.fault.Fault.{Fault}
use Rattle.sheetfile.specs.Card.{Told, told, fault}
use Rattle.sheetfile.specs.Limits.{most_heads, most_signatures, least_frames, most_frames, within}
use Rattle.sheetfile.specs.Sheets.{Signature, Sheet, test_count}
use Rattle.sheetfile.specs.Outcomes.{Outcome, stop, give, check, on, mapped, into, chain}
use Rattle.sheetfile.specs.Reading.{field_read, tests_read, track_read, track_size, tracks_read, signature_read, signatures_read, rule}
use Rattle.sheetfile.specs.Checks.{Check, or_fault, field_checks, test_checks, track_checks, tracks_checks, signature_checks, signatures_checks, sheet_checks, AllHold, FirstFails}
use Rattle.sheetfile.specs.Values.{one_value, values_read}
use Rattle.sheetfile.proofs.Outcomes.{passed, chosen, went_on, chain_ok, mapped_ok}

-- what a list of checks comes to, and what a reading tells
abbrev pub Ends : Type 0
Ends = Result (Unit {0}) Told

abbrev run : List Check → Ends
run [] = Ok tt
run (c ∷ cs) = cond c.holds (run cs) (Err c.refusal)

abbrev shown : {A : Type 0} → Result A Fault → Ends
shown (Ok a) = Ok tt
shown (Err e) = Err (told e)

abbrev then : Ends → Ends → Ends
then (Ok u) y = y
then (Err t) y = Err t

run_append : (cs ds : List Check) → run (cs ++ ds) ≡ then (run cs) (run ds)
run_append [] ds = refl
run_append (c ∷ cs) ds = ap (λ r. cond c.holds r (Err c.refusal)) (run_append cs ds) ∙ out c.holds
  where
    out : (b : Bool) → cond b (then (run cs) (run ds)) (Err c.refusal) ≡ then (cond b (run cs) (Err c.refusal)) (run ds)
    out true = refl
    out false = refl

shown_mapped : {A B : Type 0} (f : A → B) (r : Result A Fault) → shown (mapped f r) ≡ shown r
shown_mapped f (Ok a) = refl
shown_mapped f (Err e) = refl

-- a check of the rule, and the same where it asks for the contrary
shown_check : {T A : Type 0} (b : Bool) (e : Fault) (r : Outcome T A) → shown (check (not b) e r).end ≡ cond b (shown r.end) (Err (told e))
shown_check true e r = refl
shown_check false e r = refl

at_least : (n x : ℕ) → ltb x n ≡ not (leb n x)
at_least n x = grind arith

shown_least : {T A : Type 0} (n x : ℕ) (e : Fault) (r : Outcome T A) → shown (check (ltb x n) e r).end ≡ cond (leb n x) (shown r.end) (Err (told e))
shown_least n x e r = ap (λ b. shown (check b e r).end) (at_least n x) ∙ shown_check (leb n x) e r

shown_on : {T A B : Type 0} (r : Result A Fault) (f : A → Outcome T B) (y : Ends) → ((a : A) → r ≡ Ok a → shown (f a).end ≡ y) → shown (on r f).end ≡ then (shown r) y
shown_on (Ok a) f y h = h a refl
shown_on (Err e) f y h = refl

-- only what follows a check that holds matters
cond_where : {X : Type 0} (b : Bool) (x y z : X) → (b ≡ true → x ≡ y) → cond b x z ≡ cond b y z
cond_where true x y z h = h refl
cond_where false x y z h = refl

module _ (tag at : ℕ) (xs : List ℕ) where
  abbrev third : Bool → Result (List ℕ) Fault
  third b = cond b (Ok (take (word xs 1) (drop 3 xs))) (Err (fault Tag at))

  abbrev second : Bool → Bool → Result (List ℕ) Fault
  second b c = cond b (Err (fault Cut at)) (third c)

  three : (a b c : Bool) → shown (cond (not a) (Err (fault Cut at)) (second (not b) c)) ≡ run (or_fault a 10 at 1 ∷ or_fault b 10 at 1 ∷ or_fault c 11 at 2 ∷ [])
  three false b c = refl
  three true false c = refl
  three true true false = refl
  three true true true = refl

  field_shown : shown (field_read tag at xs) ≡ run (field_checks tag at xs)
  field_shown =
      let tagged = eqb (get_or xs 0 0) tag in
      ap (λ b. shown (cond b (Err (fault Cut at)) (second (ltb (length xs) (3 + word xs 1)) tagged))) (at_least 3 (length xs))
      ∙ ap (λ b. shown (cond (not (leb 3 (length xs))) (Err (fault Cut at)) (second b tagged))) (at_least (3 + word xs 1) (length xs))
      ∙ three (leb 3 (length xs)) (leb (3 + word xs 1) (length xs)) tagged

-- the body of a field that reads
pub record Body (xs body : List ℕ) : Type 0 where
  pub is : body ≡ take (word xs 1) (drop 3 xs)
  pub long : length body ≡ word xs 1

pub field_body : (tag at : ℕ) (xs body : List ℕ) → field_read tag at xs ≡ Ok body → Body xs body
field_body tag at xs body h =
    let p = passed _ _ _ body h in
    let q = passed _ _ _ body p.1 in
    let r = chosen _ _ _ body q.1 in
    let fits = ltb-false (length xs) (3 + word xs 1) q.0 in
    record { is = sym r.1; long = ap length (sym r.1) ∙ length-take-le (word xs 1) (drop 3 xs) (omega (arith, length-drop 3 xs)) }

module _ {T : Type 0} (k : Coding T) where
  tests_shown : (m at : ℕ) (xs : List ℕ) → shown (tests_read k m at xs).end ≡ run (test_checks k m at xs)
  unfolding values_read test_checks
  tests_shown zero at xs = refl
  tests_shown (suc m) at xs =
      one_shown (k.reads (take k.width xs)) (tests_read k m (at + k.width) (drop k.width xs))
      ∙ ap (λ r. cond (is_some (k.reads (take k.width xs))) r (Err (told (fault Test at)))) (tests_shown m (at + k.width) (drop k.width xs))
    where
      one_shown : (o : Option T) (r : Outcome T (List T)) → shown (one_value Test o at r).end ≡ cond (is_some o) (shown r.end) (Err (told (fault Test at)))
      one_shown None r = refl
      one_shown (Some t) r = shown_mapped (λ ts. t ∷ ts) r.end

  track_shown : (m at : ℕ) (xs : List ℕ) → shown (track_read k m at xs).end ≡ run (track_checks k m at xs)
  track_shown m at xs =
      let tests = tests_read k m (at + 3) (drop 3 xs) in
      let tag = eqb (get_or xs 0 0) 3 in
      let long = eqb (word xs 1) (m * k.width) in
      shown_check tag (fault Tag at) (check (not long) (fault Length at) tests)
      ∙ ap (λ r. cond tag r (Err (told (fault Tag at)))) (shown_check long (fault Length at) tests)
      ∙ ap (λ r. cond tag (cond long r (Err (told (fault Length at)))) (Err (told (fault Tag at)))) (tests_shown m (at + 3) (drop 3 xs))

  tracks_shown : (m left at : ℕ) (xs : List ℕ) → shown (tracks_read k m left at xs).end ≡ run (tracks_checks k m left at xs)
  unfolding tracks_read tracks_checks
  tracks_shown m zero at xs = refl
  tracks_shown m (suc left) at xs =
      let size = track_size k m in
      let rest = tracks_read k m left (at + size) (drop size xs) in
      shown_on (track_read k m at xs).end (λ ts. into (λ tss. ts ∷ tss) rest) (shown rest.end) (λ ts h. shown_mapped (λ tss. ts ∷ tss) rest.end)
      ∙ ap (λ r. then r (shown rest.end)) (track_shown m at xs)
      ∙ ap (then (run (track_checks k m at xs))) (tracks_shown m left (at + size) (drop size xs))
      ∙ sym (run_append (track_checks k m at xs) (tracks_checks k m left (at + size) (drop size xs)))

  -- a reading that is whole has as many tracks as were asked for
  pub tracks_count : (m left at : ℕ) (xs : List ℕ) (tss : List (List T)) → (tracks_read k m left at xs).end ≡ Ok tss → length tss ≡ left
  unfolding tracks_read
  tracks_count m zero at xs [] h = refl
  tracks_count m zero at xs (ts ∷ tss) h = absurd cc
  tracks_count m (suc left) at xs tss h =
      let size = track_size k m in
      let rest = tracks_read k m left (at + size) (drop size xs) in
      let p = chain_ok (track_read k m at xs) (λ ts. into (λ uss. ts ∷ uss) rest) tss h in
      let q = mapped_ok (λ uss. p.0 ∷ uss) rest.end tss p.3 in
      ap length (sym q.2) ∙ ap suc (tracks_count m left (at + size) (drop size xs) q.0 q.1)

  module _ (room heads least used at : ℕ) (body : List ℕ) where
    abbrev n : ℕ
    n = get_or body 2 0

    abbrev m : ℕ
    m = get_or body 3 0

    abbrev tracks : Outcome T (List (List T))
    tracks = tracks_read k m n (at + 7) (drop 4 body)

    abbrev sign : List (List T) → Signature T
    sign tss = record { name = word body 0; frames = m; tracks = tss }

    abbrev r5 : Outcome T (Signature T)
    r5 = check (ltb room (used + n * m)) (fault Store at) (into sign tracks)

    abbrev r4 : Outcome T (Signature T)
    r4 = check (not (eqb (length body) (4 + n * track_size k m))) (fault Length at) r5

    abbrev r3 : Outcome T (Signature T)
    r3 = check (not (within least_frames most_frames m)) (fault Frames (at + 6)) r4

    abbrev r2 : Outcome T (Signature T)
    r2 = check (not (within 1 heads n)) (fault Tracks (at + 5)) r3

    abbrev r1 : Outcome T (Signature T)
    r1 = check (ltb (word body 0) least) (fault Name (at + 3)) r2

    abbrev or : Bool → Fault → Ends → Ends
    or b e r = cond b r (Err (told e))

    abbrev c1 : Ends → Ends
    c1 r = or (leb 4 (length body)) (fault Length at) r

    abbrev c2 : Ends → Ends
    c2 r = c1 (or (leb least (word body 0)) (fault Name (at + 3)) r)

    abbrev c3 : Ends → Ends
    c3 r = c2 (or (within 1 heads n) (fault Tracks (at + 5)) r)

    abbrev c4 : Ends → Ends
    c4 r = c3 (or (within least_frames most_frames m) (fault Frames (at + 6)) r)

    abbrev c5 : Ends → Ends
    c5 r = c4 (or (eqb (length body) (4 + n * track_size k m)) (fault Length at) r)

    abbrev c6 : Ends → Ends
    c6 r = c5 (or (leb (used + n * m) room) (fault Store at) r)

    signature_shown : shown (signature_read k room heads least used at body).end ≡ run (signature_checks k room heads least used at body)
    signature_shown =
        shown_least 4 (length body) (fault Length at) r1
        ∙ ap c1 (shown_least least (word body 0) (fault Name (at + 3)) r2)
        ∙ ap c2 (shown_check (within 1 heads n) (fault Tracks (at + 5)) r3)
        ∙ ap c3 (shown_check (within least_frames most_frames m) (fault Frames (at + 6)) r4)
        ∙ ap c4 (shown_check (eqb (length body) (4 + n * track_size k m)) (fault Length at) r5)
        ∙ ap c5 (shown_least (used + n * m) room (fault Store at) (into sign tracks))
        ∙ ap c6 (shown_mapped sign tracks.end ∙ tracks_shown m n (at + 7) (drop 4 body))

    -- what a signature that reads has from its body
    pub record Figures (s : Signature T) : Type 0 where
      pub name_is : s.name ≡ word body 0
      pub count_is : test_count s ≡ n * m

    signature_figures : (s : Signature T) → (signature_read k room heads least used at body).end ≡ Ok s → Figures s
    signature_figures s h =
        let p1 = went_on _ _ r1 s h in
        let p2 = went_on _ _ r2 s p1.2 in
        let p3 = went_on _ _ r3 s p2.2 in
        let p4 = went_on _ _ r4 s p3.2 in
        let p5 = went_on _ _ r5 s p4.2 in
        let p6 = went_on _ _ (into sign tracks) s p5.2 in
        let q = mapped_ok sign tracks.end s p6.2 in
        let count = tracks_count m n (at + 7) (drop 4 body) q.0 q.1 in
        let all : Figures (sign q.0) = record { name_is = refl; count_is = ap (λ l. l * m) count } in
        subst (λ (v : Signature T). Figures v) q.2 all

  run_cond : (b : Bool) (cs : List Check) → run (cond b [] cs) ≡ cond b (Ok tt) (run cs)
  run_cond true cs = refl
  run_cond false cs = refl

  shown_cond : {A : Type 0} (b : Bool) (x y : Outcome T A) → shown (cond b x y).end ≡ cond b (shown x.end) (shown y.end)
  shown_cond true x y = refl
  shown_cond false x y = refl

  module _ (room heads : ℕ) where
    -- the rule and the checks tell the same, of so many signatures
    abbrev Same : ℕ → Type 0
    Same left = (least used at : ℕ) (xs : List ℕ) → shown (signatures_read k room heads left least used at xs).end ≡ run (signatures_checks k room heads left least used at xs)

    module _ (left : ℕ) (ih : Same left) (least used at : ℕ) (xs : List ℕ) where
      abbrev size : ℕ
      size = word xs 1

      abbrev body : List ℕ
      body = take size (drop 3 xs)

      abbrev first : List Check
      first = signature_checks k room heads least used at body

      abbrev later : List Check
      later = signatures_checks k room heads left (word body 0 + 1) (used + get_or body 2 0 * get_or body 3 0) (at + (3 + size)) (drop (3 + size) xs)

      abbrev next : List ℕ → Signature T → Outcome T (List (Signature T))
      next b s = signatures_read k room heads left (s.name + 1) (used + test_count s) (at + (3 + length b)) (drop (3 + length b) xs)

      abbrev here : List ℕ → Outcome T (List (Signature T))
      here b = chain (signature_read k room heads least used at b) (λ s. into (λ ss. s ∷ ss) (next b s))

      -- the next signatures, by the figures in the body
      follows : (b : List ℕ) → Body xs b → (s : Signature T) → Figures room heads least used at b s → shown (next b s).end ≡ run later
      follows b p s f =
          ap (λ l. shown (signatures_read k room heads left (s.name + 1) (used + test_count s) (at + (3 + l)) (drop (3 + l) xs)).end) p.long
          ∙ ap (λ v. shown (signatures_read k room heads left (v + 1) (used + test_count s) (at + (3 + size)) (drop (3 + size) xs)).end) (f.name_is ∙ ap (λ c. word c 0) p.is)
          ∙ ap (λ v. shown (signatures_read k room heads left (word body 0 + 1) (used + v) (at + (3 + size)) (drop (3 + size) xs)).end) (f.count_is ∙ ap (λ c. get_or c 2 0 * get_or c 3 0) p.is)
          ∙ ih (word body 0 + 1) (used + get_or body 2 0 * get_or body 3 0) (at + (3 + size)) (drop (3 + size) xs)

      from : (b : List ℕ) → field_read 2 at xs ≡ Ok b → shown (here b).end ≡ run (first ++ later)
      from b h =
          let p = field_body 2 at xs b h in
          shown_on (signature_read k room heads least used at b).end (λ s. into (λ ss. s ∷ ss) (next b s)) (run later)
          (λ s e. shown_mapped (λ ss. s ∷ ss) (next b s).end ∙ follows b p s (signature_figures room heads least used at b s e))
          ∙ ap (λ r. then r (run later)) (signature_shown room heads least used at b)
          ∙ ap (λ c. then (run (signature_checks k room heads least used at c)) (run later)) p.is
          ∙ sym (run_append first later)

      one_more : shown (signatures_read k room heads (suc left) least used at xs).end ≡ run (signatures_checks k room heads (suc left) least used at xs)
      unfolding signatures_read signatures_checks
      one_more =
          let none = eqb (length xs) 0 in
          shown_cond none (give []) (on (field_read 2 at xs) here)
          ∙ ap (λ r. cond none (Ok tt) r)
          (shown_on (field_read 2 at xs) here (run (first ++ later)) from
          ∙ ap (λ r. then r (run (first ++ later))) (field_shown 2 at xs)
          ∙ sym (run_append (field_checks 2 at xs) (first ++ later)))
          ∙ sym (run_cond none (field_checks 2 at xs ++ (first ++ later)))

    no_more : Same 0
    unfolding signatures_read signatures_checks
    no_more least used at xs =
        let none = eqb (length xs) 0 in
        let last = or_fault false 18 at 3 ∷ [] in
        shown_cond none (give []) (on (field_read 2 at xs) (λ body. stop (fault Thirteenth at)))
        ∙ ap (λ r. cond none (Ok tt) r)
        (shown_on (field_read 2 at xs) (λ body. stop (fault Thirteenth at)) (run last) (λ body h. refl)
        ∙ ap (λ r. then r (run last)) (field_shown 2 at xs)
        ∙ sym (run_append (field_checks 2 at xs) last))
        ∙ sym (run_cond none (field_checks 2 at xs ++ last))

    signatures_shown : (left : ℕ) → Same left
    signatures_shown zero = no_more
    signatures_shown (suc left) = one_more left (signatures_shown left)

  module _ (code room : ℕ) (xs : List ℕ) where
    abbrev head : List ℕ
    head = take (word xs 1) (drop 3 xs)

    abbrev sheet : List ℕ → List (Signature T) → Sheet T
    sheet b = λ ss. record { code = get_or b 0 0; heads = get_or b 1 0; signatures = ss }

    abbrev rest : ℕ → Outcome T (List (Signature T))
    rest heads = signatures_read k room heads most_signatures 0 0 5 (drop 5 xs)

    abbrev s3 : List ℕ → Outcome T (Sheet T)
    s3 b = check (eqb (length xs) 5) (fault Bare 5) (into (sheet b) (rest (get_or b 1 0)))

    abbrev s2 : List ℕ → Outcome T (Sheet T)
    s2 b = check (not (within 1 most_heads (get_or b 1 0))) (fault Heads 4) (s3 b)

    abbrev s1 : List ℕ → Outcome T (Sheet T)
    s1 b = check (not (eqb (get_or b 0 0) code)) (fault Kind 3) (s2 b)

    abbrev s0 : List ℕ → Outcome T (Sheet T)
    s0 b = check (not (eqb (length b) 2)) (fault Length 0) (s1 b)

    -- the checks behind the length, from a code and a number of heads
    abbrev figures : ℕ → ℕ → Ends
    figures c heads =
        cond (eqb c code)
        (cond (within 1 most_heads heads)
        (cond (not (eqb (length xs) 5)) (run (signatures_checks k room heads most_signatures 0 0 5 (drop 5 xs))) (Err (told (fault Bare 5))))
        (Err (told (fault Heads 4))))
        (Err (told (fault Kind 3)))

    contrary : (b : Bool) → b ≡ not (not b)
    contrary true = refl
    contrary false = refl

    figures_shown : (b : List ℕ) → shown (s1 b).end ≡ figures (get_or b 0 0) (get_or b 1 0)
    figures_shown b =
        let heads = get_or b 1 0 in
        let coded = eqb (get_or b 0 0) code in
        let bare = eqb (length xs) 5 in
        shown_check coded (fault Kind 3) (s2 b)
        ∙ ap (λ r. cond coded r (Err (told (fault Kind 3))))
        (shown_check (within 1 most_heads heads) (fault Heads 4) (s3 b)
        ∙ ap (λ r. cond (within 1 most_heads heads) r (Err (told (fault Heads 4))))
        (ap (λ c. shown (check c (fault Bare 5) (into (sheet b) (rest heads))).end) (contrary bare)
        ∙ shown_check (not bare) (fault Bare 5) (into (sheet b) (rest heads))
        ∙ ap (λ r. cond (not bare) r (Err (told (fault Bare 5)))) (shown_mapped (sheet b) (rest heads).end ∙ signatures_shown room heads most_signatures 0 0 5 (drop 5 xs))))

    behind : (b : List ℕ) → Body xs b → eqb (word xs 1) 2 ≡ true → shown (s1 b).end ≡ figures (get_or xs 3 0) (get_or xs 4 0)
    behind b p two =
        let w = eqb-true (word xs 1) 2 two in
        let at : (i : ℕ) → i < 2 → get_or b i 0 ≡ get_or xs (3 + i) 0 = λ i l. ap (λ c. get_or c i 0) p.is ∙ get_or-take (word xs 1) (drop 3 xs) i 0 (omega arith) ∙ get_or-drop 3 xs i 0 in
        figures_shown b ∙ ap (λ c. figures c (get_or b 1 0)) (at 0 (omega arith)) ∙ ap (figures (get_or xs 3 0)) (at 1 (omega arith))

    abbrev head_checks : List Check
    head_checks =
        or_fault (eqb (word xs 1) 2) 12 0 2
        ∷ or_fault (eqb (get_or xs 3 0) code) 13 3 3
        ∷ or_fault (within 1 most_heads (get_or xs 4 0)) 14 4 3
        ∷ or_fault (not (eqb (length xs) 5)) 19 5 3
        ∷ signatures_checks k room (get_or xs 4 0) most_signatures 0 0 5 (drop 5 xs)

    sheet_shown : shown (rule code k room xs).end ≡ run (sheet_checks code k room xs)
    unfolding rule sheet_checks
    sheet_shown =
        let two = eqb (word xs 1) 2 in
        let more = cond two (figures (get_or xs 3 0) (get_or xs 4 0)) (Err (told (fault Length 0))) in
        shown_on (field_read 1 0 xs) s0 more
        (λ b h. let p = field_body 1 0 xs b h in
        shown_check (eqb (length b) 2) (fault Length 0) (s1 b)
        ∙ ap (λ l. cond (eqb l 2) (shown (s1 b).end) (Err (told (fault Length 0)))) p.long
        ∙ cond_where two (shown (s1 b).end) (figures (get_or xs 3 0) (get_or xs 4 0)) (Err (told (fault Length 0))) (behind b p))
        ∙ ap (λ r. then r more) (field_shown 1 0 xs)
        ∙ sym (run_append (field_checks 1 0 xs) head_checks)

  -- what a list of checks that comes to this says
  holds_or : (b : Bool) (x : Ends) (t : Told) → cond b x (Err t) ≡ Ok tt → (b ≡ true) × (x ≡ Ok tt)
  holds_or true x t h = (refl, h)
  holds_or false x t h = absurd cc

  run_holds : (cs : List Check) → run cs ≡ Ok tt → AllHold cs
  run_holds [] h = tt
  run_holds (c ∷ cs) h = let p = holds_or c.holds (run cs) c.refusal h in (p.0, run_holds cs p.1)

  run_fails : (cs : List Check) (t : Told) → run cs ≡ Err t → FirstFails cs t
  run_fails [] t h = absurd cc
  run_fails (c ∷ cs) t h = by c.holds refl (λ g. run_fails cs t g)
    where
      by : (b : Bool) → c.holds ≡ b → (run cs ≡ Err t → FirstFails cs t) → FirstFails (c ∷ cs) t
      by true e more =
          let f = more (sym (ap (λ b. cond b (run cs) (Err c.refusal)) e) ∙ h) in
          record {
            before = c ∷ f.before;
            failing = f.failing;
            behind = f.behind;
            in_order = ap (λ ds. c ∷ ds) f.in_order;
            hold = (e, f.hold);
            fails = f.fails;
            refusal_is = f.refusal_is;
          }
      by false e more =
          let here : Err c.refusal ≡ Err t = sym (ap (λ b. cond b (run cs) (Err c.refusal)) e) ∙ h in
          record { before = []; failing = c; behind = cs; in_order = refl; hold = tt; fails = e; refusal_is = cc }

  -- a sheet that reads passes every check; a refusal is that of the first check that fails
  pub all_hold : (code room : ℕ) (xs : List ℕ) (s : Sheet T) → (rule code k room xs).end ≡ Ok s → AllHold (sheet_checks code k room xs)
  all_hold code room xs s h = run_holds (sheet_checks code k room xs) (sym (sheet_shown code room xs) ∙ ap shown h)

  pub first_fails : (code room : ℕ) (xs : List ℕ) (e : Fault) → (rule code k room xs).end ≡ Err e → FirstFails (sheet_checks code k room xs) (told e)
  first_fails code room xs e h = run_fails (sheet_checks code k room xs) (told e) (sym (sheet_shown code room xs) ∙ ap shown h)
