-- Bytes that read as something are the bytes it is written as. Assumes the laws of the kind.
use Rattle.std.proofs.Common.{◌≡◌, ℕ, zero, suc, ◌+◌, ◌*◌, ◌/◌, ◌%◌, ◌<◌, ◌≤◌, false, not, eqb, leb, List, [], ◌∷◌, ◌++◌, length, get_or, take, drop, Some, None, Ok, Option, sym, refl, ap, ◌∙◌, subst, ⊎_elim, suc-mul, zero-mul, arith}
use Rattle.std.specs.List.{flat_map}
use Rattle.std.proofs.lemmas.Bool.{ltb-false, leb-true, eqb-true, eqb-false, not-false, and_parts}
use Rattle.std.proofs.lemmas.List.{append-nil, drop_all, append_assoc, length-append, length-drop, length-take-le, take-append-drop, drop-drop, nil_from_length}
use Rattle.kinds.specs.Codings.{Coding, Lawful}
use Rattle.kinds.specs.Kinds.{most_test_width}
use Rattle.sheetfile.specs.declared.fault.Cause.{Cause}
use Rattle.sheetfile.specs.declared.fault.Cause.TheVariants.{Length, Kind, Heads, Test, Thirteenth, Bare}
use Rattle.sheetfile.specs.Card.{fault}
use Rattle.sheetfile.specs.Limits.{most_heads, most_signatures, least_frames, most_frames, within}
use Rattle.sheetfile.specs.Sheets.{Signature, Sheet, Each, TrackWithin, SignatureWithin, Rising, Within, test_count, tests_of, all_tests}
use Rattle.sheetfile.specs.Encoding.{field, track_bytes, signature_body, signature_bytes, encode}
use Rattle.sheetfile.specs.Outcomes.{Outcome, stop, give, check, on, into, chain}
use Rattle.sheetfile.specs.Reading.{field_read, track_read, track_size, tracks_read, signature_read, signatures_read, rule}
use Rattle.sheetfile.specs.Values.{one_value, values_read}
use Rattle.sheetfile.proofs.Outcomes.{passed, chosen, went_on, either_way, on_ok, chain_ok, mapped_ok}
use Rattle.sheetfile.proofs.Back.{spelled, tests_long}

abbrev pub Bytes : List ℕ → Type 0
Bytes xs = Each (λ b. b < 256) xs

pub bytes_drop : (n : ℕ) (xs : List ℕ) → Bytes xs → Bytes (drop n xs)
bytes_drop zero xs h = h
bytes_drop (suc n) [] h = tt
bytes_drop (suc n) (x ∷ xs) h = bytes_drop n xs h.1

pub bytes_take : (n : ℕ) (xs : List ℕ) → Bytes xs → Bytes (take n xs)
bytes_take zero xs h = tt
bytes_take (suc n) [] h = tt
bytes_take (suc n) (x ∷ xs) h = (h.0, bytes_take n xs h.1)

one_ok : {T : Type 0} (cause : Cause) (o : Option T) (at : ℕ) (r : Outcome T (List T)) (ts : List T) → (one_value cause o at r).end ≡ Ok ts → (t : T) × (us : List T) × (o ≡ Some t) × (r.end ≡ Ok us) × (t ∷ us ≡ ts) × ((one_value cause o at r).tests ≡ t ∷ r.tests)
one_ok cause None at r ts h = absurd cc
one_ok cause (Some t) at r ts h = let p = mapped_ok (λ us. t ∷ us) r.end ts h in (t, p.0, refl, p.1, p.2, refl)

is : (a b : ℕ) → not (eqb a b) ≡ false → a ≡ b
is a b h = eqb-true a b (not-false (eqb a b) h)

lies : (low high n : ℕ) → not (within low high n) ≡ false → (low ≤ n) × (n ≤ high)
lies low high n h = let p = and_parts (leb low n) (leb n high) (not-false (within low high n) h) in (leb-true low n p.0, leb-true n high p.1)

pub field_only : (tag at : ℕ) (xs body : List ℕ) → Bytes xs → field_read tag at xs ≡ Ok body → (xs ≡ field tag body ++ drop (3 + length body) xs) × (3 + length body ≤ length xs) × Bytes body
field_only tag at [] body h e = absurd cc
field_only tag at (a ∷ []) body h e = absurd cc
field_only tag at (a ∷ b ∷ []) body h e = absurd cc
field_only tag at (a ∷ b ∷ c ∷ ys) body h e =
    let xs : List ℕ = a ∷ b ∷ c ∷ ys in
    let n = b * 256 + c in
    let p = passed _ _ _ body e in
    let q = passed _ _ _ body p.1 in
    let r = chosen _ _ _ body q.1 in
    let long : n ≤ length ys = omega (arith, ltb-false (length xs) (3 + n) q.0) in
    let size : length body ≡ n = ap length (sym r.1) ∙ length-take-le n ys long in
    let e1 : a ≡ tag = eqb-true a tag r.0 in
    let e2 : b ≡ length body / 256 % 256 = omega (arith, h.0, h.1.0, h.1.1.0) in
    let e3 : c ≡ length body % 256 = omega (arith, h.0, h.1.0, h.1.1.0) in
    let e4 : ys ≡ body ++ drop (3 + length body) xs = sym (take-append-drop n ys) ∙ ap (λ zs. zs ++ drop n ys) r.1 ∙ ap (λ l. body ++ drop l ys) (sym size) ∙ ap (λ zs. body ++ zs) (drop-drop (length body) 3 xs) in
    ((cc), omega arith, subst (λ (zs : List ℕ). Bytes zs) r.1 (bytes_take n ys h.1.1.1))

module _ {T : Type 0} (k : Coding T) (law : Lawful most_test_width k) where
  pub record ValuesOnly (m : ℕ) (xs : List ℕ) (r : Outcome T (List T)) (ts : List T) : Type 0 where
    pub bytes : xs ≡ flat_map k.bytes ts ++ drop (m * k.width) xs
    pub within : TrackWithin k m ts
    pub tests : r.tests ≡ ts

  pub values_only : (cause : Cause) (m at : ℕ) (xs : List ℕ) (ts : List T) → (values_read cause k m at xs).end ≡ Ok ts → ValuesOnly m xs (values_read cause k m at xs) ts
  unfolding values_read
  values_only cause zero at xs [] h = record { bytes = ap (λ n. drop n xs) (sym (zero-mul k.width)); within = record { long = refl; sound = tt }; tests = refl }
  values_only cause zero at xs (t ∷ ts) h = absurd cc
  values_only cause (suc m) at xs ts h =
      let w = k.width in
      let p = one_ok cause (k.reads (take w xs)) at (values_read cause k m (at + w) (drop w xs)) ts h in
      let t = p.0 in
      let us = p.1 in
      let more = values_only cause m (at + w) (drop w xs) us p.3 in
      let c = law.only (take w xs) t p.2 in
      let far : drop (m * w) (drop w xs) ≡ drop (suc m * w) xs = drop-drop (m * w) w xs ∙ ap (λ n. drop n xs) (omega (arith, suc-mul m w)) in
      let all : ValuesOnly (suc m) xs (values_read cause k (suc m) at xs) (t ∷ us) = record {
        bytes = sym (take-append-drop w xs) ∙ ap (λ ys. ys ++ drop w xs) (sym c.1) ∙ ap (λ ys. k.bytes t ++ ys) (more.bytes ∙ ap (λ ys. flat_map k.bytes us ++ ys) far) ∙ sym (append_assoc (k.bytes t) (flat_map k.bytes us) (drop (suc m * w) xs));
        within = record { long = ap suc more.within.long; sound = (c.0, more.within.sound) };
        tests = p.5 ∙ ap (λ vs. t ∷ vs) more.tests;
      } in
      subst (λ (vs : List T). ValuesOnly (suc m) xs (values_read cause k (suc m) at xs) vs) p.4 all

  pub record TrackOnly (m : ℕ) (xs : List ℕ) (r : Outcome T (List T)) (ts : List T) : Type 0 where
    pub bytes : xs ≡ track_bytes k ts ++ drop (track_size k m) xs
    pub within : TrackWithin k m ts
    pub tests : r.tests ≡ ts

  pub track_only : (m at : ℕ) (xs : List ℕ) (ts : List T) → Bytes xs → 3 ≤ length xs → (track_read k m at xs).end ≡ Ok ts → TrackOnly m xs (track_read k m at xs) ts
  unfolding track_bytes
  track_only m at [] ts b l h = absurd (omega arith)
  track_only m at (x ∷ []) ts b l h = absurd (omega arith)
  track_only m at (x ∷ y ∷ []) ts b l h = absurd (omega arith)
  track_only m at (x ∷ y ∷ z ∷ ys) ts b l h =
      let xs : List ℕ = x ∷ y ∷ z ∷ ys in
      let w = k.width in
      let p = went_on _ _ _ ts h in
      let q = went_on _ _ _ ts p.2 in
      let all = values_only Test m (at + 3) ys ts q.2 in
      let size : length (flat_map k.bytes ts) ≡ m * w = spelled k law ts all.within.sound ∙ ap (λ n. n * w) all.within.long in
      let n : y * 256 + z ≡ m * w = is (y * 256 + z) (m * w) q.0 in
      let e1 : x ≡ 3 = is x 3 p.0 in
      let e2 : y ≡ length (flat_map k.bytes ts) / 256 % 256 = omega (arith, b.1.0, b.1.1.0) in
      let e3 : z ≡ length (flat_map k.bytes ts) % 256 = omega (arith, b.1.0, b.1.1.0) in
      let e4 : ys ≡ flat_map k.bytes ts ++ drop (track_size k m) xs = all.bytes ∙ ap (λ zs. flat_map k.bytes ts ++ zs) (drop-drop (m * w) 3 xs) in
      record { bytes = cc; within = all.within; tests = ap (λ o. o.tests) (p.1 ∙ q.1) ∙ all.tests }

  pub record TracksOnly (m left : ℕ) (xs : List ℕ) (r : Outcome T (List (List T))) (tss : List (List T)) : Type 0 where
    pub bytes : xs ≡ flat_map (track_bytes k) tss ++ drop (left * track_size k m) xs
    pub within : Each (TrackWithin k m) tss
    pub count : length tss ≡ left
    pub tests : r.tests ≡ flat_map (λ ts. ts) tss

  pub tracks_only : (m left at : ℕ) (xs : List ℕ) (tss : List (List T)) → Bytes xs → left * track_size k m ≤ length xs → (tracks_read k m left at xs).end ≡ Ok tss → TracksOnly m left xs (tracks_read k m left at xs) tss
  unfolding tracks_read
  tracks_only m zero at xs [] b l h = record { bytes = ap (λ n. drop n xs) (sym (zero-mul (track_size k m))); within = tt; count = refl; tests = refl }
  tracks_only m zero at xs (ts ∷ tss) b l h = absurd cc
  tracks_only m (suc left) at xs tss b l h =
      let size = track_size k m in
      let long : left * size + size ≤ length xs = omega (arith, suc-mul left size) in
      let rest = tracks_read k m left (at + size) (drop size xs) in
      let p = chain_ok (track_read k m at xs) (λ ts. into (λ uss. ts ∷ uss) rest) tss h in
      let ts = p.0 in
      let q = mapped_ok (λ uss. ts ∷ uss) rest.end tss p.3 in
      let uss = q.0 in
      let first = track_only m at xs ts b (omega arith) p.1 in
      let more = tracks_only m left (at + size) (drop size xs) uss (bytes_drop size xs b) (omega (arith, length-drop size xs)) q.1 in
      let far : drop (left * size) (drop size xs) ≡ drop (suc left * size) xs = drop-drop (left * size) size xs ∙ ap (λ n. drop n xs) (omega (arith, suc-mul left size)) in
      let all : TracksOnly m (suc left) xs (tracks_read k m (suc left) at xs) (ts ∷ uss) = record {
        bytes = first.bytes ∙ ap (λ ys. track_bytes k ts ++ ys) (more.bytes ∙ ap (λ ys. flat_map (track_bytes k) uss ++ ys) far) ∙ sym (append_assoc (track_bytes k ts) (flat_map (track_bytes k) uss) (drop (suc left * size) xs));
        within = (first.within, more.within);
        count = ap suc more.count;
        tests = p.2 ∙ ap (λ us. us ++ rest.tests) first.tests ∙ ap (λ us. ts ++ us) more.tests;
      } in
      subst (λ (vs : List (List T)). TracksOnly m (suc left) xs (tracks_read k m (suc left) at xs) vs) q.2 all

  pub record SignatureOnly (room heads least used : ℕ) (body : List ℕ) (r : Outcome T (Signature T)) (s : Signature T) : Type 0 where
    pub bytes : body ≡ signature_body k s
    pub within : SignatureWithin k heads s
    pub low : least ≤ s.name
    pub fits : used + test_count s ≤ room
    pub tests : r.tests ≡ tests_of s

  pub signature_only : (room heads least used at : ℕ) (body : List ℕ) (s : Signature T) → Bytes body → (signature_read k room heads least used at body).end ≡ Ok s → SignatureOnly room heads least used body (signature_read k room heads least used at body) s
  unfolding signature_body
  signature_only room heads least used at [] s b h = absurd cc
  signature_only room heads least used at (x ∷ []) s b h = absurd cc
  signature_only room heads least used at (x ∷ y ∷ []) s b h = absurd cc
  signature_only room heads least used at (x ∷ y ∷ z ∷ []) s b h = absurd cc
  signature_only room heads least used at (x ∷ y ∷ n ∷ m ∷ ys) s b h =
      let body : List ℕ = x ∷ y ∷ n ∷ m ∷ ys in
      let p1 = went_on _ _ _ s h in
      let p2 = went_on _ _ _ s p1.2 in
      let p3 = went_on _ _ _ s p2.2 in
      let p4 = went_on _ _ _ s p3.2 in
      let p5 = went_on _ _ _ s p4.2 in
      let p6 = went_on _ _ _ s p5.2 in
      let rest = tracks_read k m n (at + 7) ys in
      let name = x * 256 + y in
      let sig : List (List T) → Signature T = λ tss. record { name = name; frames = m; tracks = tss } in
      let q = mapped_ok sig rest.end s p6.2 in
      let long : length ys ≡ n * track_size k m = omega (arith, is (length body) (4 + n * track_size k m) p5.0) in
      let more = tracks_only m n (at + 7) ys q.0 b.1.1.1.1 (omega arith) q.1 in
      let tracks = lies 1 heads n p3.0 in
      let frames = lies least_frames most_frames m p4.0 in
      let e1 : x ≡ name / 256 % 256 = omega (arith, b.0, b.1.0) in
      let e2 : y ≡ name % 256 = omega (arith, b.0, b.1.0) in
      let e3 = more.count in
      let e4 : ys ≡ flat_map (track_bytes k) q.0 = more.bytes ∙ ap (λ zs. flat_map (track_bytes k) q.0 ++ zs) (drop_all (n * track_size k m) ys (omega arith)) ∙ append-nil (flat_map (track_bytes k) q.0) in
      let all : SignatureOnly room heads least used body (signature_read k room heads least used at body) (sig q.0) = record {
        bytes = cc;
        within = record { name = omega (arith, b.0, b.1.0); some_tracks = omega (arith, tracks.0); few_tracks = omega (arith, tracks.1); some_frames = frames.0; few_frames = frames.1; tracks = more.within };
        low = ltb-false name least p2.0;
        fits = let l : used + n * m ≤ room = ltb-false room (used + n * m) p6.0 in omega (arith, ap (λ v. v * m) more.count);
        tests = ap (λ o. o.tests) (p1.1 ∙ p2.1 ∙ p3.1 ∙ p4.1 ∙ p5.1 ∙ p6.1) ∙ more.tests;
      } in
      subst (λ (v : Signature T). SignatureOnly room heads least used body (signature_read k room heads least used at body) v) q.2 all

  pub record SignaturesOnly (room heads left least used : ℕ) (xs : List ℕ) (r : Outcome T (List (Signature T))) (ss : List (Signature T)) : Type 0 where
    pub bytes : xs ≡ flat_map (signature_bytes k) ss
    pub within : Each (SignatureWithin k heads) ss
    pub rising : Rising least ss
    pub few : length ss ≤ left
    pub fits : used ≤ room → used + length (all_tests ss) ≤ room
    pub tests : r.tests ≡ all_tests ss

  none_left : (room heads left least used : ℕ) (xs : List ℕ) (r : Outcome T (List (Signature T))) (ss : List (Signature T)) → length xs ≡ 0 → r ≡ give [] → r.end ≡ Ok ss → SignaturesOnly room heads left least used xs r ss
  none_left room heads left least used xs r [] l e h = record { bytes = nil_from_length xs l; within = tt; rising = tt; few = omega arith; fits = λ l. omega arith; tests = ap (λ o. o.tests) e }
  none_left room heads left least used xs r (s ∷ ss) l e h = absurd cc

  pub signatures_only : (room heads left least used at : ℕ) (xs : List ℕ) (ss : List (Signature T)) → Bytes xs → (signatures_read k room heads left least used at xs).end ≡ Ok ss → SignaturesOnly room heads left least used xs (signatures_read k room heads left least used at xs) ss
  unfolding signatures_read signature_bytes
  signatures_only room heads zero least used at xs ss b h =
      ⊎_elim
      (λ w. none_left room heads zero least used xs _ ss (eqb-true (length xs) 0 w.0) w.1 h)
      (λ w. let p = on_ok (field_read 2 at xs) (λ body. stop (fault Thirteenth at)) ss w.2 in let e = p.3 in absurd cc)
      (either_way (eqb (length xs) 0) (give []) (on (field_read 2 at xs) (λ body. stop (fault Thirteenth at))) ss h)
  signatures_only room heads (suc left) least used at xs ss b h =
      let next : List ℕ → Signature T → Outcome T (List (Signature T)) = λ body s. signatures_read k room heads left (s.name + 1) (used + test_count s) (at + (3 + length body)) (drop (3 + length body) xs) in
      let then : List ℕ → Outcome T (List (Signature T)) = λ body. chain (signature_read k room heads least used at body) (λ s. into (λ us. s ∷ us) (next body s)) in
      ⊎_elim
      (λ w. none_left room heads (suc left) least used xs _ ss (eqb-true (length xs) 0 w.0) w.1 h)
      (λ w.
      let p = on_ok (field_read 2 at xs) then ss w.2 in
      let body = p.0 in
      let f = field_only 2 at xs body b p.1 in
      let q = chain_ok (signature_read k room heads least used at body) (λ s. into (λ us. s ∷ us) (next body s)) ss p.3 in
      let s = q.0 in
      let r = mapped_ok (λ us. s ∷ us) (next body s).end ss q.3 in
      let us = r.0 in
      let first = signature_only room heads least used at body s f.2 q.1 in
      let more = signatures_only room heads left (s.name + 1) (used + test_count s) (at + (3 + length body)) (drop (3 + length body) xs) us (bytes_drop (3 + length body) xs b) r.1 in
      let all : SignaturesOnly room heads (suc left) least used xs (signatures_read k room heads (suc left) least used at xs) (s ∷ us) = record {
        bytes = f.0 ∙ ap (λ ys. field 2 body ++ ys) more.bytes ∙ ap (λ ys. field 2 ys ++ flat_map (signature_bytes k) us) first.bytes;
        within = (first.within, more.within);
        rising = (first.low, more.rising);
        few = omega (arith, more.few);
        fits = λ l. omega (arith, more.fits first.fits, length-append (tests_of s) (all_tests us), tests_long k law s.frames s.tracks first.within.tracks);
        tests = ap (λ o. o.tests) (w.1 ∙ p.2) ∙ q.2 ∙ ap (λ ts. ts ++ (next body s).tests) first.tests ∙ ap (λ ts. tests_of s ++ ts) more.tests;
      } in
      subst (λ (v : List (Signature T)). SignaturesOnly room heads (suc left) least used xs (signatures_read k room heads (suc left) least used at xs) v) r.2 all)
      (either_way (eqb (length xs) 0) (give []) (on (field_read 2 at xs) then) ss h)

  -- the head's body, as it stands in the file
  two_of : (body : List ℕ) → length body ≡ 2 → body ≡ get_or body 0 0 ∷ get_or body 1 0 ∷ []
  two_of [] h = absurd (omega arith)
  two_of (a ∷ []) h = absurd (omega arith)
  two_of (a ∷ c ∷ []) h = refl
  two_of (a ∷ c ∷ d ∷ r) h = absurd (omega arith)

  some_signatures : (s : Sheet T) (n : ℕ) → n ≡ length (encode k s) → (n ≡ 5 → ⊥) → 1 ≤ length s.signatures
  unfolding encode
  some_signatures s n h bare = some s.signatures h
    where
      some : (ss : List (Signature T)) → n ≡ length (field 1 (s.code ∷ s.heads ∷ []) ++ flat_map (signature_bytes k) ss) → 1 ≤ length ss
      some [] e = absurd (bare e)
      some (x ∷ xs) e = omega arith

  -- only the file of a sheet within the limits reads, and as that sheet
  pub record SheetOnly (code room : ℕ) (xs : List ℕ) (s : Sheet T) : Type 0 where
    pub file : xs ≡ encode k s
    pub tests : (rule code k room xs).tests ≡ all_tests s.signatures
    pub within : Within code k s
    pub fits : length (all_tests s.signatures) ≤ room

  pub only_encodings : (code room : ℕ) (xs : List ℕ) (s : Sheet T) → Bytes xs → (rule code k room xs).end ≡ Ok s → SheetOnly code room xs s
  unfolding rule encode
  only_encodings code room xs s b h =
      let then : List ℕ → Outcome T (Sheet T) = λ body.
      check (not (eqb (length body) 2)) (fault Length 0)
      (check (not (eqb (get_or body 0 0) code)) (fault Kind 3)
      (check (not (within 1 most_heads (get_or body 1 0))) (fault Heads 4)
      (check (eqb (length xs) 5) (fault Bare 5)
      (into (λ ss. record { code = get_or body 0 0; heads = get_or body 1 0; signatures = ss })
      (signatures_read k room (get_or body 1 0) most_signatures 0 0 5 (drop 5 xs)))))) in
      let p = on_ok (field_read 1 0 xs) then s h in
      let body = p.0 in
      let f = field_only 1 0 xs body b p.1 in
      let p1 = went_on _ _ _ s p.3 in
      let p2 = went_on _ _ _ s p1.2 in
      let p3 = went_on _ _ _ s p2.2 in
      let p4 = went_on _ _ _ s p3.2 in
      let heads = get_or body 1 0 in
      let sheet : List (Signature T) → Sheet T = λ ss. record { code = get_or body 0 0; heads = heads; signatures = ss } in
      let rest = signatures_read k room heads most_signatures 0 0 5 (drop 5 xs) in
      let q = mapped_ok sheet rest.end s p4.2 in
      let ss = q.0 in
      let two : length body ≡ 2 = is (length body) 2 p1.0 in
      let more = signatures_only room heads most_signatures 0 0 5 (drop 5 xs) ss (bytes_drop 5 xs b) q.1 in
      let between = lies 1 most_heads heads p3.0 in
      let whole : xs ≡ encode k (sheet ss) = f.0 ∙ ap (λ n. field 1 body ++ drop (3 + n) xs) two ∙ ap (λ ys. field 1 ys ++ drop 5 xs) (two_of body two) ∙ ap (λ ys. field 1 (get_or body 0 0 ∷ get_or body 1 0 ∷ []) ++ ys) more.bytes in
      let all : SheetOnly code room xs (sheet ss) = record {
        file = whole;
        tests = ap (λ o. o.tests) (p.2 ∙ p1.1 ∙ p2.1 ∙ p3.1 ∙ p4.1) ∙ more.tests;
        within = record {
          code_is = is (get_or body 0 0) code p2.0;
          some_heads = between.0;
          few_heads = between.1;
          some_signatures = some_signatures (sheet ss) (length xs) (ap length whole) (eqb-false (length xs) 5 p4.0);
          few_signatures = more.few;
          rising = more.rising;
          signatures = more.within;
        };
        fits = let f = more.fits (omega arith) in omega arith;
      } in
      subst (λ (v : Sheet T). SheetOnly code room xs v) q.2 all
