-- What is written reads back. Assumes the laws of the kind.
use Rattle.std.proofs.Common.{◌≡◌, ℕ, zero, suc, ◌+◌, ◌*◌, ◌<◌, ◌≤◌, true, not, eqb, List, [], ◌∷◌, ◌++◌, length, get_or, take, drop, Some, Ok, sym, refl, ap, ◌∙◌, suc-mul, mul-le-mul, zero-mul, arith}
use Rattle.std.specs.List.{flat_map}
use Rattle.std.proofs.lemmas.Bool.{cond-false, cond-true, ne_eqb, eq-eqb, le-ltb}
use Rattle.std.proofs.lemmas.List.{append-nil, append_assoc, length-append, take_at, drop_at}
use Rattle.kinds.specs.Bytes.{word}
use Rattle.kinds.specs.Codings.{Coding, Lawful}
use Rattle.kinds.specs.Kinds.{most_test_width}
use Rattle.kinds.specs.BytesLemmas.{word_of}
use Rattle.sheetfile.specs.declared.fault.Cause.{Cause}
use Rattle.sheetfile.specs.declared.fault.Cause.TheVariants.{Length, Kind, Heads, Test, Bare}
use Rattle.sheetfile.specs.Card.{fault}
use Rattle.sheetfile.specs.Limits.{most_heads, most_signatures, least_frames, most_frames, within}
use Rattle.sheetfile.specs.Sheets.{Signature, Sheet, Each, TrackWithin, SignatureWithin, Rising, Within, test_count, tests_of, all_tests}
use Rattle.sheetfile.specs.Encoding.{field, track_bytes, signature_body, signature_bytes, encode}
use Rattle.sheetfile.specs.Outcomes.{Outcome, check, on, into, after, chain}
use Rattle.sheetfile.specs.Reading.{field_read, tests_read, track_read, track_size, tracks_read, signature_read, signatures_read, rule}
use Rattle.sheetfile.specs.Values.{one_value, values_read}
use Rattle.sheetfile.proofs.Outcomes.{held, is_not, is_within}

pub field_back : (tag at : ℕ) (body more : List ℕ) → length body < 65536 → field_read tag at (field tag body ++ more) ≡ Ok body
field_back tag at body more h =
    let xs = field tag body ++ more in
    let w : word xs 1 ≡ length body = word_of (length body) h in
    let l = length-append body more in
    cond-false _ _ _ (le-ltb (length xs) 3 (omega arith))
    ∙ cond-false _ _ _ (le-ltb (length xs) (3 + word xs 1) (omega arith))
    ∙ cond-true _ _ _ (eq-eqb tag tag refl)
    ∙ ap (λ n. Ok (take n (body ++ more))) w
    ∙ ap Ok (take_at body more (length body) refl)

module _ {T : Type 0} (k : Coding T) (law : Lawful most_test_width k) where
  pub spelled : (ts : List T) → Each (λ t. k.proper t ≡ true) ts → length (flat_map k.bytes ts) ≡ length ts * k.width
  spelled [] h = sym (zero-mul k.width)
  spelled (t ∷ ts) h =
      length-append (k.bytes t) (flat_map k.bytes ts) ∙ omega (arith, law.wide t h.0, spelled ts h.1, suc-mul (length ts) k.width)

  pub values_back : (cause : Cause) (ts : List T) (at : ℕ) (more : List ℕ) → Each (λ t. k.proper t ≡ true) ts → values_read cause k (length ts) at (flat_map k.bytes ts ++ more) ≡ record { tests = ts; end = Ok ts }
  unfolding values_read
  values_back cause [] at more h = refl
  values_back cause (t ∷ ts) at more h =
      let ys = flat_map k.bytes ts ++ more in
      let whole : flat_map k.bytes (t ∷ ts) ++ more ≡ k.bytes t ++ ys = append_assoc (k.bytes t) (flat_map k.bytes ts) more in
      let rest : ℕ → List ℕ → Outcome T (List T) = λ p xs. values_read cause k (length ts) p xs in
      ap (λ xs. one_value cause (k.reads (take k.width xs)) at (rest (at + k.width) (drop k.width xs))) whole
      ∙ ap (λ xs. one_value cause (k.reads xs) at (rest (at + k.width) (drop k.width (k.bytes t ++ ys)))) (take_at (k.bytes t) ys k.width (law.wide t h.0))
      ∙ ap (λ o. one_value cause o at (rest (at + k.width) (drop k.width (k.bytes t ++ ys)))) (law.back t h.0)
      ∙ ap (λ xs. one_value cause (Some t) at (rest (at + k.width) xs)) (drop_at (k.bytes t) ys k.width (law.wide t h.0))
      ∙ ap (λ r. one_value cause (Some t) at r) (values_back cause ts (at + k.width) more h.1)

  few_bytes : (m : ℕ) → m ≤ most_frames → m * k.width ≤ 512
  few_bytes m h = mul-le-mul h law.few

  pub track_back : (m : ℕ) (ts : List T) (at : ℕ) (more : List ℕ) → m ≤ most_frames → TrackWithin k m ts → track_read k m at (track_bytes k ts ++ more) ≡ record { tests = ts; end = Ok ts }
  unfolding track_bytes
  track_back m ts at more few h =
      let xs = track_bytes k ts ++ more in
      let small = few_bytes m few in
      let long = spelled ts h.sound in
      let same : length ts * k.width ≡ m * k.width = ap (λ n. n * k.width) h.long in
      let w : word xs 1 ≡ length (flat_map k.bytes ts) = word_of _ (omega arith) in
      held _ _ (not (eqb (word xs 1) (m * k.width))) (is_not (word xs 1) (m * k.width) (omega arith))
      ∙ ap (λ n. tests_read k n (at + 3) (flat_map k.bytes ts ++ more)) (sym h.long)
      ∙ values_back Test ts (at + 3) more h.sound

  track_long : (m : ℕ) (ts : List T) → TrackWithin k m ts → length (track_bytes k ts) ≡ track_size k m
  unfolding track_bytes
  track_long m ts h = omega (arith, spelled ts h.sound, ap (λ n. n * k.width) h.long)

  pub tracks_back : (m : ℕ) (tss : List (List T)) (at : ℕ) (more : List ℕ) → m ≤ most_frames → Each (TrackWithin k m) tss → tracks_read k m (length tss) at (flat_map (track_bytes k) tss ++ more) ≡ record { tests = flat_map (λ ts. ts) tss; end = Ok tss }
  unfolding tracks_read
  tracks_back m [] at more few h = refl
  tracks_back m (ts ∷ tss) at more few h =
      let ys = flat_map (track_bytes k) tss ++ more in
      let size = track_size k m in
      let rest : List ℕ → Outcome T (List (List T)) = λ xs. tracks_read k m (length tss) (at + size) xs in
      let whole : flat_map (track_bytes k) (ts ∷ tss) ++ more ≡ track_bytes k ts ++ ys = append_assoc (track_bytes k ts) (flat_map (track_bytes k) tss) more in
      ap (λ xs. chain (track_read k m at xs) (λ us. into (λ uss. us ∷ uss) (rest (drop size xs)))) whole
      ∙ ap (λ r. chain r (λ us. into (λ uss. us ∷ uss) (rest (drop size (track_bytes k ts ++ ys))))) (track_back m ts at ys few h.0)
      ∙ ap (λ xs. after ts (into (λ uss. ts ∷ uss) (rest xs))) (drop_at (track_bytes k ts) ys size (track_long m ts h.0))
      ∙ ap (λ r. after ts (into (λ uss. ts ∷ uss) r)) (tracks_back m tss (at + size) more few h.1)

  tracks_long : (m : ℕ) (tss : List (List T)) → Each (TrackWithin k m) tss → length (flat_map (track_bytes k) tss) ≡ length tss * track_size k m
  tracks_long m [] h = sym (zero-mul (track_size k m))
  tracks_long m (ts ∷ tss) h =
      length-append (track_bytes k ts) (flat_map (track_bytes k) tss) ∙ omega (arith, track_long m ts h.0, tracks_long m tss h.1, suc-mul (length tss) (track_size k m))

  pub tests_long : (m : ℕ) (tss : List (List T)) → Each (TrackWithin k m) tss → length (flat_map (λ (ts : List T). ts) tss) ≡ length tss * m
  tests_long m [] h = sym (zero-mul m)
  tests_long m (ts ∷ tss) h =
      length-append ts (flat_map (λ us. us) tss) ∙ omega (arith, h.0.long, tests_long m tss h.1, suc-mul (length tss) m)

  signature_long : (heads : ℕ) (s : Signature T) → SignatureWithin k heads s → length (signature_body k s) ≡ 4 + length s.tracks * track_size k s.frames
  unfolding signature_body
  signature_long heads s h = omega (arith, tracks_long s.frames s.tracks h.tracks)

  pub signature_small : (heads : ℕ) (s : Signature T) → heads ≤ most_heads → SignatureWithin k heads s → length (signature_body k s) < 65536
  signature_small heads s few h =
      let one_track = few_bytes s.frames h.few_frames in
      let m : length s.tracks ≤ 8 = omega (arith, h.few_tracks) in
      let t : track_size k s.frames ≤ 515 = omega arith in
      omega (arith, signature_long heads s h, mul-le-mul m t)

  pub signature_back : (room heads least used at : ℕ) (s : Signature T) → SignatureWithin k heads s → least ≤ s.name → used + test_count s ≤ room → signature_read k room heads least used at (signature_body k s) ≡ record { tests = tests_of s; end = Ok s }
  unfolding signature_body
  signature_back room heads least used at s h low fits =
      let body = signature_body k s in
      let m = s.frames in
      let named = word_of s.name h.name in
      let ys = flat_map (track_bytes k) s.tracks in
      held _ _ _ (le-ltb (length body) 4 (omega arith))
      ∙ held _ _ _ (le-ltb (word body 0) least (omega arith))
      ∙ held _ _ _ (is_within 1 heads (length s.tracks) h.some_tracks h.few_tracks)
      ∙ held _ _ _ (is_within least_frames most_frames m h.some_frames h.few_frames)
      ∙ held _ _ _ (is_not (length body) (4 + length s.tracks * track_size k m) (signature_long heads s h))
      ∙ held _ _ _ (le-ltb room (used + length s.tracks * m) fits)
      ∙ ap (λ n. into (λ tss. record { name = n; frames = m; tracks = tss }) (tracks_read k m (length s.tracks) (at + 7) ys)) named
      ∙ ap (λ xs. into (λ tss. record { name = s.name; frames = m; tracks = tss }) (tracks_read k m (length s.tracks) (at + 7) xs)) (sym (append-nil ys))
      ∙ ap (λ r. into (λ tss. record { name = s.name; frames = m; tracks = tss }) r) (tracks_back m s.tracks (at + 7) [] h.few_frames h.tracks)

  pub signatures_back : (room heads left least used at : ℕ) (ss : List (Signature T)) → heads ≤ most_heads → length ss ≤ left → Rising least ss → Each (SignatureWithin k heads) ss → used + length (all_tests ss) ≤ room → signatures_read k room heads left least used at (flat_map (signature_bytes k) ss) ≡ record { tests = all_tests ss; end = Ok ss }
  unfolding signature_bytes signatures_read
  signatures_back room heads zero least used at [] few more up each fits = refl
  signatures_back room heads (suc left) least used at [] few more up each fits = refl
  signatures_back room heads zero least used at (s ∷ ss) few more up each fits = absurd (omega arith)
  signatures_back room heads (suc left) least used at (s ∷ ss) few more up each fits =
      let body = signature_body k s in
      let ys = flat_map (signature_bytes k) ss in
      let size = 3 + length body in
      let count = tests_long s.frames s.tracks each.0.tracks in
      let both = length-append (tests_of s) (all_tests ss) in
      let rest : List ℕ → Signature T → Outcome T (List (Signature T)) = λ xs s'. into (λ ss'. s' ∷ ss') (signatures_read k room heads left (s'.name + 1) (used + test_count s') (at + size) xs) in
      cond-false _ _ _ (ne_eqb (length (field 2 body ++ ys)) 0 (λ z. omega arith))
      ∙ ap (λ o. on o (λ b. chain (signature_read k room heads least used at b) (λ s'. into (λ ss'. s' ∷ ss') (signatures_read k room heads left (s'.name + 1) (used + test_count s') (at + (3 + length b)) (drop (3 + length b) (field 2 body ++ ys))))))
      (field_back 2 at body ys (signature_small heads s few each.0))
      ∙ ap (λ r. chain r (λ s'. rest (drop size (field 2 body ++ ys)) s')) (signature_back room heads least used at s each.0 up.0 (omega arith))
      ∙ ap (λ xs. after (tests_of s) (rest xs s)) (drop_at (field 2 body) ys size (omega arith))
      ∙ ap (λ r. after (tests_of s) (into (λ ss'. s ∷ ss') r)) (signatures_back room heads left (s.name + 1) (used + test_count s) (at + size) ss few (omega arith) up.1 each.1 (omega arith))

  some_bytes : (ss : List (Signature T)) → 1 ≤ length ss → length (flat_map (signature_bytes k) ss) ≡ 0 → ⊥
  unfolding signature_bytes
  some_bytes [] h z = omega arith
  some_bytes (s ∷ ss) h z = omega arith

  -- a sheet within the limits reads back from its file
  pub reads_back : (code room : ℕ) (s : Sheet T) → Within code k s → length (all_tests s.signatures) ≤ room → rule code k room (encode k s) ≡ record { tests = all_tests s.signatures; end = Ok s }
  unfolding encode rule
  reads_back code room s h fits =
      let ys = flat_map (signature_bytes k) s.signatures in
      let body : List ℕ = s.code ∷ s.heads ∷ [] in
      let xs = field 1 body ++ ys in
      let rest : List (Signature T) → Sheet T = λ ss. record { code = s.code; heads = s.heads; signatures = ss } in
      let all = signatures_read k room s.heads most_signatures 0 0 5 ys in
      ap (λ o. on o (λ b.
      check (not (eqb (length b) 2)) (fault Length 0)
      (check (not (eqb (get_or b 0 0) code)) (fault Kind 3)
      (check (not (within 1 most_heads (get_or b 1 0))) (fault Heads 4)
      (check (eqb (length xs) 5) (fault Bare 5)
      (into (λ ss. record { code = get_or b 0 0; heads = get_or b 1 0; signatures = ss })
      (signatures_read k room (get_or b 1 0) most_signatures 0 0 5 (drop 5 xs))))))))
      (field_back 1 0 body ys (omega arith))
      ∙ held _ _ _ (is_not s.code code h.code_is)
      ∙ held _ _ _ (is_within 1 most_heads s.heads h.some_heads h.few_heads)
      ∙ held _ _ _ (ne_eqb (length xs) 5 (λ z. some_bytes s.signatures h.some_signatures (omega arith)))
      ∙ ap (into rest) (signatures_back room s.heads most_signatures 0 0 5 s.signatures h.few_heads h.few_signatures h.rising h.signatures (omega arith))
