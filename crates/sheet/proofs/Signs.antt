-- Reading the signature of a field: two of its checks, and what its tracks come to where all hold. Assumes nothing.
use Rattle.std.proofs.Common.{◌≡◌, ℕ, ◌+◌, ◌*◌, ◌≤◌, true, false, not, eqb, ltb, List, ◌++◌, length, get_or, take, drop, Ok, Err, refl, ap, ◌∙◌, sym, arith}
use Rattle.std.proofs.lemmas.Bool.{le-ltb, not_from_true, not_from_false}
use Rattle.std.proofs.lemmas.List.{length-drop, get_or-drop, drop-drop}
use Rattle.kinds.specs.Bytes.{word}
use Rattle.kinds.specs.Codings.{Coding}
use Rattle.sheetfile.specs.declared.fault.Cause.TheVariants.{Length, Tracks, Frames, Store}
use Rattle.sheetfile.specs.declared.fault.Fault.{Fault}
use Rattle.sheetfile.specs.Card.{fault}
use Rattle.sheetfile.specs.Limits.{least_frames, most_frames, within}
use Rattle.sheetfile.specs.Sheets.{Signature}
use Rattle.sheetfile.specs.Outcomes.{Outcome, stop, check, mapped, into, bare}
use Rattle.sheetfile.specs.Reading.{track_size, tracks_read, signature_read}
use Rattle.sheetfile.proofs.Outcomes.{held, caught, is_not, told_ok, told_err}
use Rattle.sheetfile.proofs.First.{tracks_count}
use Rattle.sheet.specs.Stored.{Left}
use Rattle.sheet.specs.Entries.{entry}
use Rattle.sheet.proofs.Puts.{left_is, left_part}

module _ {T : Type 0} (k : Coding T) (room heads least used at : ℕ) (xs : List ℕ) where
  abbrev n : ℕ
  n = get_or xs 5 0

  abbrev m : ℕ
  m = get_or xs 6 0

  abbrev body : List ℕ
  body = drop 3 xs

  abbrev sign : ℕ → ℕ → List (List T) → Signature T
  sign name frames tss = record { name = name; frames = frames; tracks = tss }

  abbrev r6 : Outcome T (Signature T)
  r6 = into (sign (word body 0) (get_or body 3 0)) (tracks_read k (get_or body 3 0) (get_or body 2 0) (at + 7) (drop 4 body))

  abbrev r5 : Outcome T (Signature T)
  r5 = check (ltb room (used + get_or body 2 0 * get_or body 3 0)) (fault Store at) r6

  abbrev r4 : Outcome T (Signature T)
  r4 = check (not (eqb (length body) (4 + get_or body 2 0 * track_size k (get_or body 3 0)))) (fault Length at) r5

  abbrev r3 : Outcome T (Signature T)
  r3 = check (not (within least_frames most_frames (get_or body 3 0))) (fault Frames (at + 6)) r4

  abbrev r2 : Outcome T (Signature T)
  r2 = check (not (within 1 heads (get_or body 2 0))) (fault Tracks (at + 5)) r3

  abbrev all : Outcome T (Signature T)
  all = signature_read k room heads least used at body

  -- the bytes of the body, as the field has them
  byte : (i : ℕ) → get_or body i 0 ≡ get_or xs (3 + i) 0
  byte i = get_or-drop 3 xs i 0

  name_is : word body 0 ≡ word xs 3
  name_is = omega (arith, byte 0, byte 1)

  module _ (long : 7 ≤ length xs) (high : least ≤ word xs 3) where
    p2 : all ≡ r2
    p2 = held _ _ _ (le-ltb (length body) 4 (omega (arith, length-drop 3 xs))) ∙ held _ r2 _ (le-ltb (word body 0) least (omega (arith, name_is)))

    pub signature_tracks : within 1 heads n ≡ false → all ≡ stop (fault Tracks (at + 5))
    signature_tracks h = p2 ∙ caught _ r3 _ (not_from_false (within 1 heads (get_or body 2 0)) (ap (within 1 heads) (byte 2) ∙ h))

    module _ (some : within 1 heads n ≡ true) where
      p3 : all ≡ r3
      p3 = p2 ∙ held _ r3 _ (not_from_true (within 1 heads (get_or body 2 0)) (ap (within 1 heads) (byte 2) ∙ some))

      pub signature_frames : within least_frames most_frames m ≡ false → all ≡ stop (fault Frames (at + 6))
      signature_frames h = p3 ∙ caught _ r4 _ (not_from_false (within least_frames most_frames (get_or body 3 0)) (ap (within least_frames most_frames) (byte 3) ∙ h))

      module _ (deep : within least_frames most_frames m ≡ true) (size : length xs ≡ 7 + n * track_size k m) (fits : used + n * m ≤ room) where
        sized : length body ≡ 4 + get_or body 2 0 * track_size k (get_or body 3 0)
        sized = omega (arith, length-drop 3 xs, size, ap (λ v. v * track_size k m) (byte 2), ap (λ v. get_or body 2 0 * track_size k v) (byte 3))

        count_is : get_or body 2 0 * get_or body 3 0 ≡ n * m
        count_is = ap (λ v. v * get_or body 3 0) (byte 2) ∙ ap (λ v. n * v) (byte 3)

        passed : all ≡ r6
        passed =
            p3
            ∙ held _ r4 _ (not_from_true (within least_frames most_frames (get_or body 3 0)) (ap (within least_frames most_frames) (byte 3) ∙ deep))
            ∙ held _ r5 _ (is_not (length body) (4 + get_or body 2 0 * track_size k (get_or body 3 0)) sized)
            ∙ held _ r6 _ (le-ltb room (used + get_or body 2 0 * get_or body 3 0) (omega (arith, count_is)))

        -- the tracks, as the code has what is left of the bytes and of the store
        module _ (rest : List ℕ) (is : rest ≡ drop 7 xs) (p : ℕ) (there : p ≡ at + 7) (free new : List T) (few : n * m ≤ length free) (kept : length new ≡ length (take (n * m) free)) where
          abbrev read : Outcome T (List (List T))
          read = tracks_read k m n p rest

          same : into (entry used) all ≡ into (entry used) (into (sign (word xs 3) m) read)
          same =
              ap (into (entry used))
              (passed
              ∙ ap (λ v. into (sign v (get_or body 3 0)) (tracks_read k (get_or body 3 0) (get_or body 2 0) (at + 7) (drop 4 body))) name_is
              ∙ ap (λ v. into (sign (word xs 3) v) (tracks_read k v (get_or body 2 0) (at + 7) (drop 4 body))) (byte 3)
              ∙ ap (λ v. into (sign (word xs 3) m) (tracks_read k m v (at + 7) (drop 4 body))) (byte 2)
              ∙ ap (λ q. into (sign (word xs 3) m) (tracks_read k m n q (drop 4 body))) (sym there)
              ∙ ap (λ ys. into (sign (word xs 3) m) (tracks_read k m n p ys)) (drop-drop 4 3 xs ∙ sym is))

          pub signature_broke : (e : Fault) → Left (bare read) 0 (take (n * m) free) (Err e) new → Left (into (entry used) all) 0 free (Err e) (new ++ drop (n * m) free)
          signature_broke e part =
              let q = told_err (λ tss. tt) read.end e part.answer in
              let end = ap (λ r. record { tests = read.tests; end = mapped (entry used) (mapped (sign (word xs 3) m) r) }) q in
              left_part 0 (n * m) free new (omega (arith, few)) kept (left_is (same ∙ end) (record { answer = refl; store_is = part.store_is }))

          pub signature_done : (nm : ℕ) → nm ≡ word xs 3 → Left (bare read) 0 (take (n * m) free) (Ok tt) new → Left (into (entry used) all) 0 free (Ok (record { name = nm; tracks = n; frames = m; first = used })) (new ++ drop (n * m) free)
          signature_done nm named part =
              let q = told_ok (λ tss. tt) read.end tt part.answer in
              let end = ap (λ r. record { tests = read.tests; end = mapped (entry used) (mapped (sign (word xs 3) m) r) }) q.1
              ∙ ap (λ l. record { tests = read.tests; end = Ok (record { name = word xs 3; tracks = l; frames = m; first = used }) }) (tracks_count k m n p rest q.0 q.1)
              ∙ ap (λ l. record { tests = read.tests; end = Ok (record { name = l; tracks = n; frames = m; first = used }) }) (sym named) in
              left_part 0 (n * m) free new (omega (arith, few)) kept (left_is (same ∙ end) (record { answer = refl; store_is = part.store_is }))
