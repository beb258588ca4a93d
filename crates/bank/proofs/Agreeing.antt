-- A bank agrees with no frames when it is new, and with one frame more when it is stepped. Assumes nothing.
use Rattle.std.proofs.Common.{◌≡◌, ℕ, zero, suc, ◌+◌, ◌*◌, ◌<◌, ◌≤◌, Bool, List, [], ◌∷◌, map, length, get_or, replicate, Some, sym, ap, ◌∙◌, subst, arith}
use Rattle.std.specs.List.{slice_get}
use Rattle.std.proofs.lemmas.Option.{slice_get-get_or}
use Rattle.rows.specs.declared.Row.{Row}
use Rattle.rows.specs.Matches.{Tells}
use Rattle.rows.proofs.Telling.{tells_none}
use Rattle.runs.specs.Frames.{history}
use Rattle.runs.proofs.Histories.{there, history_more}
use Rattle.sheet.specs.declared.entry.Entry.{Entry}
use Rattle.sheet.specs.Said.{signature_said}
use Rattle.sheetfile.specs.Sheets.{Signature}
use Rattle.bank.specs.declared.track_rows.TrackRows.{TrackRows}
use Rattle.bank.specs.declared.signature_rows.SignatureRows.{SignatureRows}
use Rattle.bank.specs.declared.Bank.{Bank}
use Rattle.bank.specs.Words.{blank, no_heads, no_tracks, word_in, word_of, word_at}
use Rattle.bank.specs.Agreement.{Agrees, Fitted, SignatureFitted, Stored}
use Rattle.bank.specs.Steps.{SignatureStepped}
use Rattle.sheet.proofs.Cuts.{pieces_count}
use Rattle.bank.proofs.Items.{nth_below, each_at, nth_map}

-- every track of a fitted signature has one test for each frame
pub track_long : {T : Type 0} (s : Signature T) (t : ℕ) → SignatureFitted s → t < length s.tracks → length (get_or s.tracks t []) ≡ s.frames
track_long s t h l = each_at (λ ts. length ts ≡ s.frames) s.tracks t (get_or s.tracks t []) h.regular.even (slice_get-get_or s.tracks t [] l)

-- what holds of an element and of what stands past the end holds at every place of copies of the element
at_each : {X : Type 0} (P : X → Type 0) (n i : ℕ) (x d : X) → P x → P d → P (get_or (replicate n x) i d)
at_each P zero i x d p q = q
at_each P (suc n) zero x d p q = p
at_each P (suc n) (suc i) x d p q = at_each P n i x d p q

module _ {T R : Type 0} (passes : T → R → Bool) where
  -- rows that all tell of nothing agree with the empty run
  pub agrees_new : (N : ℕ) (signatures : List (Signature T)) (bank : Bank) (row : Row) (rows : SignatureRows) → bank.signatures ≡ replicate 12 rows → rows.tracks ≡ replicate 8 (record { heads = replicate 8 row })
      → ((tests : List T) → Tells passes tests [] row.word) → Agrees passes N signatures [] bank
  agrees_new N signatures bank row rows whole tracks told =
      record {
        tells = λ p s at t h lt lh.
            let ts = get_or s.tracks t [] in
            let none = tells_none passes ts in
            let on_head : Tells passes ts [] (word_in (record { heads = replicate 8 row }) h) = at_each (λ (r : Row). Tells passes ts [] r.word) 8 h row blank (told ts) none in
            let on_track : Tells passes ts [] (word_of rows t h) =
            subst (λ (l : List TrackRows). Tells passes ts [] (word_in (get_or l t no_heads) h)) (sym tracks)
            (at_each (λ (r : TrackRows). Tells passes ts [] (word_in r h)) 8 t (record { heads = replicate 8 row }) no_heads on_head none) in
            subst (λ (l : List SignatureRows). Tells passes ts [] (word_of (get_or l p no_tracks) t h)) (sym whole)
            (at_each (λ (r : SignatureRows). Tells passes ts [] (word_of r t h)) 12 p rows no_tracks on_track none);
      }

  -- one frame more
  pub agrees_more : (entries : List Entry) (store : List T) (frame : List R) (old new : Bank) (run : List (List R)) → ((p : ℕ) (e : Entry) → p < 12 → slice_get entries p ≡ Some e → SignatureStepped passes store e frame (get_or old.signatures p no_tracks) (get_or new.signatures p no_tracks)) → Fitted (length frame) (map (signature_said store) entries) → Stored entries store → Agrees passes (length frame) (map (signature_said store) entries) run old → Agrees passes (length frame) (map (signature_said store) entries) (frame ∷ run) new
  agrees_more entries store frame old new run step fitted stored agrees =
      record {
        tells = λ p s at t h lt lh.
            let said = nth_map (signature_said store) entries p s at in
            let e = said.0 in
            let is : signature_said store e ≡ s = said.2 in
            let x = there frame h lh in
            let fits : SignatureFitted s = each_at SignatureFitted (map (signature_said store) entries) p s fitted.each at in
            let below : p < 12 = omega (arith, nth_below (map (signature_said store) entries) p s at, fitted.few_signatures) in
            let tracks : length s.tracks ≡ e.tracks = ap (λ (z : Signature T). length z.tracks) (sym is) ∙ pieces_count e.frames e.tracks _ in
            let stepped = (step p e below said.1).each (each_at (λ d. d.first + d.tracks * d.frames ≤ length store) entries p e stored said.1) t h x.0 (omega arith) (omega (arith, fits.few_tracks)) (omega (arith, fitted.few_heads)) x.1 in
            let long : length (get_or s.tracks t []) ≤ 64 = omega (arith, track_long s t fits lt, fits.few_frames) in
            let told : Tells passes (get_or (signature_said store e).tracks t []) (history h run) (word_at old p t h) =
            subst (λ (z : Signature T). Tells passes (get_or z.tracks t []) (history h run) (word_at old p t h)) (sym is) (agrees.tells p s at t h lt lh) in
            let more : Tells passes (get_or (signature_said store e).tracks t []) (x.0 ∷ history h run) (word_at new p t h) =
            stepped.tells (subst (λ (z : Signature T). length (get_or z.tracks t []) ≤ 64) (sym is) long) (history h run) told in
            let more' : Tells passes (get_or s.tracks t []) (x.0 ∷ history h run) (word_at new p t h) =
            subst (λ (z : Signature T). Tells passes (get_or z.tracks t []) (x.0 ∷ history h run) (word_at new p t h)) is more in
            subst (λ (hist : List R). Tells passes (get_or s.tracks t []) hist (word_at new p t h)) (sym (history_more h frame run x.0 x.1)) more';
      }
