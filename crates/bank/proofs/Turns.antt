-- One frame more over heads, tracks and entries. Assumes nothing.
use Rattle.std.proofs.Common.{◌≡◌, ℕ, ◌<◌, [], Bool, List, length, get_or, Some, subst, refl, ◌∙◌}
use Rattle.std.specs.List.{slice_get}
use Rattle.std.proofs.lemmas.Option.{slice_get_read}
use Rattle.std.proofs.lemmas.List.{get_or_default}
use Rattle.rows.specs.declared.Row.{Row}
use Rattle.sheet.specs.declared.entry.Entry.{Entry}
use Rattle.sheet.specs.Said.{signature_said}
use Rattle.sheet.specs.TrackParts.{track_of}
use Rattle.bank.specs.declared.track_rows.TrackRows.{TrackRows}
use Rattle.bank.specs.declared.signature_rows.SignatureRows.{SignatureRows}
use Rattle.bank.specs.Words.{blank, no_heads}
use Rattle.bank.specs.Steps.{Stepped, TrackStepped, SignatureStepped}
use Rattle.sheet.proofs.Cuts.{track_there}
use Rattle.bank.proofs.Items.{same_item}
use Rattle.bank.proofs.Moves.{Moved}

module _ {T R : Type 0} (passes : T → R → Bool) where
  -- what the row of a head has gone through
  abbrev pub HeadRule : List T → List R → ℕ → Row → Row → Type 0
  HeadRule tests frame h old new = (x : R) → slice_get frame h ≡ Some x → Stepped passes tests x old.word new.word

  -- all heads that have a reading
  pub track_end : (tests : List T) (frame : List R) (n : ℕ) (old new : TrackRows) → Moved (HeadRule tests frame) blank n old.heads new.heads
      → ((h : ℕ) (x : R) → h < 8 → slice_get frame h ≡ Some x → h < n) → TrackStepped passes tests frame old new
  track_end tests frame n old new m all = record { each = λ h x l at. m.done h (all h x l at) x at }

  -- the reading that the code reads
  pub head_turn : (tests : List T) (frame : List R) (h : ℕ) (r d : R) (old new : Row) → h < length frame → r ≡ get_or frame h d → Stepped passes tests r old.word new.word → HeadRule tests frame h old new
  head_turn tests frame h r d old new l is s x at =
      subst (λ (y : R). Stepped passes tests y old.word new.word) (same_item frame h r x (slice_get_read frame (length frame) h r refl l (is ∙ get_or_default frame h d r l)) at) s

  -- what the rows of a track have gone through
  abbrev pub TrackRule : List T → Entry → List R → ℕ → TrackRows → TrackRows → Type 0
  TrackRule store e frame t old new = (tests : List T) → track_of e t store ≡ Some tests → TrackStepped passes tests frame old new

  -- the tests that the code finds for a track
  pub track_turn : (store : List T) (e : Entry) (frame : List R) (t : ℕ) (tests : List T) {old new : TrackRows} → Some tests ≡ track_of e t store → TrackStepped passes tests frame old new → TrackRule store e frame t old new
  track_turn store e frame t tests {old = old} {new = new} is s found at = let same : tests ≡ found = cc in subst (λ (ts : List T). TrackStepped passes ts frame old new) same s

  -- all tracks
  pub signature_end : (store : List T) (e : Entry) (frame : List R) (n : ℕ) (old new : SignatureRows)
      → Moved (TrackRule store e frame) no_heads n old.tracks new.tracks → ((t : ℕ) (tests : List T) → t < 8 → track_of e t store ≡ Some tests → t < n) → SignatureStepped passes store e frame old new
  signature_end store e frame n old new m all =
      record {
        each = λ stored t h x lt ft fh at.
            let tests = get_or (signature_said store e).tracks t [] in
            let found = track_there e t store lt stored in
            (m.done t (all t tests ft found) tests found).each h x fh at;
      }

  -- what the rows of a signature have gone through, by its position
  abbrev pub EntryRule : List T → List Entry → List R → ℕ → SignatureRows → SignatureRows → Type 0
  EntryRule store entries frame p old new = (e : Entry) → slice_get entries p ≡ Some e → SignatureStepped passes store e frame old new

  -- the entry that the code reads
  pub entry_turn : (store : List T) (entries : List Entry) (frame : List R) (p : ℕ) (e d : Entry) {old new : SignatureRows} → p < length entries → e ≡ get_or entries p d → SignatureStepped passes store e frame old new → EntryRule store entries frame p old new
  entry_turn store entries frame p e d {old = old} {new = new} l is s e' at =
      subst (λ (x : Entry). SignatureStepped passes store x frame old new) (same_item entries p e e' (slice_get_read entries (length entries) p e refl l (is ∙ get_or_default entries p d e l)) at) s
