-- What the rows of a signature show in a bank that agrees with a run. Assumes nothing.
use Rattle.std.proofs.Common.{◌≡◌, ℕ, ◌≤◌, ◌<◌, Bool, false, List, [], length, get_or, Some, None, Option, sym, subst, ◌∙◌, arith, MatchOption}
use Rattle.std.specs.List.{slice_get}
use Rattle.std.proofs.lemmas.List.{get_or_default}
use Rattle.matching.specs.Limits.{most_tracks, most_heads}
use Rattle.matching.specs.Meaning.{AsSaid}
use Rattle.matching.specs.declared.fits.Fits.{Fits}
use Rattle.rows.proofs.Bits.{bit_none}
use Rattle.rows.proofs.Telling.{tells_whole}
use Rattle.runs.specs.Frames.{history}
use Rattle.runs.specs.Verdicts.{fits}
use Rattle.sheetfile.specs.Sheets.{Signature}
use Rattle.bank.specs.declared.signature_rows.SignatureRows.{SignatureRows}
use Rattle.bank.specs.declared.Bank.{Bank}
use Rattle.bank.specs.Words.{no_tracks, word_of}
use Rattle.bank.specs.Agreement.{Agrees, Fitted, SignatureFitted}
use Rattle.bank.specs.Tables.{Shows, FitsShown}
use Rattle.bank.proofs.Items.{each_at}
use Rattle.bank.proofs.Agreeing.{track_long}

-- a word with no bit set shows that no match is complete
pub shows_none : {T R : Type 0} (passes : T → R → Bool) (frames : ℕ) → Shows passes frames 0 false
shows_none passes frames =
    record { is = λ tests history some few same told. sym (bit_none _) ∙ tells_whole passes tests history 0 frames some same told }

module _ {T R : Type 0} (passes : T → R → Bool) (position heads : ℕ) (bank : Bank) (signatures : List (Signature T)) (run : List (List R)) (s : Signature T) (fitted : Fitted heads signatures) (at : slice_get signatures position ≡ Some s) (agrees : Agrees passes heads signatures run bank) where
  pub fitted_here : SignatureFitted s
  fitted_here = each_at SignatureFitted signatures position s fitted.each at

  -- what rows show is what the run tells
  pub fits_told : (frames : ℕ) (f : Fits) → frames ≡ s.frames → AsSaid (λ t h flag. Shows passes frames (word_of (get_or bank.signatures position no_tracks) t h) flag) (length s.tracks) heads f
      → FitsShown (length s.tracks) heads (fits passes s run) f
  fits_told frames f same said =
      record {
        same_tracks = said.same_tracks;
        same_heads = said.same_heads;
        each = λ t h lt lh.
            let size : length (get_or s.tracks t []) ≡ s.frames = track_long s t fitted_here lt in
            (said.each t h lt lh).is (get_or s.tracks t []) (history h run) (omega (arith, fitted_here.regular.some_frames)) (omega (arith, fitted_here.few_frames)) (same ∙ sym size)
            (agrees.tells position s at t h lt lh);
      }

  -- the same of what comes of the rows that the code reads
  pub answer_told : (frames tracks : ℕ) (rows d : SignatureRows) (r : Option Fits) → frames ≡ s.frames → tracks ≡ length s.tracks → position < length bank.signatures → rows ≡ get_or bank.signatures position d
      → MatchOption r (tracks ≤ most_tracks → heads ≤ most_heads → ⊥) (AsSaid (λ t h flag. Shows passes frames (word_of rows t h) flag) tracks heads)
      → MatchOption r ⊥ (FitsShown (length s.tracks) heads (fits passes s run))
  answer_told frames tracks rows d None same many l is never = never (omega (arith, fitted_here.few_tracks)) (omega (arith, fitted.few_heads))
  answer_told frames tracks rows d (Some f) same many l is said =
      fits_told frames f same
      (subst (λ (n : ℕ). AsSaid (λ t h flag. Shows passes frames (word_of (get_or bank.signatures position no_tracks) t h) flag) n heads f) many
      (subst (λ (x : SignatureRows). AsSaid (λ t h flag. Shows passes frames (word_of x t h) flag) tracks heads f) (is ∙ get_or_default bank.signatures position d no_tracks l) said))
