-- The fits that the tail shows. Assumes nothing.
use Rattle.std.proofs.Common.{◌≡◌, ℕ, zero, suc, ◌+◌, ◌-◌, ◌*◌, ◌<◌, ◌≤◌, Bool, true, false, ◌&&◌, List, [], ◌∷◌, length, get_or, drop, Some, None, Option, sym, refl, ap, ◌∙◌, subst, arith, MatchOption}
use Rattle.ring.specs.Rings.{holds}
use Rattle.std.specs.List.{slice_get}
use Rattle.std.proofs.lemmas.List.{drop_more, length-drop}
use Rattle.matching.specs.Meaning.{AsSaid}
use Rattle.matching.specs.declared.fits.Fits.{Fits}
use Rattle.rows.specs.Matches.{is_some_and, passed_last}
use Rattle.runs.specs.Frames.{history}
use Rattle.runs.specs.Theorems.{Full}
use Rattle.runs.specs.Verdicts.{fits}
use Rattle.runs.proofs.Histories.{there, history_more}
use Rattle.sheet.specs.declared.entry.Entry.{Entry}
use Rattle.sheetfile.specs.Limits.{most_heads}
use Rattle.sheet.specs.Said.{signature_said}
use Rattle.sheet.specs.TrackParts.{track_of}
use Rattle.sheet.proofs.Cuts.{track_there}
use Rattle.bank.specs.Tables.{FitsShown}
use Rattle.station.specs.declared.tail.Tail.{Tail}
use Rattle.station.specs.Frames.{back}
use Rattle.station.specs.Rechecks.{Passed, ToldFit}
use Rattle.station.specs.Tails.{frames_of}
use Rattle.station.proofs.Frames.{frames_full}

-- the readings of a head in full frames, by how far back they stand
history_back : {R : Type 0} (N h q : ℕ) (run : List (List R)) → h < N → Full N run → slice_get (history h run) q ≡ back run q h
history_back N h q [] l full = refl
history_back N h zero (f ∷ run) l full =
    let x = there f h (omega (arith, full.0)) in ap (λ xs. slice_get xs 0) (history_more h f run x.0 x.1) ∙ sym x.1
history_back N h (suc q) (f ∷ run) l full =
    let x = there f h (omega (arith, full.0)) in ap (λ xs. slice_get xs (suc q)) (history_more h f run x.0 x.1) ∙ history_back N h q run l full.1

module _ {T R : Type 0} (passes : T → R → Bool) (tail : Tail R) where
  module _ (tests : List T) (head : ℕ) where
    abbrev readings : List R
    readings = history head (frames_of tail)

    -- what is left to pass, after i tests
    pub record Left (i : ℕ) : Type 0 where
      pub same : head < tail.heads → passed_last passes tests readings ≡ passed_last passes (drop i tests) readings

    module _ (i : ℕ) (h : Left i) (l : i < length tests) (t : T) (at : t ≡ get_or tests i t) where
      -- the reading that this test looks at
      here : head < tail.heads → (o : Option R) → (head < tail.heads → o ≡ back (frames_of tail) (length tests - 1 - i) head)
          → passed_last passes tests readings ≡ (is_some_and (passes t) o && passed_last passes (drop (i + 1) tests) readings)
      here lh o is =
          let rest = drop (i + 1) tests in
          let size : length rest ≡ length tests - 1 - i = length-drop (i + 1) tests ∙ omega arith in
          let full = frames_full tail.heads tail.run (holds tail.readings) (omega (arith, tail.whole)) in
          let looked : slice_get readings (length rest) ≡ o = ap (slice_get readings) size ∙ history_back tail.heads head (length tests - 1 - i) (frames_of tail) lh full ∙ sym (is lh) in
          h.same lh
          ∙ ap (λ ts. passed_last passes ts readings) (drop_more tests i t l ∙ ap (λ u. u ∷ rest) (sym at))
          ∙ ap (λ x. is_some_and (passes t) x && passed_last passes rest readings) looked

      pub left_next : (r : R) (b : Bool) → (head < tail.heads → Some r ≡ back (frames_of tail) (length tests - 1 - i) head) → b ≡ passes t r → b ≡ true → Left (i + 1)
      left_next r b is test passed-it = record { same = λ lh. here lh (Some r) is ∙ ap (λ c. c && passed_last passes (drop (i + 1) tests) readings) (sym test ∙ passed-it) }

      pub left_missed : (r : R) (b : Bool) → (head < tail.heads → Some r ≡ back (frames_of tail) (length tests - 1 - i) head) → b ≡ passes t r → b ≡ false → Passed passes tail tests head false
      left_missed r b is test missed-it = record { is = λ lh. sym (here lh (Some r) is ∙ ap (λ c. c && passed_last passes (drop (i + 1) tests) readings) (sym test ∙ missed-it)) }

      pub left_absent : (head < tail.heads → None ≡ back (frames_of tail) (length tests - 1 - i) head) → Passed passes tail tests head false
      left_absent is = record { is = λ lh. sym (here lh None is) }

  -- the fits of a signature whose tests the store holds
  pub tail_shown : (store : List T) (e : Entry) (f : Fits) → e.first + e.tracks * e.frames ≤ length store → AsSaid (λ t h flag. ToldFit passes tail (track_of e t store) h flag) e.tracks tail.heads f
      → FitsShown e.tracks tail.heads (fits passes (signature_said store e) (frames_of tail)) f
  tail_shown store e f stored said =
      record {
        same_tracks = said.same_tracks;
        same_heads = said.same_heads;
        each = λ t h lt lh. ((said.each t h lt lh).of (get_or (signature_said store e).tracks t []) (track_there e t store lt stored)).is lh;
      }

  -- the same, where the code tells the heads, and there may be no table
  pub tail_told : (store : List T) (e : Entry) (heads : ℕ) (r : Option Fits) → heads ≡ tail.heads → e.first + e.tracks * e.frames ≤ length store
      → MatchOption r (e.tracks ≤ most_heads → heads ≤ most_heads → ⊥) (AsSaid (λ t h flag. ToldFit passes tail (track_of e t store) h flag) e.tracks heads)
      → MatchOption r (e.tracks ≤ most_heads → heads ≤ most_heads → ⊥) (FitsShown e.tracks tail.heads (fits passes (signature_said store e) (frames_of tail)))
  tail_told store e heads None same stored never = never
  tail_told store e heads (Some f) same stored said =
      tail_shown store e f stored (subst (λ (n : ℕ). AsSaid (λ t h flag. ToldFit passes tail (track_of e t store) h flag) e.tracks n f) same said)
