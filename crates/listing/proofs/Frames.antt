-- The reports at a frame, one signature more at a time. Assumes the laws of verdicts.
use Rattle.std.proofs.Common.{◌≡◌, ℕ, ◌+◌, ◌<◌, ◌≤◌, Bool, List, [], ◌∷◌, ◌++◌, length, get_or, take, Some, Result, sym, refl, ap, ◌∙◌, subst, arith}
use Rattle.std.specs.List.{slice_get}
use Rattle.std.proofs.lemmas.List.{append-nil, append_assoc, take_more, take_all, length-map, get_or-map}
use Rattle.std.proofs.lemmas.Option.{slice_get-get_or}
use Rattle.lines.specs.Lines.{Report}
use Rattle.runs.specs.Verdicts.{Verdict, verdict}
use Rattle.sheet.specs.declared.entry.Entry.{Entry}
use Rattle.sheet.specs.Said.{signature_said}
use Rattle.sheetfile.specs.Sheets.{Signature}
use Rattle.station.specs.Refusals.{Told}
use Rattle.station.specs.States.{State}
use Rattle.station.specs.Following.{Following}
use Rattle.station.specs.Promises.{Looks}
use Rattle.station.proofs.Law.{look_is}
use Rattle.listing.specs.declared.reporting.Listing.{Listing}
use Rattle.listing.specs.Listed.{Lists}
use Rattle.listing.specs.Reports.{reported, at_frame}
use Rattle.listing.specs.Kept.{looked}
use Rattle.listing.proofs.Kept.{lists_more}

module _ {T R : Type 0} (lawful : R → Bool) (passes : T → R → Bool) where
  frame_append : (N : ℕ) (ss ts : List (Signature T)) (number : ℕ) (run : List (List R)) → at_frame passes N (ss ++ ts) number run ≡ at_frame passes N ss number run ++ at_frame passes N ts number run
  frame_append N [] ts number run = refl
  frame_append N (g ∷ ss) ts number run =
      ap (λ rs. reported number g.name (verdict passes N g run) ++ rs) (frame_append N ss ts number run)
      ∙ sym (append_assoc (reported number g.name (verdict passes N g run)) (at_frame passes N ss number run) (at_frame passes N ts number run))

  module _ (s : State T R) (number : ℕ) (old : Listing) where
    -- after the first i signatures
    pub record FrameTurn (i : ℕ) (new : Listing) : Type 0 where
      pub lists : (N : ℕ) (sheet : List (Signature T)) (run : List (List R)) → Following lawful passes N sheet run s → Lists (at_frame passes N (take i sheet) number run) old new

    module _ {i : ℕ} {new : Listing} (t : FrameTurn i new) (l : i < length s.entries) (e : Entry) (at : e ≡ get_or s.entries i e)
        (a : Result Verdict Told) (look : Looks lawful passes s i a) (next : Listing) (adds : Lists (looked number e.name a) new next) where
      module _ (N : ℕ) (sheet : List (Signature T)) (run : List (List R)) (h : Following lawful passes N sheet run s) where
        abbrev g : Signature T
        g = signature_said s.tests e

        long : i < length sheet
        long = omega (arith, l, length-map s.entries (signature_said s.tests), ap length h.sheet_is)

        item : get_or sheet i g ≡ g
        item = ap (λ ss. get_or ss i g) (sym h.sheet_is) ∙ get_or-map (signature_said s.tests) s.entries i e g l ∙ ap (signature_said s.tests) (sym at)

        there : slice_get sheet i ≡ Some g
        there = slice_get-get_or sheet i g long ∙ ap Some item

        -- what this signature reports
        here : looked number e.name a ≡ reported number g.name (verdict passes N g run)
        here = ap (looked number e.name) (look_is lawful passes N sheet run s h i g there a look)

        -- the reports of one signature more
        one_more : at_frame passes N (take (i + 1) sheet) number run ≡ at_frame passes N (take i sheet) number run ++ looked number e.name a
        one_more =
            ap (λ ss. at_frame passes N ss number run) (take_more sheet i g long ∙ ap (λ x. take i sheet ++ x ∷ []) item)
            ∙ frame_append N (take i sheet) (g ∷ []) number run
            ∙ ap (λ rs. at_frame passes N (take i sheet) number run ++ rs) (append-nil (reported number g.name (verdict passes N g run)) ∙ sym here)

      pub frame_again : FrameTurn (i + 1) next
      frame_again =
          record {
            lists = λ N sheet run h.
                subst (λ (rs : List Report). Lists rs old next) (sym (one_more N sheet run h)) (lists_more (at_frame passes N (take i sheet) number run) (looked number e.name a) old new next (t.lists N sheet run h) adds);
          }

    module _ {i : ℕ} {new : Listing} (t : FrameTurn i new) (l : length s.entries ≤ i)
        (N : ℕ) (sheet : List (Signature T)) (run : List (List R)) (h : Following lawful passes N sheet run s) where
      all : take i sheet ≡ sheet
      all = take_all i sheet (omega (arith, l, length-map s.entries (signature_said s.tests), ap length h.sheet_is))

      pub frame_end : Lists (at_frame passes N sheet number run) old new
      frame_end = subst (λ (ss : List (Signature T)). Lists (at_frame passes N ss number run) old new) all (t.lists N sheet run h)
