-- The latest reports in a ring, and the lines of reports: some, and then more. Assumes nothing.
use Rattle.std.proofs.Common.{◌≡◌, ℕ, zero, suc, ◌≤◌, List, [], ◌∷◌, ◌++◌, map, reverse, take, sym, refl, ap, ◌∙◌, arith}
use Rattle.std.proofs.lemmas.List.{append_assoc, reverse-append, take-take, take-map}
use Rattle.lines.specs.Lines.{Report, report_line, report_lines}
use Rattle.ring.specs.declared.Ring.{Ring}
use Rattle.ring.specs.Rings.{holds}
use Rattle.listing.specs.declared.report.Report.{Report as KeptReport}
use Rattle.listing.specs.declared.reporting.Listing.{Listing}
use Rattle.listing.specs.Listed.{Lists}
use Rattle.listing.specs.Kept.{report_of, reports_in, Adds}

pub lines_append : (rs qs : List Report) → report_lines (rs ++ qs) ≡ report_lines rs ++ report_lines qs
lines_append [] qs = refl
lines_append (r ∷ rs) qs = ap (λ xs. report_line r ++ xs) (lines_append rs qs) ∙ sym (append_assoc (report_line r) (report_lines rs) (report_lines qs))

-- the first m of some, and of the first n of others behind them
take_behind : {X : Type 0} (m n : ℕ) (xs ys : List X) → m ≤ n → take m (xs ++ take n ys) ≡ take m (xs ++ ys)
take_behind m n [] ys l = take-take m n ys l
take_behind zero n (x ∷ xs) ys l = refl
take_behind (suc m) n (x ∷ xs) ys l = ap (λ zs. x ∷ zs) (take_behind m n xs ys (omega arith))

pub adds_one : (item : KeptReport) (old new : Ring KeptReport) → new.capacity ≡ old.capacity → (holds new ≡ take old.capacity (item ∷ holds old)) → Adds (report_of item ∷ []) old new
adds_one item old new same keeps =
    record { capacity = same; holds_are = ap (map report_of) keeps ∙ sym (take-map report_of old.capacity (item ∷ holds old)) }

pub adds_more : (rs qs : List Report) (a b c : Ring KeptReport) → Adds rs a b → Adds qs b c → Adds (rs ++ qs) a c
adds_more rs qs a b c one two =
    record {
      capacity = two.capacity ∙ one.capacity;
      holds_are =
          let n = a.capacity in
          two.holds_are
          ∙ ap (λ m. take m (reverse qs ++ reports_in b)) one.capacity
          ∙ ap (λ xs. take n (reverse qs ++ xs)) one.holds_are
          ∙ take_behind n n (reverse qs) (reverse rs ++ reports_in a) (omega arith)
          ∙ ap (take n) (sym (append_assoc (reverse qs) (reverse rs) (reports_in a)))
          ∙ ap (λ xs. take n (xs ++ reports_in a)) (sym (reverse-append rs qs));
    }

-- reports that a listing gains: some, and then more
pub lists_more : (rs qs : List Report) (a b c : Listing) → Lists rs a b → Lists qs b c → Lists (rs ++ qs) a c
lists_more rs qs a b c one two =
    record {
      wrote = two.wrote ∙ ap (λ xs. xs ++ report_lines qs) one.wrote ∙ append_assoc a.lines.items (report_lines rs) (report_lines qs) ∙ ap (λ xs. a.lines.items ++ xs) (sym (lines_append rs qs));
      added = adds_more rs qs a.latest b.latest c.latest one.added two.added;
    }
