-- The sums of entries, and what a plan that is not empty keeps. Assumes nothing.
use Rattle.std.proofs.Common.{◌≡◌, ℕ, zero, suc, ◌+◌, ◌*◌, ◌≤◌, Bool, true, ◌&&◌, eqb, leb, List, [], ◌∷◌, map, length, sum_by, take, drop, refl, ap, ◌∙◌, ⊎_elim, suc-mul, arith}
use mathlib.Core.Bool.{Bool-set}
use mathlib.Core.Logic.{∥∥₁_elim}
use Rattle.std.proofs.lemmas.Bool.{eq-eqb, eqb-true, le-leb, leb-true, and_from, and_parts}
use Rattle.std.proofs.lemmas.List.{length-take-le, length-drop}
use Rattle.std.proofs.lemmas.List.Sums.{sum_by-cons}
use Rattle.sheet.specs.declared.entry.Entry.{Entry}
use Rattle.sheet.specs.Plans.{EntryWithin, EntriesRise, Kept}
use Rattle.sheet.specs.Said.{pieces, signature_said}
use Rattle.sheetfile.specs.Limits.{most_heads, most_frames, most_signatures, least_frames}
use Rattle.sheetfile.specs.Sheets.{Each}
use Rattle.bank.specs.Agreement.{SignatureFitted, Stored}
use Rattle.station.specs.Making.{tests_in_entries}

-- the tests of entries, summed in their order
pub tests_summed : (es : List Entry) → sum_by (λ e. e.tracks * e.frames) es ≡ tests_in_entries es
tests_summed [] = refl
tests_summed (e ∷ es) = sum_by-cons (λ e. e.tracks * e.frames) e es ∙ ap (λ n. e.tracks * e.frames + n) (tests_summed es)

-- the limits of entries as a test, in which their tests follow one another from `first` on
abbrev pub entry_fine : ℕ → ℕ → Entry → Bool
entry_fine heads first e = leb 1 e.tracks && (leb e.tracks heads && (leb least_frames e.frames && (leb e.frames most_frames && eqb e.first first)))

abbrev pub entries_fine : ℕ → ℕ → List Entry → Bool
entries_fine heads first [] = true
entries_fine heads first (e ∷ es) = entry_fine heads first e && entries_fine heads (first + e.tracks * e.frames) es

abbrev pub plan_fine : ℕ → ℕ → List Entry → Bool
plan_fine heads count entries = leb heads most_heads && (leb count most_signatures && entries_fine heads 0 (take count entries))

fine_entries : (heads least first : ℕ) (es : List Entry) → Each (EntryWithin heads) es → EntriesRise least first es → entries_fine heads first es ≡ true
fine_entries heads least first [] each rise = refl
fine_entries heads least first (e ∷ es) each rise =
    let w = each.0 in
    and_from _ _
    (and_from _ _ (le-leb 1 e.tracks w.some_tracks) (and_from _ _ (le-leb e.tracks heads w.few_tracks) (and_from _ _ (le-leb least_frames e.frames w.some_frames) (and_from _ _ (le-leb e.frames most_frames w.few_frames) (eq-eqb e.first first rise.1)))))
    (fine_entries heads (e.name + 1) (first + e.tracks * e.frames) es each.1 rise.2)

-- a plan that is not empty is fine
pub kept_fine : (code heads count : ℕ) (entries : List Entry) → Kept code heads count entries → (count ≡ 0 → ⊥) → plan_fine heads count entries ≡ true
kept_fine code heads count entries kept some =
    ∥∥₁_elim kept (Bool-set (plan_fine heads count entries) true)
    (⊎_elim (λ e. absurd (some e.no_entries))
    (λ l. and_from _ _ (le-leb heads most_heads l.few_heads) (and_from _ _ (le-leb count most_signatures l.few_entries) (fine_entries heads 0 0 (take count entries) l.each l.rise))))

-- and so within the limits of a station
module _ {T : Type 0} (store : List T) where
  pieces_even : (m n : ℕ) (ts : List T) → n * m ≤ length ts → Each (λ xs. length xs ≡ m) (pieces m n ts)
  unfolding pieces
  pieces_even m zero ts l = tt
  pieces_even m (suc n) ts l = (length-take-le m ts (omega (arith, suc-mul n m)), pieces_even m n (drop m ts) (omega (arith, suc-mul n m, length-drop m ts)))

  pieces_count : (m n : ℕ) (ts : List T) → length (pieces m n ts) ≡ n
  unfolding pieces
  pieces_count m zero ts = refl
  pieces_count m (suc n) ts = ap suc (pieces_count m n (drop m ts))

  -- what is to be shown of each entry and of the signature that it says
  pub record Fine (heads : ℕ) (es : List Entry) : Type 0 where
    pub stored : Stored es store
    pub fitted : Each SignatureFitted (map (signature_said store) es)
    pub few_tracks : Each (λ g. length g.tracks ≤ heads) (map (signature_said store) es)
    pub count : length (map (signature_said store) es) ≡ length es

  pub fine : (heads first : ℕ) (es : List Entry) → heads ≤ most_heads → entries_fine heads first es ≡ true → first + tests_in_entries es ≤ length store → Fine heads es
  fine heads first [] few ok room = record { stored = tt; fitted = tt; few_tracks = tt; count = refl }
  fine heads first (e ∷ es) few ok room =
      let both = and_parts (entry_fine heads first e) (entries_fine heads (first + e.tracks * e.frames) es) ok in
      let a = and_parts (leb 1 e.tracks) _ both.0 in
      let b = and_parts (leb e.tracks heads) _ a.1 in
      let c = and_parts (leb least_frames e.frames) _ b.1 in
      let d = and_parts (leb e.frames most_frames) (eqb e.first first) c.1 in
      let at : e.first ≡ first = eqb-true e.first first d.1 in
      let some = leb-true 1 e.tracks a.0 in
      let less = leb-true e.tracks heads b.0 in
      let long = leb-true least_frames e.frames c.0 in
      let short = leb-true e.frames most_frames d.0 in
      let more = fine heads (first + e.tracks * e.frames) es few both.1 (omega arith) in
      let size = pieces_count e.frames e.tracks (drop e.first store) in
      record {
        stored = (omega arith, more.stored);
        fitted = (
          record {
            regular = record { some_tracks = omega arith; some_frames = long; even = pieces_even e.frames e.tracks (drop e.first store) (omega (arith, length-drop e.first store)) };
            few_tracks = omega arith;
            few_frames = short;
          },
          more.fitted,
        );
        few_tracks = (omega arith, more.few_tracks);
        count = ap suc more.count;
      }
