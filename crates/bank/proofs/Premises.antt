-- The premises hold of a plan's entries over a store that is long enough for them. Assumes nothing.
use Rattle.std.proofs.Common.{◌≡◌, ℕ, zero, suc, ◌+◌, ◌*◌, ◌≤◌, List, [], ◌∷◌, map, length, drop, suc-mul, arith}
use Rattle.std.proofs.lemmas.List.{length-take-le, length-drop, length-map}
use Rattle.sheet.specs.declared.entry.Entry.{Entry}
use Rattle.sheet.specs.Plans.{EntryWithin}
use Rattle.sheet.specs.Said.{pieces, signature_said}
use Rattle.sheetfile.specs.Limits.{most_heads, most_signatures}
use Rattle.sheetfile.specs.Sheets.{Each}
use Rattle.bank.specs.Agreement.{SignatureFitted, Fitted, Stored}
use Rattle.sheet.proofs.Cuts.{pieces_count}

module _ {T : Type 0} where
  -- pieces of a list that is long enough are all of the same length
  pieces_even : (m n : ℕ) (ts : List T) → n * m ≤ length ts → Each (λ piece. length piece ≡ m) (pieces m n ts)
  unfolding pieces
  pieces_even m zero ts l = tt
  pieces_even m (suc n) ts l = (length-take-le m ts (omega (arith, suc-mul n m)), pieces_even m n (drop m ts) (omega (arith, suc-mul n m, length-drop m ts)))

  module _ (heads : ℕ) (few : heads ≤ most_heads) (store : List T) where
    entry_fitted : (e : Entry) → EntryWithin heads e → e.first + e.tracks * e.frames ≤ length store → SignatureFitted (signature_said store e)
    entry_fitted e w l =
        let count = pieces_count e.frames e.tracks (drop e.first store) in
        record {
          regular = record {
            some_tracks = omega (arith, count, w.some_tracks);
            some_frames = w.some_frames;
            even = pieces_even e.frames e.tracks (drop e.first store) (omega (arith, length-drop e.first store));
          };
          few_tracks = omega (arith, count, w.few_tracks);
          few_frames = w.few_frames;
        }

    each_fitted : (entries : List Entry) → Each (EntryWithin heads) entries → Stored entries store → Each SignatureFitted (map (signature_said store) entries)
    each_fitted [] w l = tt
    each_fitted (e ∷ entries) w l = (entry_fitted e w.0 l.0, each_fitted entries w.1 l.1)

    pub fitted_said : (entries : List Entry) → length entries ≤ most_signatures → Each (EntryWithin heads) entries → Stored entries store → Fitted heads (map (signature_said store) entries)
    fitted_said entries short w l =
        record { few_heads = few; few_signatures = omega (arith, length-map entries (signature_said store)); each = each_fitted entries w l }
