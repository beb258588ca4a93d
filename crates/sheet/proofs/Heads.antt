-- Reading the head field: its checks one by one, and the plan of a sheet that was read. Assumes the laws of the kind.
use Rattle.std.proofs.Common.{◌≡◌, ℕ, suc, ◌+◌, ◌<◌, ◌≤◌, true, not, eqb, leb, List, [], ◌∷◌, ◌++◌, length, get_or, take, drop, replicate, Ok, Result, sym, refl, ap, ◌∙◌, subst, inr, arith}
use Rattle.std.specs.List.{flat_map}
use Rattle.std.proofs.lemmas.Bool.{ne_eqb, leb-true, and_parts, not_from_true}
use Rattle.std.proofs.lemmas.List.{length-drop, take_at, drop-replicate}
use Rattle.kinds.specs.Codings.{Coding, Lawful}
use Rattle.kinds.specs.Kinds.{most_test_width, Coded}
use Rattle.sheetfile.specs.declared.fault.Cause.TheVariants.{Length, Kind, Heads, Bare}
use Rattle.sheetfile.specs.declared.fault.Fault.{Fault}
use Rattle.sheetfile.specs.Card.{fault}
use Rattle.sheetfile.specs.Limits.{most_heads, most_signatures, within}
use Rattle.sheetfile.specs.Sheets.{Signature, Sheet, Each, SignatureWithin, Rising, test_count}
use Rattle.sheetfile.specs.Encoding.{signature_bytes}
use Rattle.sheetfile.specs.Outcomes.{Outcome, check, on, mapped, into}
use Rattle.sheetfile.specs.Reading.{field_read, signatures_read, rule}
use Rattle.sheetfile.proofs.Outcomes.{held, is_not, told_ok}
use Rattle.sheetfile.proofs.Only.{Bytes, bytes_drop, field_only, signatures_only}
use Rattle.sheet.specs.declared.entry.Entry.{Entry}
use Rattle.sheet.specs.declared.plan.Plan.{Plan}
use Rattle.sheet.specs.Stored.{put}
use Rattle.sheet.specs.Entries.{entries_of, EntriesLeft}
use Rattle.sheet.specs.Plans.{blank, EntryWithin, EntriesRise, Kept}
use Rattle.sheet.specs.Filled.{Made, PlanLeft}

-- a plan's entries, from the signatures they stand for
module _ {T : Type 0} (k : Coding T) where
  entries_within : (heads first : ℕ) (ss : List (Signature T)) → Each (SignatureWithin k heads) ss → Each (EntryWithin heads) (entries_of first ss)
  entries_within heads first [] h = tt
  entries_within heads first (s ∷ ss) h =
      (record { some_tracks = h.0.some_tracks; few_tracks = h.0.few_tracks; some_frames = h.0.some_frames; few_frames = h.0.few_frames }, entries_within heads (first + test_count s) ss h.1)

  entries_rise : (least first : ℕ) (ss : List (Signature T)) → Rising least ss → EntriesRise least first (entries_of first ss)
  entries_rise least first [] h = tt
  entries_rise least first (s ∷ ss) h = (h.0, refl, entries_rise (s.name + 1) (first + test_count s) ss h.1)

  entries_long : (first : ℕ) (ss : List (Signature T)) → length (entries_of first ss) ≡ length ss
  entries_long first [] = refl
  entries_long first (s ∷ ss) = ap suc (entries_long (first + test_count s) ss)

module _ {T : Type 0} (code : ℕ) (k : Coding T) (room : ℕ) (xs : List ℕ) where
  abbrev rest : List ℕ → Outcome T (List (Signature T))
  rest head = signatures_read k room (get_or head 1 0) most_signatures 0 0 5 (drop 5 xs)

  abbrev sheet : List ℕ → List (Signature T) → Sheet T
  sheet head = λ ss. record { code = get_or head 0 0; heads = get_or head 1 0; signatures = ss }

  -- a head that passes every check, and more bytes behind it
  module _ (head : List ℕ) (is : Ok head ≡ field_read 1 0 xs) (two : length head ≡ 2) (coded : get_or head 0 0 ≡ code) (few : within 1 most_heads (get_or head 1 0) ≡ true) (more : length xs ≡ 5 → ⊥) where
    abbrev read : Outcome T (List (Signature T))
    read = rest head

    all : rule code k room xs ≡ into (sheet head) read
    unfolding rule
    all =
        ap (λ r. on r (λ b.
        check (not (eqb (length b) 2)) (fault Length 0)
        (check (not (eqb (get_or b 0 0) code)) (fault Kind 3)
        (check (not (within 1 most_heads (get_or b 1 0))) (fault Heads 4)
        (check (eqb (length xs) 5) (fault Bare 5)
        (into (sheet b) (rest b))))))) (sym is)
        ∙ held _ _ _ (is_not (length head) 2 two)
        ∙ held _ _ _ (is_not (get_or head 0 0) code coded)
        ∙ held _ _ _ (not_from_true (within 1 most_heads (get_or head 1 0)) few)
        ∙ held _ _ _ (ne_eqb (length xs) 5 more)

    head_count : (1 ≤ get_or head 1 0) × (get_or head 1 0 ≤ most_heads)
    head_count = let p = and_parts (leb 1 (get_or head 1 0)) (leb (get_or head 1 0) most_heads) few in (leb-true 1 (get_or head 1 0) p.0, leb-true (get_or head 1 0) most_heads p.1)

    module _ {s new : List T} {entries : List Entry} (known : Coded code) (law : Lawful most_test_width k) (octets : Bytes xs) (count : ℕ) (empty : Entry) (is_blank : empty ≡ blank) (h : EntriesLeft (into (entries_of 0) read) s (replicate most_signatures empty) (Ok count) new entries) where
      found : (ss : List (Signature T)) × (read.end ≡ Ok ss) × (length (entries_of 0 ss) ≡ count) × (entries ≡ entries_of 0 ss ++ drop (length (entries_of 0 ss)) (replicate most_signatures blank))
      found =
          let q = told_ok length (mapped (entries_of 0) read.end) count h.read.answer in
          let p = told_ok (entries_of 0) read.end q.0 (sym q.1) in
          (p.0, p.1, ap length p.2 ∙ q.2, h.filled (entries_of 0 p.0) (ap (mapped (entries_of 0)) p.1) ∙ ap (λ e. entries_of 0 p.0 ++ drop (length (entries_of 0 p.0)) (replicate most_signatures e)) is_blank)

      front : take count entries ≡ entries_of 0 found.0
      front = ap (take count) found.3 ∙ take_at (entries_of 0 found.0) (drop (length (entries_of 0 found.0)) (replicate most_signatures blank)) count found.2

      some_signature : (ss : List (Signature T)) (ys : List ℕ) → ys ≡ flat_map (signature_bytes k) ss → 0 < length ys → 1 ≤ length ss
      some_signature [] ys e l = absurd (omega (arith, ap length e))
      some_signature (x ∷ ss) ys e l = omega arith

      pub rule_kept : Kept (get_or head 0 0) (get_or head 1 0) count entries
      rule_kept =
          let ss = found.0 in
          let only = signatures_only k law room (get_or head 1 0) most_signatures 0 0 5 (drop 5 xs) ss (bytes_drop 5 xs octets) found.1 in
          let f = field_only 1 0 xs head octets (sym is) in
          let more_bytes : 0 < length (drop 5 xs) = (let ne : length xs ≡ 5 → ⊥ = more in omega (arith, length-drop 5 xs, f.1, two, ne)) in
          let one = some_signature ss (drop 5 xs) only.bytes more_bytes in
          let long = entries_long k 0 ss in
          ∣ inr (record {
            coded = subst (λ (c : ℕ). Coded c) (sym coded) known;
            some_heads = head_count.0;
            few_heads = head_count.1;
            some_entries = omega (arith, found.2);
            few_entries = omega (arith, found.2, only.few);
            each = subst (λ (rs : List Entry). Each (EntryWithin (get_or head 1 0)) rs) (sym front) (entries_within k (get_or head 1 0) 0 ss only.within);
            rise = subst (λ (rs : List Entry). EntriesRise 0 0 rs) (sym front) (entries_rise k 0 0 ss only.rising);
          }) ∣₁

      pub rule_done : (p : Plan) → p.code ≡ get_or head 0 0 → p.heads ≡ get_or head 1 0 → p.count ≡ count → p.entries ≡ entries → PlanLeft (rule code k room xs) s (Ok p) new
      rule_done p a b c d =
          let ss = found.0 in
          let end : (rule code k room xs).end ≡ Ok (sheet head ss) = ap (λ o. o.end) all ∙ ap (mapped (sheet head)) found.1 in
          record {
            made = subst (λ (r : Result (Sheet T) Fault). Made r (Ok p)) (sym end) (record {
              code_is = a;
              heads_is = b;
              count_is = c ∙ sym found.2;
              entries_are = d ∙ found.3 ∙ ap (λ zs. entries_of 0 ss ++ zs) (drop-replicate (length (entries_of 0 ss)) most_signatures blank);
            });
            store_is = h.read.store_is ∙ ap (λ o. put 0 o.tests s) (sym all);
          }
