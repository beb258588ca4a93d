-- What a plan keeps, and the sheet that it says. Assumes the laws of the kind.
use Rattle.std.proofs.Common.{◌≡◌, ℕ, ◌+◌, ◌-◌, ◌≤◌, List, [], ◌∷◌, ◌++◌, map, length, take, drop, replicate, sym, refl, ap, ◌∙◌, ⊎_elim, arith}
use mathlib.Core.Logic.{∥∥₁_elim}
use mathlib.Core.HLevel.{⊥_prop}
use Rattle.std.specs.List.{flat_map}
use Rattle.std.proofs.lemmas.Bool.{cases_lt}
use Rattle.std.proofs.lemmas.List.{append_assoc, drop-drop, take_at, drop_at}
use Rattle.kinds.specs.Codings.{Coding, Lawful}
use Rattle.kinds.specs.Kinds.{most_test_width}
use Rattle.sheetfile.specs.Limits.{most_heads, most_signatures}
use Rattle.sheetfile.specs.Sheets.{Signature, Sheet, Each, SignatureWithin, Within, test_count, all_tests, tests_of, TrackWithin}
use Rattle.sheetfile.proofs.Back.{tests_long}
use Rattle.sheet.specs.declared.entry.Entry.{Entry}
use Rattle.sheet.specs.declared.plan.Plan.{Plan}
use Rattle.sheet.specs.Stored.{put}
use Rattle.sheet.specs.Entries.{entries_of}
use Rattle.sheet.specs.Plans.{blank, Kept}
use Rattle.sheet.specs.Filled.{SaysSheet}
use Rattle.sheet.specs.Said.{pieces, signature_said, said}

-- an entry whose figures are all 0 is the blank one
pub blank_is : (e : Entry) → (e.name ≡ 0) × ((e.tracks ≡ 0) × ((e.frames ≡ 0) × (e.first ≡ 0))) → e ≡ blank
blank_is e h =
    ap (λ v. record { name = v; tracks = e.tracks; frames = e.frames; first = e.first }) h.0
    ∙ ap (λ v. record { name = 0; tracks = v; frames = e.frames; first = e.first }) h.1.0
    ∙ ap (λ v. record { name = 0; tracks = 0; frames = v; first = e.first }) h.1.1.0
    ∙ ap (λ v. record { name = 0; tracks = 0; frames = 0; first = v }) h.1.1.1

-- a plan has at most as many entries as there may be signatures
pub few_entries : (code heads count : ℕ) (entries : List Entry) → Kept code heads count entries → count ≤ most_signatures
few_entries code heads count entries kept =
    ⊎_elim
    (λ more. absurd (∥∥₁_elim kept ⊥_prop (⊎_elim (λ e. omega (arith, e.no_entries)) (λ l. omega (arith, l.few_entries)))))
    (λ few. few)
    (cases_lt most_signatures count)

-- and at most as many heads as a line may have
pub few_heads : (code heads count : ℕ) (entries : List Entry) → Kept code heads count entries → heads ≤ most_heads
few_heads code heads count entries kept =
    ⊎_elim
    (λ more. absurd (∥∥₁_elim kept ⊥_prop (⊎_elim (λ e. omega (arith, e.no_heads)) (λ l. omega (arith, l.few_heads)))))
    (λ few. few)
    (cases_lt most_heads heads)

module _ {T : Type 0} where
  -- what is joined is cut again into the same pieces
  pub pieces_joined : (m : ℕ) (tss : List (List T)) (more : List T) → Each (λ ts. length ts ≡ m) tss → pieces m (length tss) (flat_map (λ ts. ts) tss ++ more) ≡ tss
  unfolding pieces
  pieces_joined m [] more h = refl
  pieces_joined m (ts ∷ tss) more h =
      let rest = flat_map (λ us. us) tss ++ more in
      let whole : flat_map (λ us. us) (ts ∷ tss) ++ more ≡ ts ++ rest = append_assoc ts (flat_map (λ us. us) tss) more in
      ap (λ xs. take m xs ∷ pieces m (length tss) (drop m xs)) whole
      ∙ ap (λ xs. xs ∷ pieces m (length tss) (drop m (ts ++ rest))) (take_at ts rest m h.0)
      ∙ ap (λ xs. ts ∷ pieces m (length tss) xs) (drop_at ts rest m h.0)
      ∙ ap (λ xss. ts ∷ xss) (pieces_joined m tss more h.1)

module _ {T : Type 0} (k : Coding T) (law : Lawful most_test_width k) (heads : ℕ) where
  each_long : (m : ℕ) (tss : List (List T)) → Each (TrackWithin k m) tss → Each (λ ts. length ts ≡ m) tss
  each_long m [] h = tt
  each_long m (ts ∷ tss) h = (h.0.long, each_long m tss h.1)

  -- entries over a store that holds their tests say the signatures
  said_signatures : (store more : List T) (first : ℕ) (ss : List (Signature T)) → Each (SignatureWithin k heads) ss → drop first store ≡ all_tests ss ++ more → map (signature_said store) (entries_of first ss) ≡ ss
  said_signatures store more first [] h is = refl
  said_signatures store more first (s ∷ ss) h is =
      let m = s.frames in
      let later = all_tests ss ++ more in
      let here : drop first store ≡ tests_of s ++ later = is ∙ append_assoc (tests_of s) (all_tests ss) more in
      let cut : pieces m (length s.tracks) (drop first store) ≡ s.tracks = ap (pieces m (length s.tracks)) here ∙ pieces_joined m s.tracks later (each_long m s.tracks h.0.tracks) in
      let next : drop (first + test_count s) store ≡ later =
      sym (drop-drop (test_count s) first store)
      ∙ ap (drop (test_count s)) here
      ∙ drop_at (tests_of s) later (test_count s) (tests_long k law m s.tracks h.0.tracks) in
      ap (λ tss. record { name = s.name; frames = m; tracks = tss } ∷ map (signature_said store) (entries_of (first + test_count s) ss)) cut
      ∙ ap (λ rest. s ∷ rest) (said_signatures store more (first + test_count s) ss h.1 next)

module _ {T : Type 0} (code : ℕ) (k : Coding T) (law : Lawful most_test_width k) where
  -- the plan of a sheet, over a store that holds its tests, says that sheet
  pub said_sheet : (s : Sheet T) (p : Plan) (old new : List T) → Within code k s → SaysSheet s p → new ≡ put 0 (all_tests s.signatures) old → said p new ≡ s
  said_sheet s p old new w h is =
      let es = entries_of 0 s.signatures in
      let front : take p.count p.entries ≡ es = ap (λ xs. take p.count xs) h.entries_are ∙ take_at es (replicate (most_signatures - length es) blank) p.count (sym h.count_is) in
      let same : map (signature_said new) (take p.count p.entries) ≡ s.signatures =
      ap (map (signature_said new)) front ∙ said_signatures k law s.heads new (drop (0 + length (all_tests s.signatures)) old) 0 s.signatures w.signatures is in
      ap (λ c. record { code = c; heads = p.heads; signatures = map (signature_said new) (take p.count p.entries) }) h.code_is
      ∙ ap (λ n. record { code = s.code; heads = n; signatures = map (signature_said new) (take p.count p.entries) }) h.heads_is
      ∙ ap (λ ss. record { code = s.code; heads = s.heads; signatures = ss }) same
