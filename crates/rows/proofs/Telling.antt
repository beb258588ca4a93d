-- What a row tells: before any reading, after one more, and of the whole match.
use Rattle.std.proofs.Common.{◌≡◌, ℕ, zero, suc, ◌+◌, ◌-◌, ◌<◌, ◌≤◌, Bool, false, ◌&&◌, List, [], ◌∷◌, length, get_or, take, Some, sym, ap, ◌∙◌, add-one, arith}
use mathlib.Core.Bool.{and-false}
use Rattle.std.specs.List.{slice_get}
use Rattle.std.proofs.lemmas.List.{length-take, take_more, take_all}
use Rattle.std.proofs.lemmas.Option.{slice_get-get_or, slice_get_past}
use Rattle.rows.specs.Bits.{bit}
use Rattle.rows.specs.Matches.{is_some_and, passed_last, Tells}
use Rattle.rows.proofs.Bits.{bit_none}
use Rattle.rows.proofs.Histories.{passed_none, passed_push}
use Rattle.rows.proofs.Trying.{stepped}

module _ {T R : Type 0} (passes : T → R → Bool) where
  -- The word 0 tells that nothing is begun.
  pub tells_none : (tests : List T) → Tells passes tests [] 0
  tells_none tests =
      record {
        begun = λ i h. bit_none i ∙ sym (passed_none passes (take (i + 1) tests) (simp length-take (omega arith)));
        no_more = λ i h. bit_none i;
      }

  -- the test at a place, against the reading
  abbrev pub tried : List T → R → ℕ → Bool
  tried tests r i = is_some_and (λ t. passes t r) (slice_get tests i)

  pub tried_at : (tests : List T) (r : R) (i : ℕ) (t : T) → i < length tests → t ≡ get_or tests i t → tried tests r i ≡ passes t r
  tried_at tests r i t h is = ap (is_some_and (λ t. passes t r)) (slice_get-get_or tests i t h ∙ ap Some (sym is))

  pub tried_past : (tests : List T) (r : R) (i : ℕ) → length tests ≤ i → tried tests r i ≡ false
  tried_past tests r i h = ap (is_some_and (λ t. passes t r)) (slice_get_past tests i h)

  some_test : (tests : List T) (i : ℕ) → i < length tests → T
  some_test [] i h = absurd (omega arith)
  some_test (t ∷ ts) i h = t

  -- One reading more.
  pub tells_more : (tests : List T) (history : List R) (r : R) (word next : ℕ) → Tells passes tests history word
      → ((i : ℕ) → bit i next ≡ stepped (tried tests r) word i) → Tells passes tests (r ∷ history) next
  tells_more tests history r word next told bits = record { begun = begun'; no_more = no_more' }
    where
      test_at : (i : ℕ) (d : T) → i < length tests → tried tests r i ≡ passes (get_or tests i d) r
      test_at i d h = ap (is_some_and (λ t. passes t r)) (slice_get-get_or tests i d h)

      row_at : (i : ℕ) (d : T) → i < length tests
          → passed_last passes (take (i + 1) tests) (r ∷ history) ≡ (passed_last passes (take i tests) history && passes (get_or tests i d) r)
      row_at i d h = ap (λ l. passed_last passes l (r ∷ history)) (take_more tests i d h) ∙ passed_push passes (take i tests) (get_or tests i d) r history

      begun' : (i : ℕ) → i < length tests → bit i next ≡ passed_last passes (take (i + 1) tests) (r ∷ history)
      begun' zero h = let d = some_test tests 0 h in bits 0 ∙ test_at 0 d h ∙ sym (row_at 0 d h)
      begun' (suc i) h =
          let d = some_test tests (suc i) h in
          bits (suc i)
          ∙ ap (λ b. b && tried tests r (suc i)) (told.begun i (omega arith) ∙ ap (λ n. passed_last passes (take n tests) history) (add-one i))
          ∙ ap (λ b. passed_last passes (take (suc i) tests) history && b) (test_at (suc i) d h)
          ∙ sym (row_at (suc i) d h)

      no_more' : (i : ℕ) → length tests ≤ i → bit i next ≡ false
      no_more' zero h = bits 0 ∙ tried_past tests r 0 h
      no_more' (suc i) h = bits (suc i) ∙ ap (λ b. bit i word && b) (tried_past tests r (suc i) h) ∙ and-false _

  -- The bit of the last test tells of the whole match.
  pub tells_whole : (tests : List T) (history : List R) (word frames : ℕ) → 1 ≤ length tests → frames ≡ length tests
      → Tells passes tests history word → bit (frames - 1) word ≡ passed_last passes tests history
  tells_whole tests history word frames some same told =
      told.begun (frames - 1) (omega arith)
      ∙ ap (λ l. passed_last passes l history) (take_all (frames - 1 + 1) tests (omega arith))
