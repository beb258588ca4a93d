-- The readings of one head over full frames, and over paired runs. Assumes nothing.
use Rattle.std.proofs.Common.{◌≡◌, ℕ, zero, suc, ◌<◌, ◌≤◌, List, [], ◌∷◌, ◌++◌, length, take, Some, None, Option, sym, refl, ap, ◌∙◌, arith}
use Rattle.std.specs.Option.{option_to_list}
use Rattle.std.specs.List.{slice_get}
use Rattle.std.proofs.lemmas.List.{length-append}
use Rattle.runs.specs.Frames.{history}
use Rattle.runs.specs.Plugs.{Paired}
use Rattle.runs.specs.Theorems.{Full}

-- a place within a list holds something
pub there : {X : Type 0} (xs : List X) (i : ℕ) → i < length xs → (x : X) × (slice_get xs i ≡ Some x)
there [] i h = absurd (omega arith)
there (x ∷ xs) zero h = (x, refl)
there (x ∷ xs) (suc i) h = there xs i (omega arith)

few : {X : Type 0} (o : Option X) → length (option_to_list o) ≤ 1
few None = omega arith
few (Some x) = omega arith

module _ {R : Type 0} where
  -- a head has at most one reading in each frame
  pub history_short : (h : ℕ) (run : List (List R)) → length (history h run) ≤ length run
  history_short h [] = omega arith
  history_short h (f ∷ run) = omega (arith, length-append (option_to_list (slice_get f h)) (history h run), few (slice_get f h), history_short h run)

  -- one frame more, in which the head has a reading
  pub history_more : (h : ℕ) (f : List R) (run : List (List R)) (x : R) → slice_get f h ≡ Some x → history h (f ∷ run) ≡ x ∷ history h run
  history_more h f run x e = ap (λ o. option_to_list o ++ history h run) e

  -- over full frames the latest frames have the latest readings
  pub history_take : (N h n : ℕ) (run : List (List R)) → h < N → Full N run → history h (take n run) ≡ take n (history h run)
  history_take N h zero run l full = refl
  history_take N h (suc n) [] l full = refl
  history_take N h (suc n) (f ∷ run) l full =
      let x = there f h (omega (arith, full.0)) in
      history_more h f (take n run) x.0 x.1
      ∙ ap (λ xs. x.0 ∷ xs) (history_take N h n run l full.1)
      ∙ ap (take (suc n)) (sym (history_more h f run x.0 x.1))

  -- paired runs have the same latest readings, under the head's other name
  pub history_paired : (N : ℕ) (to : ℕ → ℕ) (h n : ℕ) (run other : List (List R)) → h < N → Paired N to n run other → take n (history (to h) other) ≡ take n (history h run)
  history_paired N to h zero run other l p = refl
  history_paired N to h (suc n) [] [] l p = refl
  history_paired N to h (suc n) [] (g ∷ other) l p = absurd p
  history_paired N to h (suc n) (f ∷ run) [] l p = absurd p
  history_paired N to h (suc n) (f ∷ run) (g ∷ other) l p =
      let x = there f h (omega (arith, p.0.full)) in
      ap (take (suc n)) (history_more (to h) g other x.0 (p.0.each h l ∙ x.1))
      ∙ ap (λ xs. x.0 ∷ xs) (history_paired N to h n run other l p.1)
      ∙ ap (take (suc n)) (sym (history_more h f run x.0 x.1))
