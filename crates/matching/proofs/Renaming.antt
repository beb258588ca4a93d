-- Other names for the heads change neither whether a placing exists nor which sets are short.
use Rattle.std.proofs.Common.{◌≡◌, ℕ, ◌≤◌, Bool, sym, ap, ◌∙◌, inl, inr, arith}
use Rattle.std.proofs.lemmas.Bool.{cases_order}
use Rattle.matching.specs.Count.{count}
use Rattle.matching.specs.Sets.{has}
use Rattle.matching.specs.Fitting.{Fitting}
use Rattle.matching.specs.Placings.{Placeable}
use Rattle.matching.specs.Short.{usable, Short}
use Rattle.matching.specs.Answer.{Answer, seen, short, answer, Right}
use Rattle.matching.specs.Renaming.{Renames, SameWord}
use Rattle.matching.specs.Theorems.{AnswerUnmoved}
use Rattle.matching.proofs.Counting.{count_into}
use Rattle.matching.proofs.Shortness.{usable_through}
use Rattle.matching.proofs.Seats.{not_both}
use Rattle.matching.proofs.Rightness.{hall_holds, answer_right}

turned : {M N : ℕ} {fits fits' : Fitting} {to from : ℕ → ℕ} → Renames M N fits fits' to from → Renames M N fits' fits from to
turned {fits' = fits'} {from = from} r =
    let p = r.permutes in
    record {
      permutes = record { to_below = p.from_below; from_below = p.to_below; back = p.forth; forth = p.back };
      same = λ t h l m. sym (r.same t (from h) l (p.from_below h m)) ∙ ap (fits' t) (p.forth h m);
    }

-- The permutation takes the usable heads, apart, into the usable heads.
usable_le : (fits fits' : Fitting) (M N : ℕ) (to from : ℕ → ℕ) → Renames M N fits fits' to from → (set : ℕ → Bool)
    → count (usable fits set M) N ≤ count (usable fits' set M) N
usable_le fits fits' M N to from r set =
    let m = r.permutes in
    count_into N N (usable fits set M) (usable fits' set M) to (λ h l _. m.to_below h l)
    (λ h l. usable_through fits fits' M h (to h) set set (λ t k e. e) (λ t k e. r.same t h k l ∙ e))
    (λ x y l k _ _ z. let v : x ≡ y = sym (m.back x (omega arith)) ∙ ap from z ∙ m.back y k in omega arith)

usable_same : {M N : ℕ} {fits fits' : Fitting} {to from : ℕ → ℕ} → Renames M N fits fits' to from → (set : ℕ → Bool)
    → count (usable fits set M) N ≡ count (usable fits' set M) N
usable_same {M} {N} {fits} {fits'} {to} {from} r set =
    omega (arith, usable_le fits fits' M N to from r set, usable_le fits' fits M N from to (turned r) set)

short_renamed : {M N : ℕ} {fits fits' : Fitting} {to from : ℕ → ℕ} → Renames M N fits fits' to from → (set : ℕ → Bool)
    → Short fits M N set → Short fits' M N set
short_renamed r set h = omega (arith, h, usable_same r set)

-- By Hall's theorem the placings follow from the sets.
placeable_renamed : {M N : ℕ} {fits fits' : Fitting} {to from : ℕ → ℕ} → Renames M N fits fits' to from
    → Placeable fits M N → Placeable fits' M N
placeable_renamed {M} {N} {fits} {fits'} r p =
    elim (hall_holds fits' M N).either [
      | inl q ↦ q
      | inr q ↦ absurd (not_both fits M N p.0 (has q.0) p.1 (short_renamed (turned r) (has q.0) q.2))
    ]

same_word : {M N : ℕ} {fits fits' : Fitting} {to from : ℕ → ℕ} → Renames M N fits fits' to from → (a b : Answer)
    → Right fits M N a → Right fits' M N b → SameWord a b
same_word r (seen hs) (seen gs) h k = tt
same_word r (seen hs) (short s) h k = let q = placeable_renamed r (hs, h.0.places) in k.1 q.0 q.1
same_word r (short s) (seen hs) h k = let q = placeable_renamed (turned r) (hs, k.0.places) in h.1 q.0 q.1
same_word r (short s) (short u) h k =
    elim (cases_order s u) [
      | inl e ↦ e
      | inr d ↦ elim d [
        | inl l ↦ absurd (k.0.least s l (short_renamed r (has s) h.0.short))
        | inr l ↦ absurd (h.0.least u l (short_renamed (turned r) (has u) k.0.short))
      ]
    ]

pub answer_unmoved : AnswerUnmoved
answer_unmoved fits fits' M N to from r = (
  record {
    placeable = (placeable_renamed r, placeable_renamed (turned r));
    shorts = λ set. (short_renamed r set, short_renamed (turned r) set);
  },
  same_word r (answer fits M N) (answer fits' M N) (answer_right fits M N) (answer_right fits' M N),
)
