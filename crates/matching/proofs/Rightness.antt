-- The answer is right, and nothing else is.
use Rattle.std.proofs.Common.{◌≡◌, ℕ, ◌^◌, ◌<◌, true, ◌⊎◌, List, [], ◌∷◌, length, Some, None, Option, sym, refl, ap, ◌∙◌, subst, ap₂, inl, inr, arith}
use Rattle.std.proofs.lemmas.Bool.{ltb-true, lt-ltb, cases_order, true≢false}
use Rattle.matching.specs.Count.{count, least}
use Rattle.matching.specs.Sets.{has}
use Rattle.matching.specs.Fitting.{Fitting}
use Rattle.matching.specs.Placings.{Places, Placeable, NoLater, FirstPlacing}
use Rattle.matching.specs.Short.{usable, Short, is_short_set}
use Rattle.matching.specs.Search.{first_placing_of}
use Rattle.matching.specs.Answer.{Answer, seen, short, said, answer, Right}
use Rattle.matching.specs.Theorems.{Hall, AnswerRight, AnswerOnly}
use Rattle.matching.proofs.Seats.{Seats, places_of, seats_of, not_both}
use Rattle.matching.proofs.First.{sound, earliest}
use Rattle.matching.proofs.Least.{least_is}
use Rattle.matching.proofs.Sets.{number, number_lt, has_number}
use Rattle.matching.proofs.Shortness.{short_alike}
use Rattle.matching.proofs.Hall.{short_of_none}

-- What the search finds is the first placing.
pub found_first : (fits : Fitting) (M N : ℕ) (hs : List ℕ) → first_placing_of fits M N ≡ Some hs → FirstPlacing fits M N hs
found_first fits M N hs e = record { places = subst (λ k. Places fits k N hs) s.0 (places_of N hs fits (λ h. true) s.1).0; first = first }
  where
    s : (length hs ≡ M) × Seats N fits (λ h. true) hs
    s = sound N M fits (λ h. true) hs e

    first : (gs : List ℕ) → Places fits M N gs → NoLater hs gs
    first gs p =
        let q = seats_of N gs fits (λ h. true) (subst (λ k. Places fits k N gs) (sym p.all) p) (λ t l. refl) in
        let r = earliest N M fits (λ h. true) gs p.all q in
        let z : r.0 ≡ hs = same r.0 (sym r.1 ∙ e) in
        subst (λ v. NoLater v gs) z r.2
      where
        same : (x : List ℕ) → Some x ≡ Some hs → x ≡ hs
        same x k = cc

-- Where it finds nothing, some set of tracks is short.
pub none_short : (fits : Fitting) (M N : ℕ) → first_placing_of fits M N ≡ None → (s : ℕ) × (s < 2 ^ M) × Short fits M N (has s)
none_short fits M N e =
    let r = short_of_none N fits M (λ h. true) e in
    let s = number r.0 M in
    (s, number_lt r.0 M, short_alike fits fits M N r.0 (has s) (λ t h _ _. refl) (λ t l. sym (has_number r.0 M t l)) r.1)

-- Where it finds nothing, there is nothing.
pub none_placed : (fits : Fitting) (M N : ℕ) → first_placing_of fits M N ≡ None → (hs : List ℕ) → Places fits M N hs → ⊥
none_placed fits M N e hs p = let r = none_short fits M N e in not_both fits M N hs (has r.0) p r.2

-- Where no placing exists, it finds nothing.
pub none_found : (fits : Fitting) (M N : ℕ) → ((hs : List ℕ) → Places fits M N hs → ⊥) → first_placing_of fits M N ≡ None
none_found fits M N no_one = go (first_placing_of fits M N) refl
  where
    go : (o : Option (List ℕ)) → first_placing_of fits M N ≡ o → o ≡ None
    go None e = refl
    go (Some hs) e = absurd (no_one hs (found_first fits M N hs e).places)

pub said_right : (fits : Fitting) (M N : ℕ) (o : Option (List ℕ)) → first_placing_of fits M N ≡ o → Right fits M N (said fits M N o)
said_right fits M N (Some hs) e = let f = found_first fits M N hs e in (f, λ set. not_both fits M N hs set f.places)
said_right fits M N None e =
    let r = none_short fits M N e in
    let m = least_is (λ s. is_short_set fits M N (has s)) (2 ^ M) r.0 r.1 (lt-ltb (count (usable fits (has r.0) M) N) (count (has r.0) M) r.2) in
    let l = least (λ s. is_short_set fits M N (has s)) (2 ^ M) in (
      record {
        below = m.below;
        short = ltb-true (count (usable fits (has l) M) N) (count (has l) M) m.passes;
        least = λ s k h. true≢false (sym (lt-ltb (count (usable fits (has s) M) N) (count (has s) M) h) ∙ m.before s k);
      },
      none_placed fits M N e,
    )

pub answer_right : AnswerRight
unfolding answer
answer_right fits M N = said_right fits M N (first_placing_of fits M N) refl

pub hall_holds : (fits : Fitting) (M N : ℕ) → Hall fits M N
hall_holds fits M N = record { either = go (first_placing_of fits M N) refl; not_both = not_both fits M N }
  where
    go : (o : Option (List ℕ)) → first_placing_of fits M N ≡ o → Placeable fits M N ⊎ ((s : ℕ) × (s < 2 ^ M) × Short fits M N (has s))
    go (Some hs) e = inl (hs, (found_first fits M N hs e).places)
    go None e = inr (none_short fits M N e)

same_lists : (xs ys : List ℕ) → length xs ≡ length ys → NoLater xs ys → NoLater ys xs → xs ≡ ys
same_lists [] [] l h k = refl
same_lists [] (y ∷ ys) l h k = absurd (omega arith)
same_lists (x ∷ xs) [] l h k = absurd (omega arith)
same_lists (x ∷ xs) (y ∷ ys) l h k =
    elim h [
      | inl a ↦ elim k [ inl b ↦ absurd (omega arith) | inr b ↦ absurd (omega (arith, b.0)) ]
      | inr a ↦ elim k [ inl b ↦ absurd (omega (arith, a.0)) | inr b ↦ ap₂ ◌∷◌ a.0 (same_lists xs ys (omega arith) a.1 b.1) ]
    ]

-- Two answers that are right are one.
pub right_once : (fits : Fitting) (M N : ℕ) (a b : Answer) → Right fits M N a → Right fits M N b → a ≡ b
right_once fits M N (seen hs) (seen gs) h k =
    ap seen (same_lists hs gs (h.0.places.all ∙ sym k.0.places.all) (h.0.first gs k.0.places) (k.0.first hs h.0.places))
right_once fits M N (seen hs) (short s) h k = absurd (k.1 hs h.0.places)
right_once fits M N (short s) (seen hs) h k = absurd (h.1 hs k.0.places)
right_once fits M N (short r) (short s) h k =
    elim (cases_order r s) [
      | inl e ↦ ap short e
      | inr d ↦ elim d [ inl l ↦ absurd (k.0.least r l h.0.short) | inr l ↦ absurd (h.0.least s l k.0.short) ]
    ]

pub answer_only : AnswerOnly
answer_only fits M N a h = right_once fits M N a (answer fits M N) h (answer_right fits M N)
