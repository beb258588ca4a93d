-- The heads of a set of tracks, track by track.
use Rattle.std.proofs.Common.{◌≡◌, ℕ, ◌^◌, ◌<◌, Bool, true, false, not, ◌&&◌, ◌||◌, eqb, sym, refl, ap, ◌∙◌, inl, inr, arith}
use Rattle.std.proofs.lemmas.Bool.{cases_eq, and_parts, and_from, or_cases, or_left, or_right}
use Rattle.matching.specs.Sets.{has}
use Rattle.matching.specs.Fitting.{Fitting}
use Rattle.matching.specs.Short.{usable}
use Rattle.matching.proofs.Counting.{any_in, any_out}
use Rattle.matching.proofs.Words.{has_none, has_within, without_other, Least}

-- A track is taken from the set, and its heads are set apart.
pub usable_taken : {left t rest : ℕ} (fits : Fitting) (M h : ℕ) → t < M → Least left t rest
    → usable fits (has left) M h ≡ (fits t h || usable fits (has rest) M h)
usable_taken {left} {t} {rest} fits M h l n = both (usable fits (has left) M h) (fits t h || usable fits (has rest) M h) there back
  where
    both : (a b : Bool) → (a ≡ true → b ≡ true) → (b ≡ true → a ≡ true) → a ≡ b
    both false false f g = refl
    both true true f g = refl
    both false true f g = g refl
    both true false f g = sym (f refl)

    there : usable fits (has left) M h ≡ true → (fits t h || usable fits (has rest) M h) ≡ true
    there e =
        let w = any_out (λ u. has left u && fits u h) M e in
        let q = and_parts (has left w.0) (fits w.0 h) w.2 in
        elim (cases_eq w.0 t) [
          | inl z ↦ or_left (fits t h) (usable fits (has rest) M h) (ap (λ u. fits u h) (sym z) ∙ q.1)
          | inr z ↦ or_right (fits t h) (usable fits (has rest) M h)
              (any_in (λ u. has rest u && fits u h) M w.0 w.1 (and_from (has rest w.0) (fits w.0 h) (n.others w.0 ∙ without_other (has left) t w.0 z ∙ q.0) q.1))
        ]

    back : (fits t h || usable fits (has rest) M h) ≡ true → usable fits (has left) M h ≡ true
    back e =
        elim (or_cases (fits t h) (usable fits (has rest) M h) e) [
          | inl k ↦ any_in (λ u. has left u && fits u h) M t l (and_from (has left t) (fits t h) n.member k)
          | inr k ↦
              let w = any_out (λ u. has rest u && fits u h) M k in
              let q = and_parts (has rest w.0) (fits w.0 h) w.2 in
              any_in (λ u. has left u && fits u h) M w.0 w.1
              (and_from (has left w.0) (fits w.0 h) (and_parts (has left w.0) (not (eqb w.0 t)) (sym (n.others w.0) ∙ q.0)).0 q.1)
        ]

-- The heads so far, with those of the tracks that are left, are the heads of the set.
pub record Joined (fits : Fitting) (M set heads left : ℕ) : Type 0 where
  pub low : (t : ℕ) → has left t ≡ true → t < M
  pub all : (h : ℕ) → (has heads h || usable fits (has left) M h) ≡ usable fits (has set) M h

pub joined_none : (fits : Fitting) (M set : ℕ) → set < 2 ^ M → Joined fits M set 0 set
joined_none fits M set l = record { low = λ t m. has_within M set t l m; all = λ h. ap (λ b. b || usable fits (has set) M h) (has_none h) }

pub joined_more : {M set heads left t rest heads' row : ℕ} (fits : Fitting) → Joined fits M set heads left → Least left t rest
    → ((h : ℕ) → has row h ≡ fits t h) → ((h : ℕ) → has heads' h ≡ (has heads h || has row h)) → Joined fits M set heads' rest
joined_more {M} {set} {heads} {left} {t} {rest} {heads'} {row} fits j n r e =
    record {
      low = λ u m. j.low u (and_parts (has left u) (not (eqb u t)) (sym (n.others u) ∙ m)).0;
      all = λ h.
          ap (λ b. b || usable fits (has rest) M h) (e h ∙ ap (λ b. has heads h || b) (r h)) ∙ turn (has heads h) (fits t h) (usable fits (has rest) M h)
          ∙ ap (λ b. has heads h || b) (sym (usable_taken fits M h (j.low t n.member) n)) ∙ j.all h;
    }
  where
    turn : (a b c : Bool) → ((a || b) || c) ≡ (a || (b || c))
    turn a b c = grind arith
