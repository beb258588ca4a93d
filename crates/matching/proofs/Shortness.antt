-- Shortness depends on the tracks of the set below M, and on their fits on heads below N.
use Rattle.std.proofs.Common.{◌≡◌, ℕ, ◌<◌, Bool, true, ◌&&◌, sym, ◌∙◌, arith}
use Rattle.std.proofs.lemmas.Bool.{and_parts, and_from}
use Rattle.matching.specs.Fitting.{Fitting, Alike}
use Rattle.matching.specs.Short.{usable, Short}
use Rattle.matching.proofs.Counting.{count_le, any_in, any_out}

-- A head that is usable stays so where no fit is lost: the head may get another name, and the set another test for the same tracks.
pub usable_through : (fits fits' : Fitting) (M h h' : ℕ) (s r : ℕ → Bool)
    → ((t : ℕ) → t < M → s t ≡ true → r t ≡ true)
    → ((t : ℕ) → t < M → fits t h ≡ true → fits' t h' ≡ true)
    → usable fits s M h ≡ true → usable fits' r M h' ≡ true
usable_through fits fits' M h h' s r a b e =
    let w = any_out (λ t. s t && fits t h) M e in
    let q = and_parts (s w.0) (fits w.0 h) w.2 in
    any_in (λ t. r t && fits' t h') M w.0 w.1 (and_from (r w.0) (fits' w.0 h') (a w.0 w.1 q.0) (b w.0 w.1 q.1))

pub short_alike : (fits fits' : Fitting) (M N : ℕ) (s r : ℕ → Bool) → Alike M N fits fits' → ((t : ℕ) → t < M → s t ≡ r t)
    → Short fits M N s → Short fits' M N r
short_alike fits fits' M N s r a e h =
    omega (
      arith,
      h,
      count_le s r M (λ t l k. sym (e t l) ∙ k),
      count_le (usable fits' r M) (usable fits s M) N
          (λ x m. usable_through fits' fits M x x r s (λ t l k. e t l ∙ k) (λ t l k. a t x l m ∙ k)),
    )
