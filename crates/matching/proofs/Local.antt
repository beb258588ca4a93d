-- The answer depends only on the fits of tracks below M on heads below N.
use Rattle.std.proofs.Common.{ℕ, List, get_or, sym, refl, ◌∙◌}
use Rattle.matching.specs.Sets.{has}
use Rattle.matching.specs.Fitting.{Fitting, Alike}
use Rattle.matching.specs.Placings.{Places}
use Rattle.matching.specs.Answer.{Answer, seen, short, answer, Right}
use Rattle.matching.specs.Theorems.{AnswerLocal}
use Rattle.matching.proofs.Shortness.{short_alike}
use Rattle.matching.proofs.Rightness.{answer_right, answer_only}

places_alike : (fits fits' : Fitting) (M N : ℕ) (hs : List ℕ) → Alike M N fits fits' → Places fits M N hs → Places fits' M N hs
places_alike fits fits' M N hs e p =
    record { all = p.all; below = p.below; fit = λ t l. sym (e t (get_or hs t 0) l (p.below t l)) ∙ p.fit t l; apart = p.apart }

right_alike : (fits fits' : Fitting) (M N : ℕ) → Alike M N fits fits' → Alike M N fits' fits → (a : Answer) → Right fits M N a → Right fits' M N a
right_alike fits fits' M N e o (seen hs) h = (
  record { places = places_alike fits fits' M N hs e h.0.places; first = λ gs p. h.0.first gs (places_alike fits' fits M N gs o p) },
  λ set k. h.1 set (short_alike fits' fits M N set set o (λ t l. refl) k),
)
right_alike fits fits' M N e o (short s) h = (
  record {
    below = h.0.below;
    short = short_alike fits fits' M N (has s) (has s) e (λ t l. refl) h.0.short;
    least = λ r l k. h.0.least r l (short_alike fits' fits M N (has r) (has r) o (λ t l. refl) k);
  },
  λ hs p. h.1 hs (places_alike fits' fits M N hs o p),
)

pub answer_local : AnswerLocal
answer_local fits fits' M N e =
    answer_only fits' M N (answer fits M N) (right_alike fits fits' M N e (λ t h l m. sym (e t h l m)) (answer fits M N) (answer_right fits M N))
