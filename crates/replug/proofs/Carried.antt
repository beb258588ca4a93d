-- What lasts while plug orders are shown, one after another. Assumes nothing.
use Rattle.std.proofs.Common.{◌≡◌, ℕ, min, List, length, take, Ok, sym, ap, ◌∙◌, arith}
use Rattle.std.proofs.lemmas.List.{length-take-le}
use Rattle.sheet.specs.declared.plan.Plan.{Plan}
use Rattle.sheet.proofs.Plans.{few_heads}
use Rattle.station.specs.Making.{making}

-- What is asked of a plan, the sizes lent for it, and its sockets is known of the same plan and sizes.
pub carried : {D : Type 0} (code : ℕ) (p plan : Plan) (t tests h home a away l plugged m sockets : ℕ) (zeros : List ℕ)
    → p ≡ plan → t ≡ tests → h ≡ home → a ≡ away → l ≡ plugged → length zeros ≡ 8 → m ≡ min plan.heads 8 → sockets ≡ length (take m zeros)
    → (making code p t h ≡ Ok tt → making code p t a ≡ Ok tt → sockets ≡ p.heads → l ≡ p.heads → D)
    → making code plan tests home ≡ Ok tt → making code plan tests away ≡ Ok tt → plugged ≡ plan.heads → D
carried code p plan t tests h home a away l plugged m sockets zeros ep et eh ea el ez em es then one other long =
    let few = few_heads _ _ _ _ plan.kept in
    let still : (x y : ℕ) → x ≡ y → making code plan tests y ≡ Ok tt → making code p t x ≡ Ok tt
    = λ x y e k. ap (λ q. making code q t x) ep ∙ ap (λ u. making code plan u x) et ∙ ap (λ u. making code plan tests u) e ∙ k in
    let heads : plan.heads ≡ p.heads = sym (ap (λ q. q.heads) ep) in
    let most : m ≡ plan.heads = omega (arith, few) in
    then (still h home eh one) (still a away ea other)
    (es ∙ length-take-le m zeros (omega (arith, few)) ∙ most ∙ heads)
    (el ∙ long ∙ heads)
