use Rattle.std.proofs.Common.{◌≡◌, ◌++◌, ◌∙◌, OnOk, IsOk, Some, Result, Ok, Err, rules, ap, sym, refl, subst₂}
use Rattle.std.proofs.KnownBytes.{Appends-of_writes}
use Rattle.std.proofs.Output.{if_some_weaken}
use Rattle.lines.proofs.VecU8Append.write_fmt.Goals as goal

on_ok_if : {X Y : Type 0} (r : Result X Y) (P : Type 0) → (IsOk r → P) → OnOk r P
on_ok_if (Ok x) P f = f refl
on_ok_if (Err y) P f = search rules

pub returns : goal.returns
returns g c =
    let given = c.new-f.ensures.writer in
    let back = c.into_inner-out.ensures in
    on_ok_if c.write-result.result _ (λ ok. if_some_weaken (g.D.Display.output c.args.text) _ _
    (λ bs k.
    let (same, appended) = Appends-of_writes (λ s. s.0.ghost_name) (λ s. Some s.0.now.items) _ bs _ (k c.new-f.ensures.plain ok).wrote in
    let name = ap (λ s. s.0.ghost_name) back ∙ same ∙ ap (λ s. s.0.ghost_name) given in
    let bytes = subst₂ (λ s t. t.0.now.items ≡ s.0.now.items ++ bs) given (sym back) appended in
    search rules)
    c.write-result.ensures.writes)
