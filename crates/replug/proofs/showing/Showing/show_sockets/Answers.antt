use Rattle.std.proofs.Common.{sym, ◌∙◌}
use Rattle.replug.proofs.showing.Showing.show_sockets.Goals as goal

pub returns-in-Some-clause-differed : goal.returns-in-Some-clause-differed
returns-in-Some-clause-differed g c = λ one other sockets long.
    let heads = c.in-Some.ensures.0 ∙ sockets in
    c.show_order.ensures.differed one other heads (long ∙ sym heads)
