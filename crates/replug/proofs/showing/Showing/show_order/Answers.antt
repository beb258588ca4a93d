use Rattle.std.proofs.Common.{sym, ap, ◌∙◌}
use Rattle.replug.proofs.showing.Showing.show_order.Goals as goal

pub returns-in_err-work-clause-differed : goal.returns-in_err-work-clause-differed
returns-in_err-work-clause-differed g c = λ one other heads long. c.work.ensures.differed (long ∙ sym (ap (λ o. o.heads) c.new-twins.ensures.order)) (c.new-twins.ensures.twinned one other heads)

pub returns-in_err-writeln-clause-differed : goal.returns-in_err-writeln-clause-differed
returns-in_err-writeln-clause-differed g c = λ one other heads long. c.work.ensures.differed (long ∙ sym (ap (λ o. o.heads) c.new-twins.ensures.order)) (c.new-twins.ensures.twinned one other heads)

pub returns-clause-differed : goal.returns-clause-differed
returns-clause-differed g c = λ one other heads long. c.work.ensures.differed (long ∙ sym (ap (λ o. o.heads) c.new-twins.ensures.order)) (c.new-twins.ensures.twinned one other heads)
