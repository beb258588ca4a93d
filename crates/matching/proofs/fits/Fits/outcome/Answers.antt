use Rattle.std.proofs.Common.{Some, None, sym, ap, ◌∙◌}
use Rattle.matching.specs.Answer.{short}
use Rattle.matching.specs.Meaning.{heads_of}
use Rattle.matching.proofs.Outcomes.{said_for, promised}
use Rattle.matching.proofs.fits.Fits.outcome.Goals as goal

pub least_short-requires : goal.least_short-requires
least_short-requires c = sym c.in-None.ensures

pub returns-in-Some : goal.returns-in-Some
returns-in-Some c = promised c.args.self.now _ (said_for c.args.self.now (Some (heads_of c.in-Some.placing)) c.in-Some.ensures)

pub returns-in-None : goal.returns-in-None
returns-in-None c = promised c.args.self.now _ (ap short c.least_short.ensures ∙ said_for c.args.self.now None c.in-None.ensures)
