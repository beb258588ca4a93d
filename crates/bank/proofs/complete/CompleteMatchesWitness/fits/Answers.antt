use Rattle.std.proofs.Common.{ℕ, sym, subst, false}
use Rattle.bank.specs.Tables.{Shows}
use Rattle.bank.proofs.Shown.{shows_none}
use Rattle.bank.proofs.complete.CompleteMatchesWitness.fits.Goals as goal

pub returns-in-None : goal.returns-in-None
returns-in-None g c =
    let passes = g.K.Kind.facts.passes in
    let frames = c.args.self.now.frames in
    subst (λ (word : ℕ). Shows passes frames word false) (sym c.in-None.ensures) (shows_none passes frames)
