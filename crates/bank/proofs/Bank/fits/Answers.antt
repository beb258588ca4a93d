use Rattle.std.proofs.Common.{arith}
use Rattle.bank.proofs.Shown.{answer_told}
use Rattle.bank.proofs.Bank.fits.Goals as goal

pub returns : goal.returns
returns g c signatures run s fitted at tracks frames agrees =
    let read = c.in_ok-signature.ensures.lookup in
    answer_told g.K.Kind.facts.passes c.args.position c.args.heads c.args.self.now signatures run s fitted at agrees
    c.args.entry.now.frames c.args.entry.now.tracks c.in_ok-signature.signature.now _ c.of.result frames tracks (omega (arith, read.0)) read.1 c.of.ensures
