use Rattle.std.proofs.Common.{refl}
use Rattle.bank.proofs.Agreeing.{agrees_new}
use Rattle.bank.proofs.Bank.new.Goals as goal

pub returns : goal.returns
returns g c N signatures = agrees_new g.K.Kind.facts.passes N signatures _ c.new.result c.of-signature.result refl c.of-signature.ensures c.new.ensures
