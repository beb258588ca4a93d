use Rattle.rows.proofs.Telling.{tells_none}
use Rattle.rows.proofs.Row.new.Goals as goal

pub returns : goal.returns
returns g c tests = tells_none g.K.Kind.facts.passes tests
