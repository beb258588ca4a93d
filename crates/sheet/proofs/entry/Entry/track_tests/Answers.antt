use Rattle.std.proofs.Common.{arith}
use Rattle.sheet.proofs.Cuts.{track_found}
use Rattle.sheet.proofs.entry.Entry.track_tests.Goals as goal

pub returns : goal.returns
returns g c = track_found c.args.self.now c.args.track c.args.store.now c.in_ok-tests.tests.now (omega arith) c.in_ok-tests.ensures
