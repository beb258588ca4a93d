use Rattle.std.proofs.Common.{arith}
use Rattle.members.proofs.Least.{takes_least}
use Rattle.members.proofs.MembersIterator.next.Goals as goal

pub returns-clause-steps : goal.returns-clause-steps
returns-clause-steps c = takes_least c.args.self.now.left (omega arith) (omega arith)
