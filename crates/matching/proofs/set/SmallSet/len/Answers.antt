use Rattle.std.proofs.Common.{arith}
use Rattle.matching.proofs.Words.{ones_count}
use Rattle.matching.proofs.set.SmallSet.len.Goals as goal

pub returns : goal.returns
returns c = ones_count 8 c.args.self.number (omega arith)
