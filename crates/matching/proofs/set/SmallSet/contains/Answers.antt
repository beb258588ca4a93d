use Rattle.std.proofs.Common.{sym, ◌∙◌, arith}
use Rattle.std.proofs.lemmas.Bool.{le-ltb}
use Rattle.matching.proofs.Words.{has_read, has_past}
use Rattle.matching.proofs.set.SmallSet.contains.Goals as goal

pub returns-then-member-lt-MOST_MEMBERS : goal.returns-then-member-lt-MOST_MEMBERS
returns-then-member-lt-MOST_MEMBERS c = has_read c.args.self.number c.args.member

pub returns-else-member-lt-MOST_MEMBERS : goal.returns-else-member-lt-MOST_MEMBERS
returns-else-member-lt-MOST_MEMBERS c = le-ltb c.args.member 8 (omega arith) ∙ sym (has_past 8 c.args.self.number c.args.member (omega arith) (omega arith))
