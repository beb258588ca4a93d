use Rattle.matching.proofs.Rightness.{hall_holds, answer_right, answer_only}
use Rattle.matching.proofs.Renaming.{answer_unmoved}
use Rattle.matching.proofs.Local.{answer_local}
use Rattle.matching.proofs.Deficiency.{most_holds}
use Rattle.matching.proofs.Sets.{numbered}
use Rattle.matching.proofs.theorems.theorems_hold.Goals as goal

pub returns : goal.returns
returns c =
    record {
      hall = hall_holds;
      right = answer_right;
      only = answer_only;
      unmoved = answer_unmoved;
      local = answer_local;
      most = most_holds;
      numbered = numbered;
    }
