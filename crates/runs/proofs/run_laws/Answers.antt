use Rattle.runs.proofs.Verdicts.{right, only, placed, latest, replugged}
use Rattle.runs.proofs.Calls.{settled, ran_full}
use Rattle.runs.proofs.run_laws.Goals as goal

pub returns : goal.returns
returns g c =
    record {
      right = λ passes N s run. right passes N s run;
      only = λ passes N s run v h. only passes N s run v h;
      placed = λ passes N s run reg. placed passes N s run reg;
      latest = λ passes N n s run reg full few. latest passes N s n run reg full few;
      replugged = λ passes N to from s run other perm reg pair. replugged passes N s to from run other perm reg pair;
      settled = λ lawful N m to from calls others run other perm r st. settled lawful N to from perm m calls others run other r st;
      full = λ lawful N calls. ran_full lawful N calls _ tt;
    }
