-- What a listing gains.
use Rattle.std.specs.Prelude.{◌≡◌, List, ◌++◌}
use Rattle.lines.specs.Lines.{Report, report_lines}
use Rattle.listing.specs.declared.reporting.Listing.{Listing}
use Rattle.listing.specs.Kept.{Adds}

-- these reports, in order: their lines, and they are the latest
pub record Lists (rs : List Report) (old new : Listing) : Type 0 where
  pub wrote : new.lines.items ≡ old.lines.items ++ report_lines rs
  pub added : Adds rs old.latest new.latest
