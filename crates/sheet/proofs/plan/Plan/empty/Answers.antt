use Rattle.std.proofs.Common.{replicate, refl, ap, inl}
use Rattle.sheetfile.specs.Limits.{most_signatures}
use Rattle.sheet.proofs.Plans.{blank_is}
use Rattle.sheet.proofs.plan.Plan.empty.Goals as goal

pub invariant_of-result : goal.invariant_of-result
invariant_of-result c = record { kept = ∣ inl (record { no_code = refl; no_heads = refl; no_entries = refl; all_blank = ap (replicate most_signatures) (blank_is _ c.default.ensures) }) ∣₁ }
