use Rattle.std.proofs.Common.{length, refl, ap, ◌∙◌}
use Rattle.std.proofs.lemmas.Nat.{pow_pos}
use Rattle.matching.specs.Sets.{has}
use Rattle.matching.proofs.Rows.{get_d_past, padded, padded_within}
use Rattle.matching.proofs.fits.Fits.new.Goals as goal

pub invariant_of-result : goal.invariant_of-result
invariant_of-result c =
    let rows = c.args.rows.now in
    let w = c.if-not-is_table.ensures in
    record {
      few_tracks = w.few_tracks;
      few_heads = w.few_heads;
      within = λ t. rw c.copy_from_slice.ensures.after (padded_within rows 8 (length rows) t (pow_pos c.args.heads) (w.each t));
      unused = λ t l. rw c.copy_from_slice.ensures.after (padded rows 8 (length rows) t ∙ get_d_past rows t l);
    }

pub returns : goal.returns
returns c =
    record {
      within = c.if-not-is_table.ensures;
      same_heads = refl;
      same_tracks = refl;
      same_fits = λ t h. ap (λ r. has r h) (rw c.copy_from_slice.ensures.after (padded c.args.rows.now 8 (length c.args.rows.now) t));
    }
