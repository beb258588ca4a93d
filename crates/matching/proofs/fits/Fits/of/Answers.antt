use Rattle.std.proofs.Common.{refl, sym, ap, ◌∙◌, subst, length-take, arith}
use Rattle.std.proofs.lemmas.Nat.{pow_pos}
use Rattle.matching.specs.Sets.{has}
use Rattle.matching.proofs.Rows.{get_d_past, padded, padded_within}
use Rattle.matching.proofs.fits.Fits.of.Goals as goal

pub invariant_of-result : goal.invariant_of-result
invariant_of-result g c =
    let rows = c.loop-track.row-items in
    record {
      few_tracks = omega arith;
      few_heads = omega arith;
      within = λ t. padded_within rows 8 c.args.tracks t (pow_pos c.args.heads) (λ l. (c.loop-track.invariant.each t (omega (arith, l, simp length-take at c.loop-track-test.false))).within);
      unused = λ t l. padded rows 8 c.args.tracks t ∙ get_d_past rows t (omega (arith, l, simp length-take at c.loop-track.auto.row-items));
    }

pub returns : goal.returns
returns g c =
    let rows = c.loop-track.row-items in
    record {
      same_tracks = refl;
      same_heads = refl;
      each = λ t h l m. subst (λ b. g.W.Witness.Says c.args.witness.now t h b) (ap (λ r. has r h) (sym (padded rows 8 c.args.tracks t))) ((c.loop-track.invariant.each t (omega (arith, l, simp length-take at c.loop-track-test.false))).each h m);
    }
