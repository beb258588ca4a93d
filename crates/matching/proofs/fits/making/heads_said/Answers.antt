use Rattle.std.proofs.Common.{ℕ, ◌+◌, Bool, sym, subst}
use Rattle.matching.specs.Members.{Members}
use Rattle.matching.proofs.Members.{members_yes, members_no}
use Rattle.matching.proofs.fits.making.heads_said.Goals.{then-fits, else-fits}
use Rattle.matching.proofs.fits.making.heads_said.Goals as goal

pub loop-head-preserved : goal.loop-head-preserved
loop-head-preserved g c =
    let P : ℕ → Bool → Type 0 = g.W.Witness.Says c.args.witness.now c.args.track in
    let h = c.loop-head.head in
    let m = c.loop-head.invariant in
    elim c.if-fits.branch [
      | then-fits w ↦ subst (λ s. Members P (h + 1) s.number) (sym w.set-is)
          (members_yes P h c.loop-head.set.number w.insert.new.self.number m w.insert.ensures (subst (P h) w.if-fits.true c.fits.ensures))
      | else-fits w ↦ subst (λ s. Members P (h + 1) s.number) (sym w.set-is) (members_no P h c.loop-head.set.number m (subst (P h) w.if-fits.false c.fits.ensures))
    ]
