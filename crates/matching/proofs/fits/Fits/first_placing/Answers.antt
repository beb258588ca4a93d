use Rattle.std.proofs.Common.{◌≡◌, Some, None, refl, sym, ap, ◌∙◌, arith, rules}
use Rattle.std.specs.Option.{option_map}
use Rattle.matching.proofs.Onward.{onward_all, size_all, honest_fresh, undropped}
use Rattle.matching.proofs.Outcomes.{idle_none}
use Rattle.matching.proofs.fits.Fits.first_placing.Goals as goal

pub returns-then-has_idle_track : goal.returns-then-has_idle_track
returns-then-has_idle_track c = let w = c.if-has_idle_track.ensures.0 refl in sym (idle_none c.args.self.now 8 w.0 w.1 w.2)

pub invariant_of-search-2-clause-honest : goal.invariant_of-search-2-clause-honest
invariant_of-search-2-clause-honest c = honest_fresh c.args.self.now 256

pub place-requires-clause-taken : goal.place-requires-clause-taken
place-requires-clause-taken c = omega (arith, size_all)

pub returns-in_err-place : goal.returns-in_err-place
returns-in_err-place c =
    let z : c.place.result ≡ None = search rules in
    let y : c.from_residual.result ≡ None = search rules in
    ap (option_map _) y ∙ sym (ap (option_map _) z) ∙ c.place.ensures.found ∙ onward_all c.args.self.now

pub returns : goal.returns
returns c =
    undropped (Some c.place.new.self.placing) ∙ sym (ap (option_map _) c.in_ok-place.was) ∙ c.place.ensures.found ∙ onward_all c.args.self.now
