use Rattle.std.proofs.Common.{◌≡◌, ◌+◌, true, slice_set, None, sym, ap, ◌∙◌, subst, arith, rules}
use Rattle.std.specs.Option.{option_map}
use Rattle.matching.specs.Onward.{onward, Honest}
use Rattle.matching.proofs.Words.{least_of}
use Rattle.matching.proofs.Onward.{placed_end, next, finds, tries_on, gives_up, size_taken, honest_marked}
use Rattle.matching.proofs.placing.search.Search.+place.Goals as goal

-- All tracks are placed.
pub returns-then-track-tracks-clause-found : goal.returns-then-track-tracks-clause-found
returns-then-track-tracks-clause-found t c =
    placed_end c.args.self.now.fits.now c.args.track c.args.free.number c.args.self.now.placing (omega arith) c.args.self.now.whole

pub without-rest-requires : goal.without-rest-requires
without-rest-requires t c = (next (omega arith) c.loop-head.invariant.trying (least_of c.in-Some.ensures.steps)).low

pub place-requires : goal.place-requires
place-requires t c =
    let n = next (omega arith) c.loop-head.invariant.trying (least_of c.in-Some.ensures.steps) in
    let k = size_taken c.args.free.number c.in-Some.head c.without-rest.result.number n.low n.is_free c.without-rest.ensures in
    let e : c.loop-head.self.fits.now.tracks ≡ c.args.self.now.fits.now.tracks = ap (λ r. r.now.tracks) c.loop-head.invariant.same_fits in
    (search rules, (omega arith, omega (arith, k)))

-- The track stands on the head, and the tracks after it are placed.
pub returns-then-is_some-clause-found : goal.returns-then-is_some-clause-found
returns-then-is_some-clause-found t c =
    let n = next (omega arith) c.loop-head.invariant.trying (least_of c.in-Some.ensures.steps) in
    finds c.place.new.self.placing (omega arith) (search rules) (search rules) n c.without-rest.ensures (search rules)

pub loop-head-preserved : goal.loop-head-preserved
loop-head-preserved t c =
    let f = c.args.self.now.fits.now in
    let i = c.loop-head.invariant in
    let l = least_of c.in-Some.ensures.steps in
    let n = next (omega arith) i.trying l in
    let k = size_taken c.args.free.number c.in-Some.head c.without-rest.result.number n.low n.is_free c.without-rest.ensures in
    let marks : Honest f c.loop-head.self.hopeless = subst (λ r. Honest r.now c.loop-head.self.hopeless) i.same_fits c.loop-head.self.honest in
    elim c.else-not-self-index.branch [
      | goal.else-not-self-index-via-then-not-self-index+else-is_some w ↦
          let z : w.place.result ≡ None = search rules in
          let g : onward f (c.args.track + 1) c.without-rest.result.number ≡ None =
          subst (λ r. onward r.now (c.args.track + 1) c.without-rest.result.number ≡ None) i.same_fits (sym w.place.ensures.found ∙ ap (option_map _) z) in
          record {
            same_fits = ap (λ s. s.fits) w.self-is ∙ w.place.ensures.same_fits ∙ i.same_fits;
            trying = tries_on i.trying n l.others c.without-rest.ensures g;
          }
      | goal.else-not-self-index-via-else-not-self-index w ↦
          record {
            same_fits = ap (λ s. s.fits) w.self-is ∙ i.same_fits;
            trying = tries_on i.trying n l.others c.without-rest.ensures
                (marks.hopeless (c.args.track + 1) c.without-rest.result.number (omega (arith, k)) (search rules));
          }
    ]

-- No head is left.
pub invariant_of-self-2-clause-honest : goal.invariant_of-self-2-clause-honest
invariant_of-self-2-clause-honest t c =
    let f = c.args.self.now.fits.now in
    let i = c.loop-head.invariant in
    let marks : Honest f c.loop-head.self.hopeless = subst (λ r. Honest r.now c.loop-head.self.hopeless) i.same_fits c.loop-head.self.honest in
    let e = gives_up (omega arith) c.in-None.ensures.steps i.trying in
    let h : Honest f (slice_set c.loop-head.self.hopeless c.index-2.result true) = rw c.index-2.ensures (honest_marked c.args.track c.args.free.number marks c.requires.taken e) in
    subst (λ r. Honest r.now (slice_set c.loop-head.self.hopeless c.index-2.result true)) (sym i.same_fits) h
