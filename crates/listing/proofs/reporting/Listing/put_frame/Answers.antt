use Rattle.std.proofs.Common.{◌≡◌, get_or, ap, ◌∙◌, length, arith}
use Rattle.std.proofs.lemmas.List.{get_or_default}
use Rattle.sheet.specs.Plans.{blank}
use Rattle.station.specs.Answers.{in_figures, verdict_of}
use Rattle.station.specs.Snap.{snap}
use Rattle.listing.proofs.Frames.{frame_again, frame_end}
use Rattle.listing.proofs.reporting.Listing.put_frame.Goals as goal

pub loop-position-preserved : goal.loop-position-preserved
loop-position-preserved g c =
    let es = c.entries-entry-items.result.now in
    let i = c.loop-position.position in
    let e = get_or es i blank in
    let here : e ≡ get_or c.args.station.now.entries.now i e =
    get_or_default es i blank e c.loop-position-test.true ∙ ap (λ fs. get_or fs i e) c.entries-entry-items.ensures in
    frame_again g.K.Kind.facts.readings.proper g.K.Kind.facts.passes (snap c.args.station.now) c.args.frame c.args.self.now
    c.loop-position.invariant (omega (arith, ap length c.entries-entry-items.ensures)) e here
    (in_figures verdict_of c.look.result) c.look.ensures c.put_look.new.self (c.in_ok-put_look.ensures {u = tt})

pub returns : goal.returns
returns g c = λ N sheet run h.
    frame_end g.K.Kind.facts.readings.proper g.K.Kind.facts.passes (snap c.args.station.now) c.args.frame c.args.self.now c.loop-position.invariant
    (omega (arith, ap length c.entries-entry-items.ensures)) N sheet run h
