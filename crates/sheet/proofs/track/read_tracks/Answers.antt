use Rattle.std.proofs.Common.{◌+◌, ◌*◌, take, drop, ap, ◌∙◌}
use Rattle.std.proofs.lemmas.Result.{err_from_is_err_and}
use Rattle.sheet.proofs.Tracks.{one_part, track_ready, tracks_again, tracks_break, tracks_end}
use Rattle.sheet.proofs.track.read_tracks.Goals as goal

pub read_track-requires : goal.read_track-requires
read_track-requires g c =
    let i = c.loop-i.i in
    let m = c.args.frames in
    let wide = ap (λ w. take (3 + m * w) c.loop-i.tracks.bytes.now) (c.W.ensures ∙ g.met.K.Kind.test_width_is) in
    record { whole = track_ready _ _ _ _ _ _ _ c.loop-i.invariant c.loop-i-test.true _ (one_part i m) c.front-track.result.bytes.now (c.front-track.ensures.front ∙ wide) }

pub returns-in_err-read_track : goal.returns-in_err-read_track
returns-in_err-read_track g c =
    let i = c.loop-i.i in
    let m = c.args.frames in
    let wide = ap (λ w. take (3 + m * w) c.loop-i.tracks.bytes.now) (c.W.ensures ∙ g.met.K.Kind.test_width_is) in
    let p = err_from_is_err_and c.from_residual.result c.from_residual.ensures.1 in
    rw (p.1, p.2)
    (tracks_break _ _ _ _ _ _ _ c.loop-i.invariant c.loop-i-test.true _ (one_part i m) c.front-track.result.bytes.now (c.front-track.ensures.front ∙ wide) c.front-track.result.at c.front-track.ensures.front_at c.read_track.new.out c.read_track.auto.out c.in_err-read_track.field-0.0 c.in_err-read_track.ensures)

pub loop-i-preserved : goal.loop-i-preserved
loop-i-preserved g c =
    let i = c.loop-i.i in
    let m = c.args.frames in
    let w = c.W.ensures ∙ g.met.K.Kind.test_width_is in
    let wide = ap (λ w. take (3 + m * w) c.loop-i.tracks.bytes.now) w in
    let far = ap (λ w. drop (3 + m * w) c.loop-i.tracks.bytes.now) w in
    tracks_again _ _ _ _ _ _ _ c.loop-i.invariant c.loop-i-test.true _ (one_part i m) c.front-track.result.bytes.now (c.front-track.ensures.front ∙ wide) c.front-track.result.at c.front-track.ensures.front_at c.read_track.new.out c.read_track.auto.out
    c.front-track.new.self.bytes.now (c.front-track.ensures.rest ∙ far) c.front-track.new.self.at (c.front-track.ensures.rest_at ∙ ap (λ w. c.loop-i.tracks.at + (3 + m * w)) w) c.in_ok-read_track.ensures

pub returns : goal.returns
returns g c = tracks_end _ _ _ _ _ _ _ c.loop-i.invariant c.loop-i-test.false
