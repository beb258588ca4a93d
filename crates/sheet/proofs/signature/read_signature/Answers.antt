use Rattle.std.proofs.Common.{◌≡◌, ◌+◌, ◌*◌, get_or, sym, ap, ◌∙◌, rules, arith}
use Rattle.std.proofs.lemmas.Result.{err_from_is_err_and}
use Rattle.sheetfile.specs.Limits.{least_frames, most_frames, within}
use Rattle.sheetfile.specs.Outcomes.{into}
use Rattle.sheet.specs.Entries.{entry}
use Rattle.sheet.proofs.Puts.{refused, stopped}
use Rattle.sheet.proofs.Signs.{signature_tracks, signature_frames, signature_broke, signature_done}
use Rattle.sheet.proofs.signature.read_signature.Goals as goal

pub returns-then-not-contains : goal.returns-then-not-contains
returns-then-not-contains g c =
    let some : c.contains.result ≡ within 1 c.args.heads (get_or c.args.field.bytes.now 5 0) = search rules in
    refused 0 c.args.free.now (stopped _ c.at-then-not-contains.ensures (ap (into (entry c.args.next.first)) (signature_tracks _ _ _ _ _ _ c.args.field.bytes.now (omega arith) (omega arith) (sym some ∙ c.if-not-contains.true))))

pub returns-then-not-contains-2 : goal.returns-then-not-contains-2
returns-then-not-contains-2 g c =
    let some : c.contains.result ≡ within 1 c.args.heads (get_or c.args.field.bytes.now 5 0) = search rules in
    let deep : c.contains-2.result ≡ within least_frames most_frames (get_or c.args.field.bytes.now 6 0) = search rules in
    refused 0 c.args.free.now (stopped _ c.at-then-not-contains-2.ensures (ap (into (entry c.args.next.first)) (signature_frames _ _ _ _ _ _ c.args.field.bytes.now (omega arith) (omega arith) (sym some ∙ c.if-not-contains.false) (sym deep ∙ c.if-not-contains-2.true))))

pub returns-in_err-read_tracks : goal.returns-in_err-read_tracks
returns-in_err-read_tracks g c =
    let xs = c.args.field.bytes.now in
    let some : c.contains.result ≡ within 1 c.args.heads (get_or xs 5 0) = search rules in
    let deep : c.contains-2.result ≡ within least_frames most_frames (get_or xs 6 0) = search rules in
    let size = c.if-field-n.false ∙ ap (λ w. 7 + get_or xs 5 0 * (3 + get_or xs 6 0 * w)) (c.W.ensures ∙ g.met.K.Kind.test_width_is) in
    let p = err_from_is_err_and c.from_residual.result c.from_residual.ensures.1 in
    rw (p.1, p.2)
    (signature_broke _ _ _ _ _ _ xs (omega arith) (omega arith) (sym some ∙ c.if-not-contains.false) (sym deep ∙ c.if-not-contains-2.false) size (omega arith)
    c.behind-rest.result.bytes.now c.behind-rest.ensures.bytes c.behind-rest.result.at c.behind-rest.ensures.at c.args.free.now c.read_tracks.new.out (omega arith) c.read_tracks.auto.out c.in_err-read_tracks.field-0.0 c.in_err-read_tracks.ensures)

pub returns : goal.returns
returns g c =
    let xs = c.args.field.bytes.now in
    let some : c.contains.result ≡ within 1 c.args.heads (get_or xs 5 0) = search rules in
    let deep : c.contains-2.result ≡ within least_frames most_frames (get_or xs 6 0) = search rules in
    let size = c.if-field-n.false ∙ ap (λ w. 7 + get_or xs 5 0 * (3 + get_or xs 6 0 * w)) (c.W.ensures ∙ g.met.K.Kind.test_width_is) in
    signature_done _ _ _ _ _ _ xs (omega arith) (omega arith) (sym some ∙ c.if-not-contains.false) (sym deep ∙ c.if-not-contains-2.false) size (omega arith)
    c.behind-rest.result.bytes.now c.behind-rest.ensures.bytes c.behind-rest.result.at c.behind-rest.ensures.at c.args.free.now c.read_tracks.new.out (omega arith) c.read_tracks.auto.out c.from_be_bytes-name.result c.from_be_bytes-name.ensures c.in_ok-read_tracks.ensures
