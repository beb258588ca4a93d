use Rattle.std.proofs.Common.{◌++◌, sym, ap, ◌∙◌}
use Rattle.std.proofs.lemmas.List.{append-nil}
use Rattle.lines.specs.Lines.{report_line}
use Rattle.listing.specs.Kept.{report_of}
use Rattle.listing.proofs.Kept.{adds_one}
use Rattle.listing.proofs.reporting.Listing.put.Goals as goal

pub returns : goal.returns
returns c =
    let r = c.args.report in
    let old = c.args.self.now in
    record {
      wrote =
          c.in_ok-push_report.ensures
          ∙ ap (λ hs. old.lines.items ++ report_line (record { frame = r.frame; name = r.name; heads = hs })) c.heads-heads.ensures
          ∙ ap (λ xs. old.lines.items ++ xs) (sym (append-nil (report_line (report_of r))));
      added = adds_one r old.latest c.push.new.self c.push.ensures.capacity c.push.ensures.holds;
    }
