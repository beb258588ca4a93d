use Rattle.std.proofs.Common.{Err, ap, ◌∙◌}
use Rattle.std.proofs.lemmas.Result.{err_from_is_err_and}
use Rattle.replug.proofs.Refusing.{refuses_fault}
use Rattle.replug.proofs.text.kind_text.Goals as goal

pub returns-in_err-read_sheet : goal.returns-in_err-read_sheet
returns-in_err-read_sheet g c =
    let r = c.from_residual.result in
    let told = err_from_is_err_and r c.from_residual.ensures.1 in
    refuses_fault _ _ _ r c.in_err-read_sheet.ensures.fixed.read.answer (told.1 ∙ ap Err told.2)
