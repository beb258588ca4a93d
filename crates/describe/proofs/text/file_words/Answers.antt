use Rattle.std.proofs.Common.{string_bytes}
use Rattle.describe.proofs.Telling.{tells_refused, tells_read, if_ok_each}
use Rattle.describe.proofs.text.file_words.Goals as goal

pub returns-in-Ok : goal.returns-in-Ok
returns-in-Ok g c = if_ok_each _ c.sheet_words.result (λ t. tells_read _ _ _ (string_bytes t) c.in-Ok.ensures.fixed.read.answer)

pub returns-in_ok-fault_words-in-Err : goal.returns-in_ok-fault_words-in-Err
returns-in_ok-fault_words-in-Err g c =
    tells_refused _ _ _ (string_bytes c.in_ok-fault_words-in-Err.field-0) c.in-Err.ensures.fixed.read.answer c.in_ok-fault_words-in-Err.ensures
