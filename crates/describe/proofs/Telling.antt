-- What is told of a sheet, from the answer of reading it. Assumes nothing.
use Rattle.std.proofs.Common.{◌≡◌, ℕ, [], ◌∷◌, ◌++◌, append_assoc, ap, sym, ◌∙◌, List, Ok, Err, Result, IfOk}
use Rattle.sheetfile.specs.declared.fault.Fault.{Fault}
use Rattle.sheetfile.specs.Card.{told}
use Rattle.sheetfile.specs.Texts.{fault_text}
use Rattle.sheetfile.specs.Outcomes.{mapped}
use Rattle.describe.specs.Texts.{reason_line, RefusedText, Tells}

module _ {A B : Type 0} (f : A → B) where
  pub tells_refused : (end : Result A Fault) (e : Fault) (text : List ℕ) → Err e ≡ mapped f end → RefusedText e text → Tells end text
  tells_refused (Ok a) e text h t = cc
  tells_refused (Err d) e text h t = let same : e ≡ d = cc in (reason_line d, t ∙ ap (λ d. fault_text (told d) ++ (10 ∷ reason_line d)) same ∙ sym (append_assoc (fault_text (told d)) (10 ∷ []) (reason_line d)))

  pub tells_read : (end : Result A Fault) (b : B) (text : List ℕ) → Ok b ≡ mapped f end → Tells end text
  tells_read (Ok a) b text h = tt
  tells_read (Err d) b text h = cc

pub if_ok_each : {T E : Type 0} (P : T → Type 0) (r : Result T E) → ((x : T) → P x) → IfOk r P
if_ok_each P (Ok x) h = h x
if_ok_each P (Err e) h = tt
