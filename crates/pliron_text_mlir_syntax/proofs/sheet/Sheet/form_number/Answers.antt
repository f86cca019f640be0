use Rattle.pliron_text_mlir_syntax.proofs.SheetLemmas.{keys_kept}
use Rattle.pliron_text_mlir_syntax.proofs.sheet.Sheet.form_number.Goals as goal

pub returns-clause-kept : goal.returns-clause-kept
returns-clause-kept c = (λ number text is. is, keys_kept _ _ _ _ c.in_ok-number.ensures.keys)
