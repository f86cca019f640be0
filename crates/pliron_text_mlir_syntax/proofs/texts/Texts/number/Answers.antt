use Rattle.std.proofs.Common.{sym}
use Rattle.pliron_text_mlir_syntax.proofs.SheetLemmas.{text_found, text_kept}
use Rattle.pliron_text_mlir_syntax.proofs.texts.Texts.number.Goals as goal

pub returns-in-Some-clause-numbered : goal.returns-in-Some-clause-numbered
returns-in-Some-clause-numbered c = text_found c.args.text.now c.args.self.now.texts.keys c.in-Some.number (sym c.in-Some.ensures.index)

pub returns-clause-kept : goal.returns-clause-kept
returns-clause-kept c = text_kept _ _ _ _ c.in_ok-number.ensures.keys
