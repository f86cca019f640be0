use Rattle.std.proofs.Common.{sym, ◌∙◌}
use Rattle.pliron_text_mlir_reader.proofs.SaidLemmas.{listed_llvm}
use Rattle.pliron_text_mlir_reader.proofs.heads.overflow_said.Goals as goal

pub returns-then-starts_with : goal.returns-then-starts_with
returns-then-starts_with c = c.overflow_listed.ensures ∙ sym (listed_llvm c.args.text.now (sym c.if-starts_with.ensures.value))
