use Rattle.pliron_text_llvm_classes.specs.StatementClasses.{case_bits}
use Rattle.pliron_text_mlir_syntax.proofs.NumberLemmas.{ReadsSo}
use Rattle.pliron_text_llvm_classes.proofs.class.all_bits.Given as goal

abbrev pub invariant-loop-case : goal.invariant-loop-case
invariant-loop-case l = ReadsSo (λ case. case_bits l.width case.now) l.cases l.case-index l.found.items
