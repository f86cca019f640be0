use Rattle.pliron_text_mlir_syntax.specs.Numbers.{count_of_number}
use Rattle.pliron_text_mlir_syntax.proofs.NumberLemmas.{ReadsSo}
use Rattle.pliron_text_mlir_syntax.proofs.numbers.counts_of.Given as goal

abbrev pub invariant-loop-number : goal.invariant-loop-number
invariant-loop-number l = ReadsSo count_of_number l.numbers l.number-index l.counts.items
