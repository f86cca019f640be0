use Rattle.pliron_text_mlir_syntax.specs.Numbers.{bits_written}
use Rattle.pliron_text_mlir_syntax.proofs.NumberLemmas.{ReadsSo}
use Rattle.pliron_text_mlir_syntax.proofs.numbers.all_bits.Given as goal

abbrev pub invariant-loop-number : goal.invariant-loop-number
invariant-loop-number l = ReadsSo (bits_written l.width) l.found l.number-index l.cases.items
