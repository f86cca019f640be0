use Rattle.pliron_text_mlir_syntax.specs.Numbers.{signed_written}
use Rattle.pliron_text_mlir_syntax.proofs.NumberLemmas.{ReadsSo}
use Rattle.pliron_text_mlir_syntax.proofs.numbers.numbers_of.Given as goal

abbrev pub invariant-loop-part : goal.invariant-loop-part
invariant-loop-part l = ReadsSo (λ part. signed_written part.now) l.parts l.part-index l.found.items
