use Rattle.std.proofs.Common.{◌≡◌, drop}
use Rattle.pliron_text_mlir_syntax.specs.Numbers.{with_digits}
use Rattle.pliron_text_mlir_syntax.proofs.numbers.digits_of.Given as goal

abbrev pub invariant-loop-byte : goal.invariant-loop-byte
invariant-loop-byte l = with_digits l.base 0 l.text ≡ with_digits l.base l.number (drop l.byte-index l.text)
