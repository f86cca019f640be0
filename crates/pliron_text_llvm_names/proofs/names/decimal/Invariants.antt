-- What is left of the digits goes on with the number.
use Rattle.std.proofs.Common.{◌≡◌, drop}
use Rattle.pliron_text_llvm_names.specs.Names.{decimal, decimal_behind}
use Rattle.pliron_text_llvm_names.proofs.names.decimal.Given as goal

abbrev pub invariant-loop-digit : goal.invariant-loop-digit
invariant-loop-digit l = decimal_behind l.number (drop l.digit-index l.digits) ≡ decimal l.digits
