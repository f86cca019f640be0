use Rattle.std.proofs.Common.{length}
use Rattle.pliron_text_mlir_syntax.proofs.numbers.+low_first.Given as goal

abbrev pub decreases-low_first : goal.decreases-low_first
decreases-low_first l = length l.digits.now
