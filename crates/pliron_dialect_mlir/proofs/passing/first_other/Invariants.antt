use Rattle.std.proofs.Common.{◌≡◌, map, drop}
use Rattle.pliron_evaluator.specs.Evaluator.{datum_of_value}
use Rattle.pliron_dialect_mlir.specs.OtherData.{first_other}
use Rattle.pliron_dialect_mlir.proofs.passing.first_other.Given as goal

abbrev pub invariant-loop-datum : goal.invariant-loop-datum
invariant-loop-datum l = first_other l.width (map datum_of_value l.input) ≡ first_other l.width (map datum_of_value (drop l.datum-index l.input))
