use Rattle.std.proofs.Common.{◌≡◌, ◌++◌, ◌-◌, drop, map}
use Rattle.pliron_evaluator.specs.Tiny.{fitted_or_empty}
use Rattle.pliron_evaluator.specs.Evaluator.{datum_of_value}
use Rattle.pliron_evaluator.proofs.evaluator.tiny_moves.fit_data.Given as goal

abbrev pub invariant-loop-i : goal.invariant-loop-i
invariant-loop-i l = fitted_or_empty l.count (map datum_of_value l.input) ≡ map datum_of_value l.data.items ++ fitted_or_empty (l.count - l.i) (map datum_of_value (drop l.i l.input))
