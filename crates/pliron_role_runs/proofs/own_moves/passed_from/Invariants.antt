use Rattle.std.proofs.Common.{◌≡◌, ◌++◌, drop, map, take}
use Rattle.pliron_evaluator.specs.Evaluator.{datum_of_value}
use Rattle.pliron_role_runs.proofs.own_moves.passed_from.Given as goal

abbrev pub invariant-loop-datum : goal.invariant-loop-datum
invariant-loop-datum l = map datum_of_value l.passed.items ≡ drop l.place (map datum_of_value l.operands) ++ map datum_of_value (take l.datum-index l.others)
