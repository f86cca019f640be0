use Rattle.std.proofs.Common.{◌≡◌, ◌++◌, ◌-◌, drop, map}
use Rattle.pliron_evaluator.specs.Evaluator.{datum_of_value}
use Rattle.pliron_dialect_bench.specs.BenchMoves.{fit_with_zeros}
use Rattle.pliron_role_runs.proofs.own_moves.fitted_to.Given as goal

abbrev pub invariant-loop-i : goal.invariant-loop-i
invariant-loop-i l = fit_with_zeros l.count (map datum_of_value l.input) ≡ map datum_of_value l.data.items ++ fit_with_zeros (l.count - l.i) (map datum_of_value (drop l.i l.input))
