use Rattle.std.proofs.Common.{◌≡◌, drop, map}
use Rattle.pliron_laws.specs.States.{data_of}
use Rattle.pliron_evaluator.specs.Evaluator.{datum_of_value, environment_of}
use Rattle.pliron_evaluator.proofs.EvaluatorLemmas.{prepend}
use Rattle.pliron_evaluator.proofs.evaluator.environment.all_data.Given as goal

abbrev pub invariant-loop-value : goal.invariant-loop-value
invariant-loop-value l = data_of (environment_of l.environment) l.values ≡ prepend (map datum_of_value l.data.items) (data_of (environment_of l.environment) (drop l.value-index l.values))
