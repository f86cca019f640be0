use Rattle.std.proofs.Common.{◌≡◌, drop, map}
use Rattle.pliron_laws.specs.States.{bind}
use Rattle.pliron_evaluator.specs.Evaluator.{datum_of_value, environment_of}
use Rattle.pliron_evaluator.proofs.evaluator.environment.bind.Given as goal

abbrev pub invariant-loop-i : goal.invariant-loop-i
invariant-loop-i l = bind (environment_of l.initial.environment) l.values (map datum_of_value l.content) ≡ bind (environment_of l.environment) (drop l.i l.values) (map datum_of_value (drop l.i l.content))
