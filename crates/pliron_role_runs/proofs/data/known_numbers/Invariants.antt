use Rattle.std.proofs.Common.{◌≡◌, map, take, Some}
use Rattle.pliron_dialect.specs.Roles.{number_of}
use Rattle.pliron_evaluator.specs.Evaluator.{datum_of_value}
use Rattle.pliron_role_runs.proofs.data.known_numbers.Given as goal

abbrev pub invariant-loop-datum : goal.invariant-loop-datum
invariant-loop-datum l = l.numbers.items ≡ map Some (map number_of (map datum_of_value (take l.datum-index l.input)))
