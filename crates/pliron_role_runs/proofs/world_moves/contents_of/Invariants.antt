use Rattle.std.proofs.Common.{◌≡◌, map, take}
use Rattle.pliron_laws.specs.Datum.{datum_of}
use Rattle.pliron_evaluator.specs.Evaluator.{datum_of_value}
use Rattle.pliron_role_runs.proofs.world_moves.contents_of.Given as goal

abbrev pub invariant-loop-i : goal.invariant-loop-i
invariant-loop-i l = map datum_of_value l.contents.items ≡ map datum_of (take l.i l.attrs)
