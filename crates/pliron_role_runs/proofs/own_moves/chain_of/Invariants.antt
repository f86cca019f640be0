use Rattle.std.proofs.Common.{◌≡◌, ◌-◌, drop, length, map}
use Rattle.pliron_evaluator.specs.Evaluator.{datum_of_value}
use Rattle.pliron_dialect.specs.Roles.{chain_of}
use Rattle.pliron_role_runs.proofs.own_moves.chain_of.Given as goal

abbrev pub invariant-loop-i : goal.invariant-loop-i
invariant-loop-i l = datum_of_value l.chain ≡ chain_of (map datum_of_value (drop (length l.values - l.i) l.values))
