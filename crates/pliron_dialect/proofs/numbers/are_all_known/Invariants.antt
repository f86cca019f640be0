use Rattle.std.proofs.Common.{IsSome, take}
use Rattle.pliron_dialect.specs.Roles.{all_known}
use Rattle.pliron_dialect.proofs.numbers.are_all_known.Given as goal

abbrev pub invariant-loop-i : goal.invariant-loop-i
invariant-loop-i l = IsSome (all_known (take l.i l.operand_attrs))
