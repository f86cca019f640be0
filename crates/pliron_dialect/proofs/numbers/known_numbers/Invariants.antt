use Rattle.std.proofs.Common.{◌≡◌, take, map}
use Rattle.pliron_dialect.specs.Roles.{known_as}
use Rattle.pliron_dialect.proofs.numbers.known_numbers.Given as goal

abbrev pub invariant-loop-i : goal.invariant-loop-i
invariant-loop-i l = l.numbers.items ≡ map known_as (take l.i l.operand_attrs)
