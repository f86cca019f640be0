use Rattle.std.proofs.Common.{◌≡◌, take, true}
use Rattle.pliron_role_runs.specs.Numbers.{are_known}
use Rattle.pliron_role_runs.proofs.numbers.are_known.Given as goal

abbrev pub invariant-loop-i : goal.invariant-loop-i
invariant-loop-i l = are_known (take l.i l.numbers) ≡ true
