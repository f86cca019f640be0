use Rattle.std.proofs.Common.{◌≡◌, take, drop}
use Rattle.pliron_role_runs.proofs.edges.attributes_from.Given as goal

abbrev pub invariant-loop-i : goal.invariant-loop-i
invariant-loop-i l = l.rest.items ≡ take l.i (drop l.first l.attrs)
