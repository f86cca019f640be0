use Rattle.std.proofs.Common.{ℕ}
use Rattle.pliron_core.specs.Tree.{In}
use Rattle.pliron_opt_rotate.proofs.covering.set_of_operations.Given as goal

abbrev pub invariant-loop-i : goal.invariant-loop-i
invariant-loop-i l = (k : ℕ) → In k l.set.keys → In k l.ops
