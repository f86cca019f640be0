use Rattle.std.proofs.Common.{◌≡◌, ◌<◌, ℕ, Some, IsTrue, slice_get}
use Rattle.pliron_core.specs.Tree.{regions_of}
use Rattle.pliron_core.specs.Reads.{has_ssa}
use Rattle.pliron_show_commands.proofs.one_by_one.is_container.Given as goal

abbrev pub invariant-loop-i : goal.invariant-loop-i
invariant-loop-i l = (j r : ℕ) → j < l.i → slice_get (regions_of l.ctx.tree l.op) j ≡ Some r → IsTrue (has_ssa l.ctx.tree r)
