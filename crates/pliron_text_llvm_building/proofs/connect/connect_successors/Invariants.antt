-- No operation is made.
use Rattle.std.proofs.Common.{◌≡◌}
use Rattle.pliron_text_llvm_building.proofs.connect.connect_successors.Given as goal

abbrev pub invariant-loop-at : goal.invariant-loop-at
invariant-loop-at l = l.ctx.tree.operations ≡ l.fn.ctx.tree.operations
