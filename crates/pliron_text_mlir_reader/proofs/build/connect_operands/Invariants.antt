use Rattle.std.proofs.Common.{◌≡◌}
use Rattle.pliron_text_mlir_reader.proofs.build.connect_operands.Given as goal

abbrev pub invariant-loop-at : goal.invariant-loop-at
invariant-loop-at l = l.ctx.tree.operations ≡ l.fn.ctx.tree.operations
