use Rattle.std.proofs.Common.{◌≡◌}
use Rattle.pliron_opt_dce.proofs.operand_indexing.settle_rows.Given as goal

abbrev pub invariant-loop-edge : goal.invariant-loop-edge
invariant-loop-edge l = l.ctx ≡ l.fn.ctx
