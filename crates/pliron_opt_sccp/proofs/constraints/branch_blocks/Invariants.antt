use Rattle.std.proofs.Common.{◌↔◌, ℕ, nat_eq, take, IsTrue}
use Rattle.std.specs.HashSet.{contains}
use Rattle.pliron_core.specs.Tree.{In}
use Rattle.pliron_opt_sccp.proofs.constraints.branch_blocks.Given as goal

abbrev pub invariant-loop-block : goal.invariant-loop-block
invariant-loop-block g l = (b : ℕ) → IsTrue (contains nat_eq l.blocks b) ↔ In b (take l.block-index l.block-items)
