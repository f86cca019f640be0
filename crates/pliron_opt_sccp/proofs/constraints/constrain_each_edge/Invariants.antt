use Rattle.std.proofs.Common.{◌≡◌, Some}
use Rattle.pliron_core.specs.Tree.{successors_of}
use Rattle.pliron_laws.specs.Tree.{Operation, op_at}
use Rattle.pliron_opt_sccp.specs.LatticeTables.{known_constants, lattice_values_of}
use Rattle.pliron_opt_sccp.specs.Constraints.{Adds, EachBefore, FollowsEdge}
use Rattle.pliron_opt_sccp.proofs.constraints.constrain_each_edge.Given as goal

abbrev pub invariant-loop-i : goal.invariant-loop-i
invariant-loop-i g l = (o : Operation) → op_at l.ctx.tree l.branch.op ≡ Some o → Adds (known_constants l.tables) l.initial.constraints.items l.constraints.items (λ now. EachBefore (successors_of l.ctx.tree l.branch.op) l.i (FollowsEdge (record { meaning = g.D.HasMeaning.meaning; can_fold = g.D.ConstFoldInterface.can_fold; can_fold_branch = g.D.BranchOpFoldInterface.can_fold_branch; constants = g.D.ConstFoldInterface.constants; feasible = g.D.BranchOpFoldInterface.feasible; entry_operands = g.D.RegionBranchOpInterface.entry_operands }) l.ctx.tree (lattice_values_of l.tables) o now))
