use Rattle.pliron_opt_sccp.specs.LatticeTables.{value_worklist_len}
use Rattle.pliron_opt_sccp.proofs.ReactionLemmas.{IsTaking}
use Rattle.pliron_opt_sccp.proofs.search.take_values.Given as goal

abbrev pub invariant-loop-value : goal.invariant-loop-value
invariant-loop-value g l = IsTaking (record { meaning = g.D.HasMeaning.meaning; can_fold = g.D.ConstFoldInterface.can_fold; can_fold_branch = g.D.BranchOpFoldInterface.can_fold_branch; constants = g.D.ConstFoldInterface.constants; feasible = g.D.BranchOpFoldInterface.feasible; entry_operands = g.D.RegionBranchOpInterface.entry_operands }) l.ctx.tree l.edges l.initial.tables l.tables l.scheduled.users.keys l.scheduled.constraints.items l.taken

abbrev pub decreases-loop-value : goal.decreases-loop-value
decreases-loop-value g l = value_worklist_len l.tables
