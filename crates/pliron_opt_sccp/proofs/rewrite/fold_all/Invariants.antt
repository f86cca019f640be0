use Rattle.pliron_opt_sccp.specs.RewriteSteps.{IsFoldingOn}
use Rattle.pliron_opt_sccp.proofs.rewrite.fold_all.Given as goal

abbrev pub invariant-loop-i : goal.invariant-loop-i
invariant-loop-i g l = IsFoldingOn (record { meaning = g.D.HasMeaning.meaning; can_fold = g.D.ConstFoldInterface.can_fold; can_fold_branch = g.D.BranchOpFoldInterface.can_fold_branch; constants = g.D.ConstFoldInterface.constants; feasible = g.D.BranchOpFoldInterface.feasible; entry_operands = g.D.RegionBranchOpInterface.entry_operands }) g.D.ConstFoldInterface.outcome l.fn.ctx.tree l.folds l.i l.status l.ctx.tree
