use Rattle.pliron_opt_cfg.specs.FoldSteps.{IsFoldingBranches}
use Rattle.pliron_opt_cfg.proofs.folding.fold_branches.Given as goal

abbrev pub invariant-loop-i : goal.invariant-loop-i
invariant-loop-i g l = IsFoldingBranches g.D.HasMeaning.meaning g.D.ConstFoldInterface.can_fold g.D.BranchOpFoldInterface.can_fold_branch g.D.ConstFoldInterface.constants g.D.BranchOpFoldInterface.outcome l.fn.root l.fn.ctx.tree l.branches.items l.i l.status l.ctx.tree
