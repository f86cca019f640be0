use Rattle.std.proofs.Common.{length}
use Rattle.pliron_core.specs.Walks.{contents}
use Rattle.pliron_core.specs.WalkSteps.{rest_from}
use Rattle.pliron_opt_sccp.specs.LatticeTables.{lattice_values_of}
use Rattle.pliron_opt_sccp.proofs.ListedFolds.{IsFoldListing}
use Rattle.pliron_opt_sccp.proofs.rewrite.all_folds.Given as goal

abbrev pub invariant-loop-at : goal.invariant-loop-at
invariant-loop-at g l = IsFoldListing (record { meaning = g.D.HasMeaning.meaning; can_fold = g.D.ConstFoldInterface.can_fold; can_fold_branch = g.D.BranchOpFoldInterface.can_fold_branch; constants = g.D.ConstFoldInterface.constants; feasible = g.D.BranchOpFoldInterface.feasible; entry_operands = g.D.RegionBranchOpInterface.entry_operands }) l.ctx.tree l.root (lattice_values_of l.tables) l.folds l.at

abbrev pub decreases-loop-at : goal.decreases-loop-at
decreases-loop-at g l = length (rest_from l.at (contents l.ctx.tree l.root))
