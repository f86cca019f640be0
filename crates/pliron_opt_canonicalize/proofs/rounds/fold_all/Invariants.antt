use Rattle.pliron_opt_canonicalize.proofs.Parts.{folding}
use Rattle.pliron_opt_canonicalize.specs.Steps.{IsFolding}
use Rattle.pliron_opt_canonicalize.proofs.Doing.{folds_left}
use Rattle.pliron_opt_canonicalize.proofs.rounds.fold_all.Given as goal

abbrev pub invariant-loop-folds_again : goal.invariant-loop-folds_again
invariant-loop-folds_again g l = IsFolding (folding g.D.HasMeaning.meaning g.D.SideEffects.side_effects g.D.ConstFoldInterface.can_fold g.D.ConstFoldInterface.constants g.D.ConstFoldInterface.accepts g.D.ConstFoldInterface.constant_head g.D.OperandFoldInterface.operand_folds) l.fn.ctx.tree l.ctx.tree l.fn.root l.sites l.status l.folds_again

abbrev pub decreases-loop-folds_again : goal.decreases-loop-folds_again
decreases-loop-folds_again g l = folds_left l.ctx.tree l.folds_again
