use Rattle.pliron_opt_canonicalize.proofs.Parts.{folding}
use Rattle.pliron_opt_canonicalize.specs.Steps.{AreDone}
use Rattle.pliron_opt_canonicalize.proofs.rounds.fold_round.Given as goal

abbrev pub invariant-loop-i : goal.invariant-loop-i
invariant-loop-i g l = AreDone (folding g.D.HasMeaning.meaning g.D.SideEffects.side_effects g.D.ConstFoldInterface.can_fold g.D.ConstFoldInterface.constants g.D.ConstFoldInterface.accepts g.D.ConstFoldInterface.constant_head g.D.OperandFoldInterface.operand_folds) l.fn.ctx.tree l.ctx.tree l.fn.root (λ f. ⊥) l.status
