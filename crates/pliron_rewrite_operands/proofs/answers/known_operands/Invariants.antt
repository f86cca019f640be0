use Rattle.std.proofs.Common.{◌≡◌, map, take}
use Rattle.pliron_core.specs.Tree.{operands_of, definition_of}
use Rattle.pliron_rewrite_operands.specs.Answers.{known_by}
use Rattle.pliron_rewrite_operands.proofs.Known.{folding}
use Rattle.pliron_rewrite_operands.proofs.answers.known_operands.Given as goal

abbrev pub invariant-loop-i : goal.invariant-loop-i
invariant-loop-i g l = l.attrs.items ≡ map (λ v. known_by (folding g.D.HasMeaning.meaning g.D.SideEffects.side_effects g.D.ConstFoldInterface.can_fold g.D.ConstFoldInterface.constants g.D.ConstFoldInterface.accepts g.D.ConstFoldInterface.constant_head g.D.OperandFoldInterface.operand_folds) l.ctx.tree (definition_of l.ctx.tree v)) (take l.i (operands_of l.ctx.tree l.op))
