use Rattle.std.proofs.Common.{◌∙◌}
use Rattle.std.proofs.lemmas.Result.{IfOk-weaker}
use Rattle.pliron_rewrite_operands.specs.Answers.{Folding}
use Rattle.pliron_rewrite_operands.proofs.Known.{folding, operands_answered}
use Rattle.pliron_rewrite_operands.proofs.answers.operand_answers.Goals as goal

pub returns-clause-ok : goal.returns-clause-ok
returns-clause-ok g c =
    let x : Folding = folding g.D.HasMeaning.meaning g.D.SideEffects.side_effects g.D.ConstFoldInterface.can_fold g.D.ConstFoldInterface.constants g.D.ConstFoldInterface.accepts g.D.ConstFoldInterface.constant_head g.D.OperandFoldInterface.operand_folds in
    IfOk-weaker c.fold_to_operand.result _ _ (λ answers reads. operands_answered x c.args.ctx.now.tree c.args.op c.deref.result.now answers.items (c.deref.ensures.value ∙ c.in_ok-known.ensures.ok) reads) c.fold_to_operand.ensures.ok
