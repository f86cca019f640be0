use Rattle.pliron_core.specs.Tree.{operands_of, definition_of}
use Rattle.pliron_rewrite_operands.specs.Answers.{Folding, known_by}
use Rattle.pliron_rewrite_operands.proofs.Known.{folding, mapped_more}
use Rattle.pliron_rewrite_operands.proofs.answers.known_operands.Goals as goal

pub loop-i-preserved : goal.loop-i-preserved
loop-i-preserved g c =
    let x : Folding = folding g.D.HasMeaning.meaning g.D.SideEffects.side_effects g.D.ConstFoldInterface.can_fold g.D.ConstFoldInterface.constants g.D.ConstFoldInterface.accepts g.D.ConstFoldInterface.constant_head g.D.OperandFoldInterface.operand_folds in
    mapped_more (λ v. known_by x c.args.ctx.now.tree (definition_of c.args.ctx.now.tree v)) (operands_of c.args.ctx.now.tree c.args.op) c.loop-i.i c.get_operand.result c.loop-i.attrs.items c.push.new.self.items c.in_ok-known_of.field-0 c.get_operand.ensures.operand c.loop-i.invariant c.in_ok-known_of.ensures.ok c.in_ok-push.ensures.items
