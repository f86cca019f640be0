use Rattle.pliron_rewrite_rules.specs.Tables.{RuleTables}
use Rattle.pliron_core.specs.Tree.{operands_of}
use Rattle.pliron_rewrite_rules.specs.Seen.{operand_of}
use Rattle.pliron_rewrite_rules.proofs.ShownLemmas.{tables, mapped_more}
use Rattle.pliron_rewrite_rules.proofs.seeing.seen_operands.Goals as goal

pub loop-i-preserved : goal.loop-i-preserved
loop-i-preserved g c =
    let x : RuleTables = tables g.D.HasMeaning.meaning g.D.SideEffects.side_effects g.D.ConstFoldInterface.can_fold g.D.ConstFoldInterface.constants g.D.ConstFoldInterface.accepts g.D.ConstFoldInterface.constant_head in
    mapped_more (operand_of x c.args.ctx.now.tree) (operands_of c.args.ctx.now.tree c.args.op) c.loop-i.i c.get_operand.result c.loop-i.operands.items c.push.new.self.items c.in_ok-operand_of.field-0 c.get_operand.ensures.operand c.loop-i.invariant c.in_ok-operand_of.ensures.ok c.in_ok-push.ensures.items
