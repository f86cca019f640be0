use Rattle.std.proofs.Common.{◌≡◌, Some, ap, ◌∙◌}
use Rattle.pliron_core.specs.Tree.{operands_of}
use Rattle.pliron_rewrite_equals.proofs.SameLists.{same_more, told_same}
use Rattle.pliron_rewrite_equals.proofs.alike.has_same_operands.Goals as goal

pub loop-i-preserved : goal.loop-i-preserved
loop-i-preserved c =
    let same : c.get_operand.result ≡ c.get_operand-in-loop-i.result = told_same c.get_operand.result c.get_operand-in-loop-i.result c.ne.result c.ne.ensures c.if-ne.false in
    same_more (operands_of c.args.ctx.now.tree c.args.second) (operands_of c.args.ctx.now.tree c.args.first) c.loop-i.i c.get_operand-in-loop-i.result c.loop-i.invariant c.get_operand-in-loop-i.ensures.operand (c.get_operand.ensures.operand ∙ ap Some same)
