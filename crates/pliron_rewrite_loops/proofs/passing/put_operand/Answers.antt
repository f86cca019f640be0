use Rattle.pliron_rewrite_loops.proofs.PassingSteps.{row_within, is_put}
use Rattle.pliron_rewrite_loops.proofs.passing.put_operand.Goals as goal

pub returns-clause-ok : goal.returns-clause-ok
returns-clause-ok c =
    let t = c.args.ctx.now.tree in
    is_put t c.insert_operand.new.ctx.tree c.remove_operand.new.ctx.tree c.args.op c.args.i c.args.value (row_within t c.args.op c.args.i c.requires.index) c.requires.index c.in_ok-insert_operand.ensures.ok c.remove_operand.ensures.tree
