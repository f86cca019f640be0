use Rattle.pliron_core.specs.Tree.{operands_of}
use Rattle.pliron_dialect.proofs.RangeReads.{more_picked}
use Rattle.pliron_dialect.proofs.ranges.operands_at.Goals as goal

pub loop-j-preserved : goal.loop-j-preserved
loop-j-preserved c = more_picked (operands_of c.args.ctx.now.tree c.args.op) c.loop-j.values.items _ c.args.places.first c.loop-j.j c.get_operand.result c.in_ok-push.ensures.items c.loop-j.invariant c.get_operand.ensures.operand
