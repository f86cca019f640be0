use Rattle.pliron_core.specs.Tree.{successors_of}
use Rattle.pliron_dialect.proofs.RangeReads.{block_more}
use Rattle.pliron_dialect.proofs.ranges.all_successors.Goals as goal

pub loop-j-preserved : goal.loop-j-preserved
loop-j-preserved c = block_more (successors_of c.args.ctx.now.tree c.args.op) c.loop-j.blocks.items _ c.loop-j.j c.get_successor.result c.in_ok-push.ensures.items c.loop-j.invariant c.get_successor.ensures.successor
