use Rattle.pliron_dialect_edges.proofs.BranchLemmas.{attribute_more}
use Rattle.pliron_dialect_edges.proofs.replace.copy_head.Goals as goal

pub loop-i-preserved : goal.loop-i-preserved
loop-i-preserved c = attribute_more c.args.head.now.attrs c.loop-i.attrs.items _ c.loop-i.i c.in_ok-attr.attr c.get.result.now c.in_ok-push.ensures.items c.loop-i.invariant c.in_ok-attr.ensures c.get.ensures
