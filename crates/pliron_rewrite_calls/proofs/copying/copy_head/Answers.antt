use Rattle.pliron_rewrite_calls.proofs.CopyLists.{item_more}
use Rattle.pliron_rewrite_calls.proofs.copying.copy_head.Goals as goal

pub loop-i-preserved : goal.loop-i-preserved
loop-i-preserved c = item_more c.args.head.now.attrs c.loop-i.attrs.items _ c.loop-i.i c.in_ok-attr.attr c.get.result.now c.in_ok-push.ensures.items c.loop-i.invariant c.in_ok-attr.ensures c.get.ensures
