use Rattle.pliron_opt_sccp.proofs.Listing.{stacked_next}
use Rattle.pliron_opt_sccp.proofs.inside.stack_up.Goals as goal

pub loop-item-preserved : goal.loop-item-preserved
loop-item-preserved g c =
    stacked_next c.loop-item.stack.items c.args.stack.now.items c.args.items.items c.loop-item.rest.items c.pop.new.self.items c.push.new.self.items c.in-Some.item c.loop-item.invariant c.in-Some.ensures.items c.in_ok-push.ensures.items
