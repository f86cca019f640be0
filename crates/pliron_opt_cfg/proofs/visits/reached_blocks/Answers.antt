use Rattle.pliron_opt_cfg.proofs.Tested.{search_lists}
use Rattle.pliron_opt_cfg.proofs.visits.reached_blocks.Goals as goal

pub returns-clause-reached : goal.returns-clause-reached
returns-clause-reached c = search_lists c.args.ctx.now.tree c.args.region c.in_ok-search.search c.in_ok-in_visiting_order.field-0.items c.in_ok-search.ensures.search c.in_ok-in_visiting_order.ensures
