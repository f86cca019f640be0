use Rattle.pliron_opt_cse.proofs.OnWay.{ordered_start}
use Rattle.pliron_opt_cse.proofs.cse_through.Goals as goal

pub merge_all-requires-clause-ordered : goal.merge_all-requires-clause-ordered
merge_all-requires-clause-ordered g c = ordered_start c.args.ctx.now.tree c.well_formed-2.ensures.tree c.args.op c.in_ok-order.order.operations.items c.in_ok-order.order.ends.items c.in_ok-order.ensures.order
