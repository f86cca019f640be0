use Rattle.pliron_graph_order.specs.Numbering.{key_eq}
use Rattle.pliron_opt_combine.proofs.Listing.{inserted_more}
use Rattle.pliron_opt_combine.proofs.worklist.RewriteWorklist.add_new.Goals as goal

pub returns-clause-seen : goal.returns-clause-seen
returns-clause-seen c = inserted_more key_eq c.args.self.now.seen.keys _ c.args.op c.in_ok-place.ensures.keys
