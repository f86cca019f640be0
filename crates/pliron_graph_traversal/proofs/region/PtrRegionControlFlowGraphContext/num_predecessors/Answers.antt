use Rattle.pliron_graph_traversal.specs.Internal.RegionLawful.{node_is_live}
use Rattle.pliron_graph_traversal.proofs.region.PtrRegionControlFlowGraphContext.num_predecessors.Goals as goal

pub num_pred-requires : goal.num_pred-requires
num_pred-requires c = node_is_live c.args.ctx.now.tree c.args.self.now c.requires.lawful c.args.node.now c.requires.member
