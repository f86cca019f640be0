use Rattle.std.proofs.Common.{rules}
use Rattle.std.proofs.lemmas.List.Sorted.{answers_always}
use Rattle.pliron_graph_traversal.specs.Internal.RegionLawful.{node_is_live}
use Rattle.pliron_graph_traversal.proofs.RegionLemmas.{sorted_preds}
use Rattle.pliron_graph_traversal.proofs.region.PtrRegionControlFlowGraphContext.predecessors.Goals as goal

pub edge_sources-requires : goal.edge_sources-requires
edge_sources-requires c = node_is_live c.args.ctx.now.tree c.args.self.now c.requires.lawful c.args.node.now c.requires.member

pub returns-clause-list : goal.returns-clause-list
returns-clause-list c =
    let t = c.args.ctx.now.tree in
    let live = node_is_live t c.args.self.now c.requires.lawful c.args.node.now c.requires.member in
    let sorted = c.sort_unstable_by_key.ensures.sorted (λ x. x) (answers_always _ _ _ (λ f a r g h. search rules)) in
    sorted_preds t c.args.self.now c.requires.lawful c.args.node.now c.requires.member live _ _ _ c.in_ok-sources.ensures.sources c.sort_unstable_by_key.ensures.permutation sorted c.dedup.ensures.filtered
