use Rattle.std.proofs.Common.{arith}
use Rattle.pliron_graph_traversal.proofs.AdjacencyLemmas.{adds_at}
use Rattle.pliron_graph_traversal.proofs.adjacency.add_edges.Goals as goal

pub loop-target-preserved : goal.loop-target-preserved
loop-target-preserved c =
    adds_at (λ r. r.items) c.args.predecessors.now c.loop-target.predecessors c.args.source c.loop-target.target-index c.args.targets.now c.add_edge.new.row c.index-predecessors-target.result (omega arith) (omega (arith, c.requires c.loop-target.target-index 0 (omega arith))) c.in_ok-add_edge.ensures.added c.loop-target.invariant
