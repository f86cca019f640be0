use Rattle.std.proofs.Common.{◌≡◌, ap}
use Rattle.pliron_graph_components.proofs.ReverseLemmas.{real_node}
use Rattle.pliron_graph_components.proofs.reverse_graph.ReverseGraphControlFlowGraph.num_successors.Goals as goal

pub num_predecessors-requires-clause-member : goal.num_predecessors-requires-clause-member
num_predecessors-requires-clause-member g c =
    let original : c.self.inside.original.now ≡ c.args.self.now.original = ap (λ r. r.original) c.self.view_is in
    rw original (real_node (g.G.ControlFlowGraph.graph c.args.self.now.original c.args.ctx.now).nodes c.args.node.now c.in-Real.v c.in-Real.is c.requires.member)
