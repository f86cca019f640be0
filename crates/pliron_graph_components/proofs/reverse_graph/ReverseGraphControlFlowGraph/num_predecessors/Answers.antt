use Rattle.std.proofs.Common.{length, ap}
use Rattle.pliron_graph_components.proofs.ReverseLemmas.{kept_node, kept_list}
use Rattle.pliron_graph_components.proofs.reverse_graph.ReverseGraphControlFlowGraph.num_predecessors.Goals as goal

pub predecessors_of-requires-clause-listed : goal.predecessors_of-requires-clause-listed
predecessors_of-requires-clause-listed g c =
    let graph = g.G.ControlFlowGraph.graph c.args.self.now.original c.args._ctx.now in
    let lawful = g.met.G.ControlFlowGraph.laws c.args.self.now.original c.args._ctx.now c.requires.lawful.0 in
    kept_node g.G.Node.PartialEq.eq lawful.same g.met.G.Node.Eq.laws.refl graph c.args.self.now c.requires.lawful.1 c.args.node.now c.in-Real.v c.in-Real.is c.requires.member

pub returns-in-Real : goal.returns-in-Real
returns-in-Real g c =
    let graph = g.G.ControlFlowGraph.graph c.args.self.now.original c.args._ctx.now in
    let lawful = g.met.G.ControlFlowGraph.laws c.args.self.now.original c.args._ctx.now c.requires.lawful.0 in
    ap length (kept_list g.G.Node.PartialEq.eq lawful.same g.met.G.Node.Eq.laws.refl graph c.args.self.now c.requires.lawful.1 c.args.node.now c.in-Real.v c.in-Real.is c.requires.member c.predecessors_of.result.now c.predecessors_of.ensures)
