use Rattle.pliron_graph_components.proofs.CollectLemmas.{takes_none, takes_next}
use Rattle.pliron_graph_components.proofs.components.hold_predecessors.Goals as goal

pub loop-i-init : goal.loop-i-init
loop-i-init g c =
    let graph = g.G.ControlFlowGraph.graph c.args.graph.now c.args.ctx.now in
    let lawful = g.met.G.ControlFlowGraph.laws c.args.graph.now c.args.ctx.now c.requires.lawful in
    takes_none g.G.Node.PartialEq.eq g.met.G.Node.Eq.laws lawful.same (graph.pred c.args.node.now) (g.S.ListedSet.listed c.args.held.now)

pub loop-i-preserved : goal.loop-i-preserved
loop-i-preserved g c =
    let graph = g.G.ControlFlowGraph.graph c.args.graph.now c.args.ctx.now in
    let lawful = g.met.G.ControlFlowGraph.laws c.args.graph.now c.args.ctx.now c.requires.lawful in
    takes_next g.G.Node.PartialEq.eq g.met.G.Node.Eq.laws lawful.same (graph.pred c.args.node.now) (g.S.ListedSet.listed c.args.held.now) (g.S.ListedSet.listed c.loop-i.held) (g.S.ListedSet.listed c.insert.new.self) c.loop-i.i c.get_predecessor.result c.get_predecessor.ensures c.in_ok-insert.ensures.keys c.in_ok-insert.ensures.unique c.loop-i.invariant
