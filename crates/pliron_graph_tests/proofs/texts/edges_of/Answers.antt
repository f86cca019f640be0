use Rattle.std.specs.Option.{option_to_list}
use Rattle.pliron_graph_components.proofs.CallerLemmas.{Contains-item, IsListed-successor, edge_not_later}
use Rattle.pliron_graph_tests.proofs.texts.edges_of.Goals as goal

pub edge_kind-kind-requires-clause-to_reached : goal.edge_kind-kind-requires-clause-to_reached
edge_kind-kind-requires-clause-to_reached g c =
    let graph = g.G.ControlFlowGraph.graph c.args.graph.now c.args.ctx.now in
    let node = c.args.node.now in
    IsListed-successor g.G.Node.PartialEq.eq graph (option_to_list graph.entry) c.args.search.now c.requires.search node c.get_successor-to.result c.requires.reached
    (Contains-item (graph.succ node) c.loop-i.i c.get_successor-to.result c.get_successor-to.ensures)

pub edge_kind-kind-requires-clause-not_later : goal.edge_kind-kind-requires-clause-not_later
edge_kind-kind-requires-clause-not_later g c =
    let graph = g.G.ControlFlowGraph.graph c.args.graph.now c.args.ctx.now in
    let node = c.args.node.now in
    edge_not_later g.G.Node.PartialEq.eq graph (option_to_list graph.entry) c.args.search.now c.requires.search node c.get_successor-to.result c.requires.reached
    (Contains-item (graph.succ node) c.loop-i.i c.get_successor-to.result c.get_successor-to.ensures)
