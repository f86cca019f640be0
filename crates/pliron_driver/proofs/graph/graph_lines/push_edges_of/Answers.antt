use Rattle.std.proofs.Common.{nat_eq}
use Rattle.std.specs.Option.{option_to_list}
use Rattle.pliron_graph_traversal.specs.Adjacency.{graph_of}
use Rattle.pliron_graph_components.proofs.CallerLemmas.{Contains-item, IsListed-successor, edge_not_later}
use Rattle.pliron_driver.proofs.graph.graph_lines.push_edges_of.Goals as goal

pub edge_kind-kind-requires-clause-to_reached : goal.edge_kind-kind-requires-clause-to_reached
edge_kind-kind-requires-clause-to_reached c =
    let graph = graph_of c.args.graph.now.edges in
    IsListed-successor nat_eq graph (option_to_list graph.entry) c.args.search.now c.requires.search c.args.node c.get_successor-next.result c.requires.reached
    (Contains-item (graph.succ c.args.node) c.loop-i.i c.get_successor-next.result c.get_successor-next.ensures)

pub edge_kind-kind-requires-clause-not_later : goal.edge_kind-kind-requires-clause-not_later
edge_kind-kind-requires-clause-not_later c =
    let graph = graph_of c.args.graph.now.edges in
    edge_not_later nat_eq graph (option_to_list graph.entry) c.args.search.now c.requires.search c.args.node c.get_successor-next.result c.requires.reached
    (Contains-item (graph.succ c.args.node) c.loop-i.i c.get_successor-next.result c.get_successor-next.ensures)
