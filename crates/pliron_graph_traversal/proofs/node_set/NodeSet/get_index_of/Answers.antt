use Rattle.std.proofs.Common.{rules, ◌≡◌, ◌∙◌, ap, is_some, position}
use Rattle.pliron_graph_traversal.proofs.NodeSetLemmas.{place_tells}
use Rattle.pliron_graph_traversal.proofs.node_set.NodeSet.get_index_of.Goals as goal

pub returns-in-Numbered-clause-found : goal.returns-in-Numbered-clause-found
returns-in-Numbered-clause-found g c =
    let is : c.marked_place.result ≡ position (g.N.PartialEq.eq c.args.node.now) c.args.self.now = search rules in
    ap is_some is ∙ place_tells (g.N.PartialEq.eq c.args.node.now) c.args.self.now
