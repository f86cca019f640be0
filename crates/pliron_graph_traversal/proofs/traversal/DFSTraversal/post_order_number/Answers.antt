use Rattle.std.proofs.Common.{arith}
use Rattle.pliron_graph_traversal.proofs.PlaceLemmas.{listed_within}
use Rattle.pliron_graph_traversal.proofs.traversal.DFSTraversal.post_order_number.Goals as goal

pub returns-clause-within : goal.returns-clause-within
returns-clause-within g c = omega (arith, c.place_left.ensures.number, listed_within (g.N.PartialEq.eq c.args.node.now) c.args.self.now.post c.place_left.ensures.listed)
