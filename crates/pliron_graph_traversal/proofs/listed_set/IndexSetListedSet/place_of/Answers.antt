use Rattle.pliron_graph_traversal.proofs.PlaceLemmas.{place_or_end}
use Rattle.pliron_graph_traversal.proofs.listed_set.IndexSetListedSet.place_of.Goals as goal

pub returns : goal.returns
returns g c = place_or_end (g.N.PartialEq.eq c.args.member.now) c.args.self.now.keys c.get_index_of.result c.len.result c.unwrap_or.result c.get_index_of.ensures.index c.len.ensures.len c.unwrap_or.ensures
