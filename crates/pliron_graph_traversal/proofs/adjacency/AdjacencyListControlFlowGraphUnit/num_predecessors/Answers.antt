use Rattle.std.proofs.Common.{sym, subst, length, Contains}
use Rattle.pliron_graph_traversal.specs.Adjacency.{AreInverse, count_from}
use Rattle.pliron_graph_traversal.proofs.AdjacencyLemmas.{pred_row}
use Rattle.pliron_graph_traversal.proofs.adjacency.AdjacencyListControlFlowGraphUnit.num_predecessors.Goals as goal

pub row_of-requires : goal.row_of-requires
row_of-requires c =
    pred_row (λ r. r.items) c.self.inside.successors.items c.self.inside.predecessors.items c.deref.result.now c.args.node.now (subst AreInverse (sym c.self.view_is) c.requires.lawful) (subst (λ g. Contains (count_from 0 (length g.succ)) c.args.node.now) (sym c.self.view_is) c.requires.member) c.deref.ensures.value
