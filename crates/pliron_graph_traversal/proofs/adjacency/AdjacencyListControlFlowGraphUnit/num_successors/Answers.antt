use Rattle.std.proofs.Common.{sym, subst, length, Contains}
use Rattle.pliron_graph_traversal.specs.Adjacency.{count_from}
use Rattle.pliron_graph_traversal.proofs.AdjacencyLemmas.{succ_row}
use Rattle.pliron_graph_traversal.proofs.adjacency.AdjacencyListControlFlowGraphUnit.num_successors.Goals as goal

pub row_of-requires : goal.row_of-requires
row_of-requires c =
    succ_row (λ r. r.items) c.self.inside.successors.items c.deref.result.now c.args.node.now (subst (λ g. Contains (count_from 0 (length g.succ)) c.args.node.now) (sym c.self.view_is) c.requires.member) c.deref.ensures.value
