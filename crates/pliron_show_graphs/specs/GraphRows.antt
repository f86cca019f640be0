-- What is drawn of a node of a graph.
use Rattle.std.specs.Prelude.{◌≡◌, ◌↔◌, IsTrue, IfSome, None, Some}
use Rattle.std.specs.Option.{option_to_list}
use Rattle.pliron_graph_traversal.specs.Digraph.{Digraph, IsReached}
use Rattle.pliron_graph_dominance.specs.Dominance.{IsImmediate}
use Rattle.pliron_show_graphs.specs.declared.graph_row.GraphRow.{GraphRow}

-- its edges, by index; whether the entry reaches it; and its immediate dominator, if it is reached and isn't the entry
pub record IsRowOf {N : Type 0} (g : Digraph N) (row : GraphRow N) : Type 0 where
  pub successors : row.successors.items ≡ g.succ row.node
  pub reached : IsTrue row.is_reached ↔ IsReached g (option_to_list g.entry) row.node
  pub dominator : IfSome row.dominator (λ d. IsImmediate g d row.node)
  pub alone : IsTrue row.is_reached → ((row.dominator ≡ None) ↔ (g.entry ≡ Some row.node))
