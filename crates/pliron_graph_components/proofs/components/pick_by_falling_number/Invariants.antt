use Rattle.std.proofs.Common.{◌≡◌, take}
use Rattle.pliron_graph_traversal.specs.Search.{number_in}
use Rattle.pliron_graph_components.specs.Internal.Picking.{IsListedFrom}
use Rattle.pliron_graph_components.proofs.PickLemmas.{IsPicked}
use Rattle.pliron_graph_components.proofs.components.pick_by_falling_number.Given as goal

abbrev pub invariant-loop-node : goal.invariant-loop-node
invariant-loop-node g l =
    let eq = g.N.PartialEq.eq in
    let order = g.S.ListedSet.listed l.order in
    record {
      items : l.node-items ≡ order;
      picked : IsPicked (number_in eq order) (IsListedFrom eq (g.S.ListedSet.listed l.held) l.first) (take l.node-index order) l.nodes.items;
    }
