use Rattle.std.proofs.Common.{◌≤◌, Contains, take}
use Rattle.std.specs.List.{All}
use Rattle.pliron_graph_traversal.specs.Search.{number_in}
use Rattle.pliron_graph_components.proofs.pre_sentinels.last_listed.Given as goal

abbrev pub invariant-loop-node : goal.invariant-loop-node
invariant-loop-node g l =
    record {
      among : Contains l.members l.last;
      last : All (λ v. number_in g.N.PartialEq.eq (g.S.ListedSet.listed l.places) v ≤ number_in g.N.PartialEq.eq (g.S.ListedSet.listed l.places) l.last) (take l.node-index l.members);
    }
