use Rattle.std.proofs.Common.{◌≡◌, take}
use Rattle.pliron_graph_components.proofs.pre_sentinels.listed_set.Given as goal

abbrev pub invariant-loop-node : goal.invariant-loop-node
invariant-loop-node g l = g.S.ListedSet.listed l.set ≡ take l.node-index l.nodes
