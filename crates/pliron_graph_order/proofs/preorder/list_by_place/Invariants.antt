use Rattle.pliron_graph_order.specs.Preorder.{ListsInPlace}
use Rattle.pliron_graph_order.proofs.preorder.list_by_place.Given as goal

abbrev pub invariant-loop-place : goal.invariant-loop-place
invariant-loop-place l = ListsInPlace l.place l.numbers l.listed l.places l.operations.items l.ends.items
