use Rattle.std.proofs.Common.{◌≡◌, ℕ, ◌<◌, length, get_or}
use Rattle.pliron_graph_traversal.specs.Search.{number_in}
use Rattle.pliron_graph_traversal.proofs.traversal.places_left.Given as goal

abbrev pub invariant-loop-place : goal.invariant-loop-place
invariant-loop-place g l = record {
  counted : length l.places.items ≡ length (g.S.ListedSet.listed l.pre);
  gives : (j : ℕ) (d : g.row.N.Denot) → j < l.place → get_or l.places.items (number_in g.N.PartialEq.eq (g.S.ListedSet.listed l.pre) (get_or l.post j d)) 0 ≡ j;
}
