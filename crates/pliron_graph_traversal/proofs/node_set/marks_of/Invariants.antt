use Rattle.std.proofs.Common.{◌≡◌, ℕ, ◌+◌, ◌<◌, length, get_or}
use Rattle.pliron_graph_traversal.specs.Internal.Numbers.{number_hashed}
use Rattle.pliron_graph_traversal.proofs.node_set.marks_of.Given as goal

abbrev pub invariant-loop-place : goal.invariant-loop-place
invariant-loop-place g l = record {
  counted : length l.marks.items ≡ l.bound;
  gives : (j : ℕ) (d : g.row.N.Denot) → j < l.place → get_or l.marks.items (number_hashed (g.N.Hash.hash_input (get_or l.nodes j d))) 0 ≡ j + 1;
}
