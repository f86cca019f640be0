use Rattle.std.proofs.Common.{◌≡◌, ℕ, ◌<◌, length, get_or, vec_len}
use Rattle.pliron_graph_order.proofs.preorder.numbers_by_place.Given as goal

abbrev pub invariant-loop-number : goal.invariant-loop-number
invariant-loop-number l = record {
  counted : length l.numbers.items ≡ length l.parents;
  at : (v : ℕ) → v < l.number → get_or l.numbers.items (get_or l.places.places v 0) 0 ≡ v;
}
