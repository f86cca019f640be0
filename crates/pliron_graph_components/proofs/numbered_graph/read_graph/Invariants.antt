use Rattle.std.proofs.Common.{◌≡◌, length}
use Rattle.pliron_graph_components.proofs.numbered_graph.read_graph.Given as goal

abbrev pub invariant-loop-line : goal.invariant-loop-line
invariant-loop-line l = length l.numbers.items ≡ length l.successors.items
