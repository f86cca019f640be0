use Rattle.std.proofs.Common.{◌≡◌, ℕ, ◌+◌, ◌-◌, get_or, length}
use Rattle.pliron_graph_traversal.proofs.listed_set.lengthen.Given as goal

abbrev pub invariant-loop-table : goal.invariant-loop-table
invariant-loop-table l = (k : ℕ) → get_or l.table.items k 0 ≡ get_or l.initial.table.items k 0

abbrev pub decreases-loop-table : goal.decreases-loop-table
decreases-loop-table l = l.index + 1 - length l.table.items
