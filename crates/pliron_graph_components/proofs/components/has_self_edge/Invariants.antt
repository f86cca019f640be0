use Rattle.std.proofs.Common.{◌≡◌, ℕ, ◌<◌, slice_get, Some}
use Rattle.pliron_graph_components.proofs.components.has_self_edge.Given as goal

abbrev pub invariant-loop-i : goal.invariant-loop-i
invariant-loop-i g l = (j : ℕ) → j < l.i → slice_get ((g.G.ControlFlowGraph.graph l.graph l.ctx).succ l.node) j ≡ Some l.node → ⊥
