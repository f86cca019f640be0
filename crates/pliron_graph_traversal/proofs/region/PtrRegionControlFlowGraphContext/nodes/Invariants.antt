use Rattle.std.proofs.Common.{◌≡◌, ◌++◌, length}
use Rattle.pliron_core.specs.Tree.{layout_of}
use Rattle.pliron_core.specs.WalkSteps.{rest_from}
use Rattle.pliron_graph_traversal.proofs.region.PtrRegionControlFlowGraphContext.nodes.Given as goal

abbrev pub invariant-loop-at : goal.invariant-loop-at
invariant-loop-at l = l.blocks.items ++ rest_from l.at (layout_of l.ctx.tree l.self) ≡ layout_of l.ctx.tree l.self

abbrev pub decreases-loop-at : goal.decreases-loop-at
decreases-loop-at l = length (rest_from l.at (layout_of l.ctx.tree l.self))
