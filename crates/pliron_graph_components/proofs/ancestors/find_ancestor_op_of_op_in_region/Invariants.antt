use Rattle.pliron_graph_components.specs.Ancestors.{IsAtOrAbove, IsDirectlyInRegion}
use Rattle.pliron_graph_components.proofs.AncestorLemmas.{IsClimb, left_above}
use Rattle.pliron_graph_components.proofs.ancestors.find_ancestor_op_of_op_in_region.Given as goal

abbrev pub invariant-loop-at : goal.invariant-loop-at
invariant-loop-at l = IsClimb l.ctx.tree (IsAtOrAbove l.ctx.tree l.fn.op) (IsDirectlyInRegion l.ctx.tree l.region) l.at

abbrev pub decreases-loop-at : goal.decreases-loop-at
decreases-loop-at l = left_above l.ctx.tree l.at
