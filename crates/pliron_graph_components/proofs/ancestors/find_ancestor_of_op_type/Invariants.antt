use Rattle.pliron_laws.specs.Answers.{HeadPasses}
use Rattle.pliron_graph_components.specs.Ancestors.{IsAncestor}
use Rattle.pliron_graph_components.proofs.AncestorLemmas.{IsClimb, left_above}
use Rattle.pliron_graph_components.proofs.ancestors.find_ancestor_of_op_type.Given as goal

abbrev pub invariant-loop-at : goal.invariant-loop-at
invariant-loop-at g l = IsClimb l.ctx.tree (IsAncestor l.ctx.tree l.fn.op) (HeadPasses (λ h. g.D.Dialect.is_of_kind h l.kind) l.ctx.tree) l.at

abbrev pub decreases-loop-at : goal.decreases-loop-at
decreases-loop-at g l = left_above l.ctx.tree l.at
