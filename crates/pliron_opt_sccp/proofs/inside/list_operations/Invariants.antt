use Rattle.std.proofs.Common.{◌≡◌, ◌++◌, length, map}
use Rattle.pliron_core.specs.Tree.{body_of}
use Rattle.pliron_core.specs.WalkSteps.{rest_from}
use Rattle.pliron_opt_sccp.specs.declared.inside.Part.TheVariants.{Operation}
use Rattle.pliron_opt_sccp.proofs.Going.{IsWalk}
use Rattle.pliron_opt_sccp.proofs.Preorder.{AddsParts}
use Rattle.pliron_opt_sccp.proofs.inside.list_operations.Given as goal

abbrev pub invariant-loop-at : goal.invariant-loop-at
invariant-loop-at l = IsWalk (AddsParts (λ k. Operation k)) (body_of l.ctx.tree l.fn.block) l.at l.initial.parts.items l.parts.items

abbrev pub decreases-loop-at : goal.decreases-loop-at
decreases-loop-at l = length (rest_from l.at (body_of l.ctx.tree l.fn.block))
