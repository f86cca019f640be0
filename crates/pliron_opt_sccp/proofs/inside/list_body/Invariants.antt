use Rattle.std.proofs.Common.{length}
use Rattle.pliron_core.specs.Tree.{body_of}
use Rattle.pliron_core.specs.WalkSteps.{rest_from}
use Rattle.pliron_opt_sccp.specs.Inside.{blocks_directly_in}
use Rattle.pliron_theory.proofs.Listing.{IsListing}
use Rattle.pliron_opt_sccp.proofs.inside.list_body.Given as goal

abbrev pub invariant-loop-at : goal.invariant-loop-at
invariant-loop-at l = IsListing (λ k. blocks_directly_in l.ctx.tree k) (body_of l.ctx.tree l.fn.block) l.initial.blocks.items l.blocks.items l.at

abbrev pub decreases-loop-at : goal.decreases-loop-at
decreases-loop-at l = length (rest_from l.at (body_of l.ctx.tree l.fn.block))
