use Rattle.std.proofs.Common.{◌-◌, length}
use Rattle.pliron_opt_sccp.specs.Chain.{blocks_inside}
use Rattle.pliron_opt_sccp.proofs.Listing.{AreOwing}
use Rattle.pliron_opt_sccp.proofs.inside.all_blocks.Given as goal

abbrev pub invariant-loop-block : goal.invariant-loop-block
invariant-loop-block l = AreOwing l.ctx.tree l.fn.root l.found.items l.stack.items

abbrev pub decreases-loop-block : goal.decreases-loop-block
decreases-loop-block l = length (blocks_inside l.ctx.tree l.fn.root) - length l.found.items
