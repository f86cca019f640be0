use Rattle.std.proofs.Common.{length}
use Rattle.pliron_opt_dce.specs.Worklist.{KeepsReady}
use Rattle.pliron_opt_dce.proofs.worklist.next_in_round.Given as goal

abbrev pub invariant-loop-next : goal.invariant-loop-next
invariant-loop-next g l = KeepsReady g.D.HasMeaning.meaning g.D.SideEffects.side_effects g.D.BlockArgRemoval.removable l.ctx.tree l.root l.fn.round.items l.round.items

abbrev pub decreases-loop-next : goal.decreases-loop-next
decreases-loop-next g l = length l.round.items
