use Rattle.std.proofs.Common.{◌++◌, take}
use Rattle.pliron_opt_dce.specs.Worklist.{KeepsReady}
use Rattle.pliron_opt_dce.proofs.worklist.push_ready.Given as goal

abbrev pub invariant-loop-candidate : goal.invariant-loop-candidate
invariant-loop-candidate g l = KeepsReady g.D.HasMeaning.meaning g.D.SideEffects.side_effects g.D.BlockArgRemoval.removable l.ctx.tree l.root (take l.candidate-index l.candidates ++ l.fn.round.items) l.round.items
