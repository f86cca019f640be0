use Rattle.pliron_opt_cse.specs.Leaders.{leader_with}
use Rattle.pliron_opt_cse.specs.MergingSteps.{IsMergedUpTo}
use Rattle.pliron_opt_cse.proofs.merge.merge_all.Given as goal

abbrev pub invariant-loop-place : goal.invariant-loop-place
invariant-loop-place g l = IsMergedUpTo g.D.HasMeaning.meaning g.D.SideEffects.side_effects l.fn.ctx.tree l.ctx.tree l.fn.root l.order.operations.items l.order.ends.items l.place (λ key. leader_with l.leaders key) l.status
