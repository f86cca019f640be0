use Rattle.pliron_rewrite_rules.proofs.ShownLemmas.{tables}
use Rattle.pliron_opt_combine.specs.Steps.{AreSwept}
use Rattle.pliron_opt_combine.proofs.combine_through.Given as goal

abbrev pub invariant-loop-left : goal.invariant-loop-left
invariant-loop-left g l = AreSwept (tables g.D.HasMeaning.meaning g.D.SideEffects.side_effects g.D.ConstFoldInterface.can_fold g.D.ConstFoldInterface.constants g.D.ConstFoldInterface.accepts g.D.ConstFoldInterface.constant_head) g.L.Rules.rules l.fn.ctx.tree l.ctx.tree l.op l.limit l.left (λ k. ⊥)

abbrev pub decreases-loop-left : goal.decreases-loop-left
decreases-loop-left g l = l.left
