use Rattle.pliron_rewrite_rules.proofs.ShownLemmas.{tables}
use Rattle.pliron_opt_combine.specs.Steps.{AreSwept, AreSeen}
use Rattle.pliron_opt_combine.proofs.Doing.{rounds_left}
use Rattle.pliron_opt_combine.proofs.sweep.rewrite_rounds.Given as goal

abbrev pub invariant-loop-goes_on : goal.invariant-loop-goes_on
invariant-loop-goes_on g l = record {
  done : AreSwept (tables g.D.HasMeaning.meaning g.D.SideEffects.side_effects g.D.ConstFoldInterface.can_fold g.D.ConstFoldInterface.constants g.D.ConstFoldInterface.accepts g.D.ConstFoldInterface.constant_head) g.L.Rules.rules l.fn.ctx.tree l.ctx.tree l.root l.fn.left l.rest (λ k. ⊥);
  seen : AreSeen l.ctx.tree l.root l.work.seen.keys;
}

abbrev pub decreases-loop-goes_on : goal.decreases-loop-goes_on
decreases-loop-goes_on g l = rounds_left l.rest l.goes_on
