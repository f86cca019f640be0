use Rattle.std.proofs.Common.{take}
use Rattle.pliron_core.specs.Tree.{In}
use Rattle.pliron_rewrite_rules.proofs.ShownLemmas.{tables}
use Rattle.pliron_opt_combine.specs.Steps.{AreSwept, AreSeen}
use Rattle.pliron_opt_combine.proofs.sweep.sweep.Given as goal

abbrev pub invariant-loop-i : goal.invariant-loop-i
invariant-loop-i g l = record {
  done : AreSwept (tables g.D.HasMeaning.meaning g.D.SideEffects.side_effects g.D.ConstFoldInterface.can_fold g.D.ConstFoldInterface.constants g.D.ConstFoldInterface.accepts g.D.ConstFoldInterface.constant_head) g.L.Rules.rules l.fn.ctx.tree l.ctx.tree l.root l.fn.left l.rest (λ k. In k (take l.i l.ops));
  seen : AreSeen l.ctx.tree l.root l.work.seen.keys;
}
