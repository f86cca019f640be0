use Rattle.pliron_core.proofs.ContainedLemmas.{ArePassed}
use Rattle.pliron_rewrite_rotation.specs.Entering.{EndsBeside}
use Rattle.pliron_opt_rotate.proofs.testing.may_all_enter.Given as goal

abbrev pub invariant-loop-i : goal.invariant-loop-i
invariant-loop-i l = ArePassed (λ k. EndsBeside l.ctx.tree l.header k) l.ops l.i
