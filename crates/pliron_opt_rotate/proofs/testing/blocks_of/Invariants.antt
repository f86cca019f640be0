use Rattle.std.proofs.Common.{ℕ}
use Rattle.pliron_core.specs.Tree.{In}
use Rattle.pliron_core.proofs.ContainedLemmas.{ArePassed}
use Rattle.pliron_opt_rotate.specs.Tested.{StandsElsewhere}
use Rattle.pliron_opt_rotate.proofs.testing.blocks_of.Given as goal

abbrev pub invariant-loop-i : goal.invariant-loop-i
invariant-loop-i l = ArePassed (λ k. (b : ℕ) × StandsElsewhere l.ctx.tree l.header l.region k b × In b l.blocks.items) l.ops l.i
