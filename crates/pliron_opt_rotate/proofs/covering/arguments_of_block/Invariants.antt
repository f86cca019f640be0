use Rattle.pliron_core.specs.Tree.{In, arguments_of}
use Rattle.pliron_core.proofs.ContainedLemmas.{ArePassed}
use Rattle.pliron_opt_rotate.proofs.covering.arguments_of_block.Given as goal

abbrev pub invariant-loop-i : goal.invariant-loop-i
invariant-loop-i l = ArePassed (λ v. In v l.values.items) (arguments_of l.ctx.tree l.block) l.i
