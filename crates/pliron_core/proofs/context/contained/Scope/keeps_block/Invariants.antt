use Rattle.pliron_core.specs.Tree.{arguments_of}
use Rattle.pliron_core.specs.Contained.{IsValueKept}
use Rattle.pliron_core.proofs.ContainedLemmas.{ArePassed}
use Rattle.pliron_core.proofs.context.contained.Scope.keeps_block.Given as goal

abbrev pub invariant-loop-i : goal.invariant-loop-i
invariant-loop-i l = ArePassed (λ v. IsValueKept l.ctx.tree l.self v) (arguments_of l.ctx.tree l.block) l.i
