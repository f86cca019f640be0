use Rattle.pliron_core.specs.declared.uses.Use.{Use}
use Rattle.pliron_core.specs.Tree.{uses_of}
use Rattle.pliron_core.specs.Contained.{IsInScope}
use Rattle.pliron_core.proofs.ContainedLemmas.{ArePassed}
use Rattle.pliron_core.proofs.context.contained.Scope.keeps_target.Given as goal

abbrev pub invariant-loop-i : goal.invariant-loop-i
invariant-loop-i l = ArePassed (λ (one : Use). IsInScope l.ctx.tree l.self one.user) (uses_of l.ctx.block_uses l.block) l.i
