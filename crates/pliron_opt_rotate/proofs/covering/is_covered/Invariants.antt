use Rattle.pliron_core.specs.declared.uses.Use.{Use}
use Rattle.pliron_core.specs.Tree.{uses_of}
use Rattle.pliron_core.proofs.ContainedLemmas.{ArePassed}
use Rattle.pliron_opt_rotate.specs.Tested.{IsUseCovered}
use Rattle.pliron_opt_rotate.proofs.covering.is_covered.Given as goal

abbrev pub invariant-loop-i : goal.invariant-loop-i
invariant-loop-i l = ArePassed (λ (one : Use). IsUseCovered l.ctx.tree l.header l.covers.values.keys l.covers.body.keys l.covers.exit.keys l.value one.user) (uses_of l.ctx.value_uses l.value) l.i
