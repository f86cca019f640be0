use Rattle.pliron_core.specs.declared.uses.Use.{Use}
use Rattle.pliron_core.specs.Tree.{uses_of}
use Rattle.pliron_core.proofs.ContainedLemmas.{ArePassed}
use Rattle.pliron_opt_rotate.specs.Tested.{IsLeaderCovered}
use Rattle.pliron_opt_rotate.proofs.covering.are_leaders_covered.Given as goal

abbrev pub invariant-loop-i : goal.invariant-loop-i
invariant-loop-i l = ArePassed (λ (one : Use). IsLeaderCovered l.ctx.tree l.header l.users.keys l.more.keys one.user) (uses_of l.ctx.block_uses l.block) l.i
