use Rattle.std.proofs.Common.{ℕ}
use Rattle.pliron_core.specs.Tree.{In, operands_of}
use Rattle.pliron_core.proofs.ContainedLemmas.{ArePassed}
use Rattle.pliron_opt_rotate.specs.Tested.{IsUseCovered}
use Rattle.pliron_opt_rotate.proofs.covering.are_covered.Given as goal

abbrev pub invariant-loop-i : goal.invariant-loop-i
invariant-loop-i l = ArePassed (λ v. (k : ℕ) → In v (operands_of l.ctx.tree k) → IsUseCovered l.ctx.tree l.header l.covers.values.keys l.covers.body.keys l.covers.exit.keys v k) l.values l.i
