use Rattle.std.proofs.Common.{◌≡◌, Some}
use Rattle.pliron_core.specs.Tree.{In, operands_of, block_parent_of, layout_of}
use Rattle.pliron_core.proofs.ContainedLemmas.{ArePassed}
use Rattle.pliron_rewrite_calls.specs.Copying.{parts_of}
use Rattle.pliron_opt_inline.proofs.callee.uses_values_of.Given as goal

abbrev pub invariant-loop-i : goal.invariant-loop-i
invariant-loop-i l = ArePassed (λ v. In v (parts_of l.ctx.tree (layout_of l.ctx.tree l.region)).values) (operands_of l.ctx.tree l.op) l.i
