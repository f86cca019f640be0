use Rattle.std.proofs.Common.{◌≡◌, Some}
use Rattle.pliron_core.specs.Tree.{In, successors_of, block_parent_of, layout_of}
use Rattle.pliron_core.proofs.ContainedLemmas.{ArePassed}
use Rattle.pliron_rewrite_calls.specs.Copying.{parts_of}
use Rattle.pliron_opt_inline.proofs.callee.leads_to_blocks_of.Given as goal

abbrev pub invariant-loop-i : goal.invariant-loop-i
invariant-loop-i l = ArePassed (λ b. block_parent_of l.ctx.tree b ≡ Some l.region) (successors_of l.ctx.tree l.op) l.i
