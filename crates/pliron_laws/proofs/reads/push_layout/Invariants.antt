use Rattle.std.proofs.Common.{◌≡◌, ◌++◌, Some, length}
use Rattle.std.specs.Option.{ForSome}
use Rattle.pliron_core.specs.Tree.{layout_of, block_parent_of}
use Rattle.pliron_core.specs.WalkSteps.{rest_from}
use Rattle.pliron_laws.proofs.reads.push_layout.Given as goal

abbrev pub invariant-loop-at : goal.invariant-loop-at
invariant-loop-at l = record {
  placed : ForSome l.at (λ b. block_parent_of l.ctx.tree b ≡ Some l.fn.region);
  split : l.blocks.items ++ rest_from l.at (layout_of l.ctx.tree l.fn.region) ≡ l.fn.blocks.items ++ layout_of l.ctx.tree l.fn.region;
}

abbrev pub decreases-loop-at : goal.decreases-loop-at
decreases-loop-at l = length (rest_from l.at (layout_of l.ctx.tree l.fn.region))
