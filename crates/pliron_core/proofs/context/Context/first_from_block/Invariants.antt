use Rattle.std.proofs.Common.{◌≡◌, length}
use Rattle.std.specs.Option.{ForSome}
use Rattle.pliron_core.specs.Tree.{IsBlock}
use Rattle.pliron_core.specs.WalkSteps.{blocks_from, first_in_blocks}
use Rattle.pliron_core.proofs.context.Context.first_from_block.Given as goal

abbrev pub invariant-loop-at : goal.invariant-loop-at
invariant-loop-at l = record {
  liveness : ForSome l.at (λ b. IsBlock l.self.tree b);
  first : first_in_blocks l.self.tree l.fn.from ≡ first_in_blocks l.self.tree l.at;
}

abbrev pub decreases-loop-at : goal.decreases-loop-at
decreases-loop-at l = length (blocks_from l.self.tree l.at)
