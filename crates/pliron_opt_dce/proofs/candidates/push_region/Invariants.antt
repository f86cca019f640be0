use Rattle.std.proofs.Common.{◌≡◌, Some, length}
use Rattle.std.specs.Option.{ForSome}
use Rattle.pliron_core.specs.Tree.{layout_of, block_parent_of}
use Rattle.pliron_core.specs.WalkSteps.{rest_from}
use Rattle.pliron_laws.proofs.PassedLemmas.{ArePassed}
use Rattle.pliron_opt_dce.specs.Dead.{Item}
use Rattle.pliron_opt_dce.specs.Readiness.{Among}
use Rattle.pliron_opt_dce.specs.Worklist.{items_of}
use Rattle.pliron_opt_dce.proofs.CandidateLemmas.{HasArguments}
use Rattle.pliron_opt_dce.proofs.candidates.push_region.Given as goal

abbrev pub invariant-loop-at : goal.invariant-loop-at
invariant-loop-at l = record {
  kept : (x : Item) → Among x (items_of l.initial.worklist.items) → Among x (items_of l.worklist.items);
  placed : ForSome l.at (λ b. block_parent_of l.ctx.tree b ≡ Some l.fn.region);
  passed : ArePassed (λ b. HasArguments l.ctx.tree (items_of l.worklist.items) b) (layout_of l.ctx.tree l.fn.region) l.at;
}

abbrev pub decreases-loop-at : goal.decreases-loop-at
decreases-loop-at l = length (rest_from l.at (layout_of l.ctx.tree l.fn.region))
