use Rattle.std.proofs.Common.{◌≡◌, Some, length}
use Rattle.std.specs.Option.{ForSome}
use Rattle.pliron_core.specs.Tree.{layout_of, block_parent_of}
use Rattle.pliron_core.specs.WalkSteps.{rest_from}
use Rattle.pliron_laws.proofs.PassedLemmas.{ArePassed}
use Rattle.pliron_opt_inline.proofs.CalleeLemmas.{IsFitBothWays}
use Rattle.pliron_opt_inline.proofs.callee.may_copy_region.Given as goal

abbrev pub invariant-loop-at : goal.invariant-loop-at
invariant-loop-at g l = record {
  placed : ForSome l.at (λ b. block_parent_of l.ctx.tree b ≡ Some l.region);
  passed : ArePassed (IsFitBothWays g.D.HasMeaning.meaning g.D.InliningDialect.returns g.D.InliningDialect.stays g.D.InliningDialect.closes l.ctx.tree l.results l.region) (layout_of l.ctx.tree l.region) l.at;
}

abbrev pub decreases-loop-at : goal.decreases-loop-at
decreases-loop-at g l = length (rest_from l.at (layout_of l.ctx.tree l.region))
