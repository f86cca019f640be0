use Rattle.std.proofs.Common.{length}
use Rattle.pliron_core.specs.Tree.{body_of}
use Rattle.pliron_core.specs.WalkSteps.{rest_from}
use Rattle.pliron_core.proofs.ContainedLemmas.{IsWalked}
use Rattle.pliron_opt_inline.proofs.CalleeLemmas.{FitsBothWays}
use Rattle.pliron_opt_inline.proofs.callee.may_copy_block.Given as goal

abbrev pub invariant-loop-at : goal.invariant-loop-at
invariant-loop-at g l = IsWalked (FitsBothWays g.D.HasMeaning.meaning g.D.InliningDialect.returns g.D.InliningDialect.stays g.D.InliningDialect.closes l.ctx.tree l.results l.region) (body_of l.ctx.tree l.fn.block) l.at

abbrev pub decreases-loop-at : goal.decreases-loop-at
decreases-loop-at g l = length (rest_from l.at (body_of l.ctx.tree l.fn.block))
