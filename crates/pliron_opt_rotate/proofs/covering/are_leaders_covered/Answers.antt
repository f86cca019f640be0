use Rattle.std.proofs.Common.{◌≤◌, length, arith}
use Rattle.pliron_core.specs.Tree.{uses_of}
use Rattle.pliron_core.proofs.ContainedLemmas.{passed-more}
use Rattle.pliron_opt_rotate.specs.Tested.{IsLeaderCovered}
use Rattle.pliron_opt_rotate.proofs.Loops.{none_passed, users_all}
use Rattle.pliron_opt_rotate.proofs.covering.are_leaders_covered.Goals as goal

pub loop-i-init : goal.loop-i-init
loop-i-init c = none_passed _ _

pub loop-i-preserved : goal.loop-i-preserved
loop-i-preserved c = passed-more _ _ c.loop-i.i _ c.loop-i.invariant c.get_use-op.ensures.listed (c.is_leader_covered.ensures c.if-not-is_leader_covered.false)

pub returns : goal.returns
returns c = λ e k i.
    let whole : length (uses_of c.args.ctx.now.block_uses c.args.block) ≤ c.loop-i.i = omega arith in
    users_all _ _ c.well_formed-2.ensures.uses.block_uses (λ k. IsLeaderCovered c.args.ctx.now.tree c.args.header c.args.users.now.keys c.args.more.now.keys k) c.args.block c.loop-i.i c.loop-i.invariant whole k i
