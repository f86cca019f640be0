use Rattle.std.proofs.Common.{◌≡◌, ◌≤◌, Some, length, arith}
use Rattle.pliron_core.specs.Tree.{uses_of, successors_of, parent_of}
use Rattle.pliron_core.proofs.HoldingLemmas.{in_slice}
use Rattle.pliron_core.proofs.ContainedLemmas.{passed-more}
use Rattle.pliron_opt_rotate.proofs.Loops.{none_passed, users_all}
use Rattle.pliron_opt_rotate.proofs.covering.is_led_from.Goals as goal

pub loop-i-init : goal.loop-i-init
loop-i-init c = none_passed _ _

pub loop-i-preserved : goal.loop-i-preserved
loop-i-preserved c = passed-more _ _ c.loop-i.i _ c.loop-i.invariant c.get_use-op.ensures.listed (c.stands_in.ensures.no c.if-stands_in.false)

pub returns-then-stands_in-clause-led : goal.returns-then-stands_in-clause-led
returns-then-stands_in-clause-led c = λ e.
    let listed = c.well_formed-2.ensures.uses.block_uses.listed c.args.block c.loop-i.i _ c.get_use-op.ensures.listed in
    (_, c.stands_in.ensures.yes c.if-stands_in.true, in_slice (successors_of c.args.ctx.now.tree _) _ c.args.block listed)

pub returns-clause-none : goal.returns-clause-none
returns-clause-none c = λ e led.
    let whole : length (uses_of c.args.ctx.now.block_uses c.args.block) ≤ c.loop-i.i = omega arith in
    users_all _ _ c.well_formed-2.ensures.uses.block_uses (λ k. parent_of c.args.ctx.now.tree k ≡ Some c.args.header → ⊥) c.args.block c.loop-i.i c.loop-i.invariant whole led.0 led.2 led.1
