use Rattle.std.proofs.Common.{◌≡◌, nat_eq, sym, ap, ◌∙◌, subst, Some, None}
use Rattle.pliron_core.specs.Tree.{View, IsLive, parent_of, body_of, last_of}
use Rattle.pliron_core.specs.Writes.{taken_out}
use Rattle.pliron_core.specs.Erased.{after_clearing}
use Rattle.pliron_core.specs.Dismantling.{IsUnused}
use Rattle.pliron_core.specs.UseTables.{view_of}
use Rattle.pliron_core.proofs.LastLemmas.{last_none}
use Rattle.pliron_core.proofs.EmptyingLemmas.{emptying_start, emptying_next, emptying_falls, emptying_end, last_live, taken_live, taken_free, taken_unused}
use Rattle.pliron_core.proofs.context.erase.empty_block.Goals as goal
use Rattle.pliron_core.proofs.context.erase.empty_block.Goals.{After-new-op, After-take_out, After-dismantle}

last : (c : After-new-op) → last_of None (body_of c.loop-last.ctx.tree c.args.block) ≡ Some c.new-op.result
last c =
    ap (λ (v : View). last_of None (body_of v.tree c.args.block)) (sym c.ctx.view_is)
    ∙ ap (λ i. last_of None (body_of (view_of c.ctx.inside).tree i)) (sym c.index.ensures)
    ∙ sym c.tail.ensures.last ∙ c.in-Some.is ∙ ap Some (sym c.new-op.ensures)

pub loop-last-init : goal.loop-last-init
loop-last-init c = emptying_start c.args.ctx.now.tree c.args.block c.well_formed-2.ensures.tree

pub take_out-requires : goal.take_out-requires
take_out-requires c = last_live c.args.ctx.now.tree c.args.block c.well_formed-2.ensures.tree c.loop-last.ctx.tree c.loop-last.invariant c.new-op.result (last (goal.at.take_out-requires c).After-new-op)

pub dismantle-requires-clause-live : goal.dismantle-requires-clause-live
dismantle-requires-clause-live c = subst (λ (v : View). IsLive v.tree c.new-op.result) (sym c.take_out.ensures) (taken_live c.args.ctx.now.tree c.args.block c.well_formed-2.ensures.tree c.loop-last.ctx.tree c.loop-last.invariant c.new-op.result (last (goal.at.dismantle-requires-clause-live c).After-new-op))

pub dismantle-requires-clause-free : goal.dismantle-requires-clause-free
dismantle-requires-clause-free c = subst (λ (v : View). parent_of v.tree c.new-op.result ≡ None) (sym c.take_out.ensures) (taken_free c.args.ctx.now.tree c.args.block c.well_formed-2.ensures.tree c.loop-last.ctx.tree c.loop-last.invariant c.new-op.result (last (goal.at.dismantle-requires-clause-free c).After-new-op))

pub dismantle-requires-clause-unused : goal.dismantle-requires-clause-unused
dismantle-requires-clause-unused c = subst (λ (v : View). IsUnused v.tree c.new-op.result) (sym c.take_out.ensures) (taken_unused c.args.ctx.now.tree c.args.block c.well_formed-2.ensures.tree c.loop-last.ctx.tree c.loop-last.invariant c.new-op.result (last (goal.at.dismantle-requires-clause-unused c).After-new-op) c.requires.unused)

cleared_now : (c : After-dismantle) → c.dismantle.new.ctx.tree ≡ after_clearing (taken_out c.loop-last.ctx.tree c.new-op.result) (nat_eq c.new-op.result)
cleared_now c = c.dismantle.ensures ∙ ap (λ (v : View). after_clearing v.tree (nat_eq c.new-op.result)) c.take_out.ensures

pub loop-last-preserved : goal.loop-last-preserved
loop-last-preserved c = emptying_next c.args.ctx.now.tree c.args.block c.well_formed-2.ensures.tree c.loop-last.ctx.tree c.loop-last.invariant c.new-op.result (last (goal.at.loop-last-preserved c).After-new-op) c.dismantle.new.ctx.tree (cleared_now (goal.at.loop-last-preserved c).After-dismantle) c.well_formed-in-Some.ensures.tree

pub loop-last-smaller : goal.loop-last-smaller
loop-last-smaller c = emptying_falls c.args.ctx.now.tree c.args.block c.well_formed-2.ensures.tree c.loop-last.ctx.tree c.loop-last.invariant c.new-op.result (last (goal.at.loop-last-smaller c).After-new-op) c.dismantle.new.ctx.tree (cleared_now (goal.at.loop-last-smaller c).After-dismantle)

pub returns : goal.returns
returns c =
    emptying_end c.args.ctx.now.tree c.args.block c.well_formed-2.ensures.tree c.loop-last.ctx.tree c.loop-last.invariant
    (last_none (body_of c.loop-last.ctx.tree c.args.block) (ap (λ (v : View). last_of None (body_of v.tree c.args.block)) (sym c.ctx.view_is) ∙ ap (λ i. last_of None (body_of (view_of c.ctx.inside).tree i)) (sym c.index.ensures) ∙ sym c.tail.ensures.last ∙ c.in_default.is))
