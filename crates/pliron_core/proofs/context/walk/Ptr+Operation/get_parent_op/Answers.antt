use Rattle.std.proofs.Common.{◌≡◌, ◌<◌, rules, arith, ap, ◌∙◌, sym, length, get_or, Some}
use Rattle.pliron_core.specs.Lists.{owner_of}
use Rattle.pliron_core.specs.Tree.{View, parent_of, block_parent_of}
use Rattle.pliron_core.proofs.WalkLemmas.{HasPlace, held_at, holder_live}
use Rattle.pliron_core.proofs.WalkStepLemmas.{parent_within, slot_within, place_read}
use Rattle.pliron_core.proofs.context.walk.Ptr+Operation.get_parent_op.Goals as goal
use Rattle.pliron_core.proofs.context.walk.Ptr+Operation.get_parent_op.Goals.{In_ok-block, In_ok-region, After-result-1}

parent : (c : In_ok-block) → parent_of c.args.ctx.now.tree c.args.self ≡ Some c.in_ok-block.block
parent c = ap (λ (v : View). parent_of v.tree c.args.self) (sym c.ctx.view_is) ∙ ap (owner_of c.ctx.inside.order) (sym c.index.ensures) ∙ sym c.owner.ensures.owner ∙ c.in_ok-block.was

region : (c : In_ok-region) → block_parent_of c.args.ctx.now.tree c.in_ok-block.block ≡ Some c.in_ok-region.region
region c = ap (λ (v : View). block_parent_of v.tree c.in_ok-block.block) (sym c.ctx.view_is) ∙ sym c.owner-2.ensures.owner ∙ c.in_ok-region.was

pub owner-requires-2 : goal.owner-requires-2
owner-requires-2 c =
    let lt = parent_within _ c.well_formed-2.ensures.tree _ _ (parent c) in
    omega (arith, lt, ap (λ (v : View). length v.tree.block_parents) c.ctx.view_is)

pub index-requires-2 : goal.index-requires-2
index-requires-2 c =
    let lt = slot_within _ c.well_formed-2.ensures.tree _ _ (region c) in
    let h : c.in_ok-region.region < length c.ctx.inside.slots.items = omega (arith, lt, ap (λ (v : View). length v.tree.slots) c.ctx.view_is) in
    search (rules, h)

place : (c : After-result-1) → HasPlace c.args.ctx.now.tree c.args.self c.index-2.result.now.op
place c = place_read _ c.well_formed-2.ensures.tree _ _ _ _ (parent (goal.at.returns-clause-holder c).In_ok-block) (region (goal.at.returns-clause-holder c).In_ok-region) (c.index-2.ensures ∙ ap (λ (v : View). get_or v.tree.slots c.in_ok-region.region c.index-2.result.now) c.ctx.view_is)

pub returns-clause-holder : goal.returns-clause-holder
returns-clause-holder c = sym (held_at _ _ _ (place c))

pub returns-clause-live : goal.returns-clause-live
returns-clause-live c = holder_live _ c.well_formed-2.ensures.tree _ _ (held_at _ _ _ (place c))
