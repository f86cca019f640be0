use Rattle.std.proofs.Common.{ap, ◌∙◌}
use Rattle.pliron_core.specs.Tree.{body_of, up_from}
use Rattle.pliron_core.specs.Lists.{next_in}
use Rattle.pliron_opt_sccp.specs.Inside.{blocks_directly_in}
use Rattle.pliron_theory.proofs.Listing.{listing_start, listing_step, listing_smaller, listing_end}
use Rattle.pliron_opt_sccp.proofs.inside.list_body.Goals as goal

pub loop-at-init : goal.loop-at-init
loop-at-init c = listing_start (λ k. blocks_directly_in c.args.ctx.now.tree k) (body_of c.args.ctx.now.tree c.args.block) c.args.blocks.now.items c.get_head-at.result c.get_head-at.ensures.first

pub list_regions-requires : goal.list_regions-requires
list_regions-requires c =
    let w = c.well_formed-2.ensures.tree in
    (w.joined.all_in_place c.in-Some.op c.args.block (w.bodies.owned c.in-Some.op c.args.block (c.loop-at.invariant.within c.in-Some.op c.in-Some.is))).0

pub loop-at-preserved : goal.loop-at-preserved
loop-at-preserved c =
    let w = c.well_formed-2.ensures.tree in
    let owned = w.bodies.owned c.in-Some.op c.args.block (c.loop-at.invariant.within c.in-Some.op c.in-Some.is) in
    let next = c.get_next-at.ensures.next ∙ ap (λ o. up_from o (λ b. next_in c.in-Some.op (body_of c.args.ctx.now.tree b))) owned in
    listing_step (λ k. blocks_directly_in c.args.ctx.now.tree k) (body_of c.args.ctx.now.tree c.args.block) c.args.blocks.now.items c.loop-at.blocks.items c.list_regions.new.blocks.items c.loop-at.at c.get_next-at.result c.in-Some.op (w.bodies.distinct c.args.block) c.loop-at.invariant c.in-Some.is next c.in_ok-list_regions.ensures.ok

pub loop-at-smaller : goal.loop-at-smaller
loop-at-smaller c =
    let w = c.well_formed-2.ensures.tree in
    let owned = w.bodies.owned c.in-Some.op c.args.block (c.loop-at.invariant.within c.in-Some.op c.in-Some.is) in
    let next = c.get_next-at.ensures.next ∙ ap (λ o. up_from o (λ b. next_in c.in-Some.op (body_of c.args.ctx.now.tree b))) owned in
    listing_smaller (λ k. blocks_directly_in c.args.ctx.now.tree k) (body_of c.args.ctx.now.tree c.args.block) c.args.blocks.now.items c.loop-at.blocks.items c.loop-at.at c.get_next-at.result c.in-Some.op (w.bodies.distinct c.args.block) c.loop-at.invariant c.in-Some.is next

pub returns-clause-ok : goal.returns-clause-ok
returns-clause-ok c =
    listing_end (λ k. blocks_directly_in c.args.ctx.now.tree k) (body_of c.args.ctx.now.tree c.args.block) c.args.blocks.now.items c.loop-at.blocks.items c.loop-at.at c.loop-at.invariant c.in_default.is
