use Rattle.std.proofs.Common.{◌∷◌, [], ◌++◌, ap, ◌∙◌, is_some}
use Rattle.pliron_core.specs.Tree.{layout_of, up_from}
use Rattle.pliron_core.specs.Lists.{next_in}
use Rattle.pliron_theory.proofs.Listing.{listing_start, listing_step, listing_smaller, listing_end}
use Rattle.pliron_opt_sccp.proofs.Listing.{flat_alone}
use Rattle.pliron_opt_sccp.proofs.inside.list_region.Goals as goal

pub loop-at-init : goal.loop-at-init
loop-at-init c = listing_start (λ b. b ∷ []) (layout_of c.args.ctx.now.tree c.args.region) c.args.blocks.now.items c.get_head-at.result c.get_head-at.ensures.first

pub get_next-at-requires : goal.get_next-at-requires
get_next-at-requires c =
    let owned = c.well_formed-2.ensures.tree.layouts.owned c.in-Some.block c.args.region (c.loop-at.invariant.within c.in-Some.block c.in-Some.is) in
    ap is_some owned

pub loop-at-preserved : goal.loop-at-preserved
loop-at-preserved c =
    let w = c.well_formed-2.ensures.tree in
    let owned = w.layouts.owned c.in-Some.block c.args.region (c.loop-at.invariant.within c.in-Some.block c.in-Some.is) in
    let next = c.get_next-at.ensures.next ∙ ap (λ o. up_from o (λ r. next_in c.in-Some.block (layout_of c.args.ctx.now.tree r))) owned in
    listing_step (λ b. b ∷ []) (layout_of c.args.ctx.now.tree c.args.region) c.args.blocks.now.items c.loop-at.blocks.items c.push.new.self.items c.loop-at.at c.get_next-at.result c.in-Some.block (w.layouts.distinct c.args.region) c.loop-at.invariant c.in-Some.is next c.in_ok-push.ensures.items

pub loop-at-smaller : goal.loop-at-smaller
loop-at-smaller c =
    let w = c.well_formed-2.ensures.tree in
    let owned = w.layouts.owned c.in-Some.block c.args.region (c.loop-at.invariant.within c.in-Some.block c.in-Some.is) in
    let next = c.get_next-at.ensures.next ∙ ap (λ o. up_from o (λ r. next_in c.in-Some.block (layout_of c.args.ctx.now.tree r))) owned in
    listing_smaller (λ b. b ∷ []) (layout_of c.args.ctx.now.tree c.args.region) c.args.blocks.now.items c.loop-at.blocks.items c.loop-at.at c.get_next-at.result c.in-Some.block (w.layouts.distinct c.args.region) c.loop-at.invariant c.in-Some.is next

pub returns-clause-ok : goal.returns-clause-ok
returns-clause-ok c =
    let ls = layout_of c.args.ctx.now.tree c.args.region in
    listing_end (λ b. b ∷ []) ls c.args.blocks.now.items c.loop-at.blocks.items c.loop-at.at c.loop-at.invariant c.in_default.is ∙ ap (λ xs. c.args.blocks.now.items ++ xs) (flat_alone ls)
