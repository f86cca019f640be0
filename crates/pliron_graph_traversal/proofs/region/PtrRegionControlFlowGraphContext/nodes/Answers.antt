use Rattle.std.proofs.Common.{◌≡◌, ◌<◌, ◌++◌, length, sym, subst, Some}
use Rattle.pliron_core.specs.Tree.{layout_of}
use Rattle.pliron_core.specs.WalkSteps.{rest_from}
use Rattle.pliron_core.proofs.ReadLemmas.{In-block}
use Rattle.pliron_graph_traversal.proofs.RegionLemmas.{listed_in, listed_next, listed_smaller}
use Rattle.pliron_graph_traversal.proofs.region.PtrRegionControlFlowGraphContext.nodes.Goals as goal
use Rattle.pliron_graph_traversal.proofs.region.PtrRegionControlFlowGraphContext.nodes.Goals.{In-Some}

-- the blocks that are listed, and the rest from this one on
here : (c : In-Some) → c.loop-at.blocks.items ++ rest_from (Some c.in-Some.block) (layout_of c.args.ctx.now.tree c.args.self.now) ≡ layout_of c.args.ctx.now.tree c.args.self.now
here c = subst (λ o. c.loop-at.blocks.items ++ rest_from o (layout_of c.args.ctx.now.tree c.args.self.now) ≡ layout_of c.args.ctx.now.tree c.args.self.now) c.in-Some.is c.loop-at.invariant

pub get_next-at-requires : goal.get_next-at-requires
get_next-at-requires c =
    let t = c.args.ctx.now.tree in
    let at = goal.at.get_next-at-requires c in
    In-block t c.well_formed-2.ensures.tree c.args.self.now c.in-Some.block (listed_in (layout_of t c.args.self.now) c.loop-at.blocks.items c.in-Some.block (here at.In-Some))

pub loop-at-smaller : goal.loop-at-smaller
loop-at-smaller c =
    let t = c.args.ctx.now.tree in
    let at = goal.at.loop-at-smaller c in
    subst (λ o. length (rest_from c.get_next-at.result (layout_of t c.args.self.now)) < length (rest_from o (layout_of t c.args.self.now))) (sym c.in-Some.is)
    (listed_smaller t c.well_formed-2.ensures.tree c.args.self.now c.in-Some.block c.loop-at.blocks.items c.get_next-at.result (here at.In-Some) c.get_next-at.ensures.next)

pub loop-at-preserved : goal.loop-at-preserved
loop-at-preserved c =
    let t = c.args.ctx.now.tree in
    let at = goal.at.loop-at-preserved c in
    subst (λ ys. ys ++ rest_from c.get_next-at.result (layout_of t c.args.self.now) ≡ layout_of t c.args.self.now) (sym c.in_ok-push.ensures.items)
    (listed_next t c.well_formed-2.ensures.tree c.args.self.now c.in-Some.block c.loop-at.blocks.items c.get_next-at.result (here at.In-Some) c.get_next-at.ensures.next)
