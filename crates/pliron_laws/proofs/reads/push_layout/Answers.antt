use Rattle.std.proofs.Common.{◌≡◌, ◌<◌, ◌++◌, length, sym, subst, ◌∙◌}
use Rattle.pliron_core.specs.Tree.{layout_of}
use Rattle.pliron_core.specs.WalkSteps.{rest_from}
use Rattle.pliron_core.proofs.ContainedLemmas.{next_in_layout}
use Rattle.pliron_laws.proofs.EdgeLastLemmas.{layout_first, layout_placed, layout_smaller}
use Rattle.pliron_laws.proofs.CopiedLists.{copied_first, copied_next, copied_all}
use Rattle.pliron_laws.proofs.reads.push_layout.Goals as goal

pub loop-at-init : goal.loop-at-init
loop-at-init c =
    let t = c.args.ctx.now.tree in
    record {
      placed = λ b e. layout_first t c.well_formed-2.ensures.tree c.args.region c.get_head-at.result c.get_head-at.ensures.first b e;
      split = copied_first (layout_of t c.args.region) c.args.blocks.now.items c.get_head-at.result c.get_head-at.ensures.first;
    }

pub loop-at-smaller : goal.loop-at-smaller
loop-at-smaller c =
    let t = c.args.ctx.now.tree in
    subst (λ o. length (rest_from c.get_next-at.result (layout_of t c.args.region)) < length (rest_from o (layout_of t c.args.region))) (sym c.in-Some.is)
    (layout_smaller t c.well_formed-2.ensures.tree c.args.region c.in-Some.block c.get_next-at.result (c.loop-at.invariant.placed c.in-Some.block c.in-Some.is) c.get_next-at.ensures.next)

pub loop-at-preserved : goal.loop-at-preserved
loop-at-preserved c =
    let t = c.args.ctx.now.tree in
    let w = c.well_formed-2.ensures.tree in
    let r = c.args.region in
    let b = c.in-Some.block in
    let here = c.loop-at.invariant.placed b c.in-Some.is in
    let i = w.layouts.listed b r here in
    record {
      placed = layout_placed t w r b c.get_next-at.result here c.get_next-at.ensures.next;
      split = copied_next (layout_of t r) c.args.blocks.now.items c.loop-at.blocks.items c.push.new.self.items b c.get_next-at.result (w.layouts.distinct r) i (c.get_next-at.ensures.next ∙ next_in_layout t w b r i)
          (subst (λ o. c.loop-at.blocks.items ++ rest_from o (layout_of t r) ≡ c.args.blocks.now.items ++ layout_of t r) c.in-Some.is c.loop-at.invariant.split) c.in_ok-push.ensures.items;
    }

pub returns : goal.returns
returns c = copied_all (layout_of c.args.ctx.now.tree c.args.region) c.args.blocks.now.items c.loop-at.blocks.items c.loop-at.at c.in_default.is c.loop-at.invariant.split
