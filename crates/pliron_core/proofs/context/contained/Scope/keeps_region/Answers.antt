use Rattle.std.proofs.Common.{◌≡◌, ◌<◌, length, true, false, Some, sym, ◌∙◌, subst, rules}
use Rattle.pliron_core.specs.Lists.{next_in}
use Rattle.pliron_core.specs.Tree.{layout_of}
use Rattle.pliron_core.specs.WalkSteps.{rest_from}
use Rattle.pliron_core.specs.Contained.{IsBlockKept}
use Rattle.pliron_core.proofs.ContainedLemmas.{IsWalked, not_kept, is_kept, walk-first, walk-next, walk-smaller, walk-all, next_in_layout}
use Rattle.pliron_core.proofs.context.contained.Scope.keeps_region.Goals as goal
use Rattle.pliron_core.proofs.context.contained.Scope.keeps_region.Goals.{After-get_next-at}

-- the loop stands at this block
at : (c : After-get_next-at) → IsWalked (λ b. IsBlockKept c.args.ctx.now.tree c.args.self.now b) (layout_of c.args.ctx.now.tree c.args.region) (Some c.in-Some.block)
at c = subst (IsWalked (λ b. IsBlockKept c.args.ctx.now.tree c.args.self.now b) (layout_of c.args.ctx.now.tree c.args.region)) c.in-Some.is c.loop-at.invariant

next : (c : After-get_next-at) → c.get_next-at.result ≡ next_in c.in-Some.block (layout_of c.args.ctx.now.tree c.args.region)
next c =
    c.get_next-at.ensures.next ∙ next_in_layout c.args.ctx.now.tree c.well_formed-2.ensures.tree c.in-Some.block c.args.region (c.loop-at.invariant.member c.in-Some.block c.in-Some.is)

pub loop-at-init : goal.loop-at-init
loop-at-init c = walk-first _ _ _ c.get_head-at.ensures.first

pub returns-then-not-keeps_block : goal.returns-then-not-keeps_block
returns-then-not-keeps_block c =
    let outside : c.keeps_block.result ≡ false = search rules in
    not_kept c.keeps_block.result outside c.keeps_block.ensures (λ kept. kept c.in-Some.block (c.loop-at.invariant.member c.in-Some.block c.in-Some.is))

pub loop-at-smaller : goal.loop-at-smaller
loop-at-smaller c =
    let xs = layout_of c.args.ctx.now.tree c.args.region in
    subst (λ o. length (rest_from c.get_next-at.result xs) < length (rest_from o xs)) (sym c.in-Some.is) (walk-smaller (λ b. IsBlockKept c.args.ctx.now.tree c.args.self.now b) xs c.in-Some.block c.get_next-at.result (c.well_formed-2.ensures.tree.layouts.distinct c.args.region) (next c) (at c))

pub loop-at-preserved : goal.loop-at-preserved
loop-at-preserved c =
    let inside : c.keeps_block.result ≡ true = search rules in
    let here = (goal.at.loop-at-preserved c).After-get_next-at in
    walk-next _ _ c.in-Some.block c.get_next-at.result (c.well_formed-2.ensures.tree.layouts.distinct c.args.region) (next here) (c.keeps_block.ensures.0 inside) (at here)

pub returns : goal.returns
returns c = is_kept (walk-all _ _ (subst (IsWalked (λ b. IsBlockKept c.args.ctx.now.tree c.args.self.now b) (layout_of c.args.ctx.now.tree c.args.region)) c.in_default.is c.loop-at.invariant))
