use Rattle.std.proofs.Common.{◌≡◌, ◌<◌, length, true, false, Some, sym, ◌∙◌, subst, rules}
use Rattle.pliron_core.specs.Lists.{next_in}
use Rattle.pliron_core.specs.Tree.{body_of}
use Rattle.pliron_core.specs.WalkSteps.{rest_from}
use Rattle.pliron_core.specs.Contained.{IsPreorderKept}
use Rattle.pliron_core.proofs.ContainedLemmas.{IsWalked, not_kept, is_kept, walk-first, walk-next, walk-smaller, walk-all, next_in_body}
use Rattle.pliron_core.proofs.context.contained.Scope.keeps_body.Goals as goal
use Rattle.pliron_core.proofs.context.contained.Scope.keeps_body.Goals.{After-get_next-at}

-- the loop stands at this operation
at : (c : After-get_next-at) → IsWalked (λ k. IsPreorderKept c.args.ctx.now.tree c.args.self.now k) (body_of c.args.ctx.now.tree c.args.block) (Some c.in-Some.op)
at c = subst (IsWalked (λ k. IsPreorderKept c.args.ctx.now.tree c.args.self.now k) (body_of c.args.ctx.now.tree c.args.block)) c.in-Some.is c.loop-at.invariant

next : (c : After-get_next-at) → c.get_next-at.result ≡ next_in c.in-Some.op (body_of c.args.ctx.now.tree c.args.block)
next c =
    c.get_next-at.ensures.next ∙ next_in_body c.args.ctx.now.tree c.well_formed-2.ensures.tree c.in-Some.op c.args.block (c.loop-at.invariant.member c.in-Some.op c.in-Some.is)

pub loop-at-init : goal.loop-at-init
loop-at-init c = walk-first _ _ _ c.get_head-at.ensures.first

pub returns-then-not-keeps_preorder : goal.returns-then-not-keeps_preorder
returns-then-not-keeps_preorder c =
    let outside : c.keeps_preorder.result ≡ false = search rules in
    not_kept c.keeps_preorder.result outside c.keeps_preorder.ensures (λ kept. kept c.in-Some.op (c.loop-at.invariant.member c.in-Some.op c.in-Some.is))

pub loop-at-smaller : goal.loop-at-smaller
loop-at-smaller c =
    let xs = body_of c.args.ctx.now.tree c.args.block in
    subst (λ o. length (rest_from c.get_next-at.result xs) < length (rest_from o xs)) (sym c.in-Some.is) (walk-smaller (λ k. IsPreorderKept c.args.ctx.now.tree c.args.self.now k) xs c.in-Some.op c.get_next-at.result (c.well_formed-2.ensures.tree.bodies.distinct c.args.block) (next c) (at c))

pub loop-at-preserved : goal.loop-at-preserved
loop-at-preserved c =
    let inside : c.keeps_preorder.result ≡ true = search rules in
    let here = (goal.at.loop-at-preserved c).After-get_next-at in
    walk-next _ _ c.in-Some.op c.get_next-at.result (c.well_formed-2.ensures.tree.bodies.distinct c.args.block) (next here) (c.keeps_preorder.ensures.0 inside) (at here)

pub returns : goal.returns
returns c = is_kept (walk-all _ _ (subst (IsWalked (λ k. IsPreorderKept c.args.ctx.now.tree c.args.self.now k) (body_of c.args.ctx.now.tree c.args.block)) c.in_default.is c.loop-at.invariant))
