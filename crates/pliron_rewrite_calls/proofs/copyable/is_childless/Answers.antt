use Rattle.std.proofs.Common.{◌≡◌, ◌<◌, [], length, Some, sym, ◌∙◌, subst, arith}
use Rattle.std.proofs.lemmas.Bool.{false≢true}
use Rattle.pliron_core.specs.Lists.{next_in}
use Rattle.pliron_core.specs.Tree.{body_of, regions_of}
use Rattle.pliron_core.specs.WalkSteps.{rest_from}
use Rattle.pliron_core.proofs.ContainedLemmas.{IsWalked, is_kept, walk-first, walk-next, walk-smaller, walk-all, next_in_body}
use Rattle.pliron_rewrite_calls.proofs.CopyableLemmas.{no_item, no_length}
use Rattle.pliron_rewrite_calls.proofs.copyable.is_childless.Goals as goal
use Rattle.pliron_rewrite_calls.proofs.copyable.is_childless.Goals.{After-get_next-at}

-- the loop stands at this operation
at : (c : After-get_next-at) → IsWalked (λ k. regions_of c.args.ctx.now.tree k ≡ []) (body_of c.args.ctx.now.tree c.args.block) (Some c.in-Some.op)
at c = subst (IsWalked (λ k. regions_of c.args.ctx.now.tree k ≡ []) (body_of c.args.ctx.now.tree c.args.block)) c.in-Some.is c.loop-at.invariant

next : (c : After-get_next-at) → c.get_next-at.result ≡ next_in c.in-Some.op (body_of c.args.ctx.now.tree c.args.block)
next c =
    c.get_next-at.ensures.next ∙ next_in_body c.args.ctx.now.tree c.well_formed-2.ensures.tree c.in-Some.op c.args.block (c.loop-at.invariant.member c.in-Some.op c.in-Some.is)

pub loop-at-init : goal.loop-at-init
loop-at-init c = walk-first _ _ _ c.get_head-at.ensures.first

pub num_region-requires : goal.num_region-requires
num_region-requires c =
    let w = c.well_formed-2.ensures.tree in
    (w.joined.all_in_place c.in-Some.op c.args.block (w.bodies.owned c.in-Some.op c.args.block (c.loop-at.invariant.member c.in-Some.op c.in-Some.is))).0

pub returns-then-num_region-ne0 : goal.returns-then-num_region-ne0
returns-then-num_region-ne0 c =
    let some : length (regions_of c.args.ctx.now.tree c.in-Some.op) ≡ 0 → ⊥ = λ e. omega (arith, e, c.num_region.ensures, c.if-num_region-ne0.true) in
    (λ f. absurd (false≢true f), λ none. absurd (no_item (regions_of c.args.ctx.now.tree c.in-Some.op) some (none c.in-Some.op (c.loop-at.invariant.member c.in-Some.op c.in-Some.is))))

pub loop-at-smaller : goal.loop-at-smaller
loop-at-smaller c =
    let xs = body_of c.args.ctx.now.tree c.args.block in
    subst (λ o. length (rest_from c.get_next-at.result xs) < length (rest_from o xs)) (sym c.in-Some.is) (walk-smaller (λ k. regions_of c.args.ctx.now.tree k ≡ []) xs c.in-Some.op c.get_next-at.result (c.well_formed-2.ensures.tree.bodies.distinct c.args.block) (next c) (at c))

pub loop-at-preserved : goal.loop-at-preserved
loop-at-preserved c =
    let none : length (regions_of c.args.ctx.now.tree c.in-Some.op) ≡ 0 = omega (arith, c.num_region.ensures, c.if-num_region-ne0.false) in
    let here = (goal.at.loop-at-preserved c).After-get_next-at in
    walk-next _ _ c.in-Some.op c.get_next-at.result (c.well_formed-2.ensures.tree.bodies.distinct c.args.block) (next here) (no_length (regions_of c.args.ctx.now.tree c.in-Some.op) none) (at here)

pub returns : goal.returns
returns c = is_kept (walk-all _ _ (subst (IsWalked (λ k. regions_of c.args.ctx.now.tree k ≡ []) (body_of c.args.ctx.now.tree c.args.block)) c.in_default.is c.loop-at.invariant))
