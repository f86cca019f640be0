use Rattle.std.proofs.Common.{rules, arith, ◌≡◌, ◌+◌, ◌<◌, ◌^◌, ◌∷◌, [], ◌++◌, length, refl, sym, ap, ◌∙◌, subst, Some}
use Rattle.pliron_core.specs.Walks.{contents, preorder}
use Rattle.pliron_core.specs.WalkSteps.{rest_from}
use Rattle.pliron_core.proofs.WalkLemmas.{length-contents}
use Rattle.pliron_pass.proofs.WalkedLemmas.{HasWalked, walk_begins, walk_steps, walk_ends, walk_shrinks, counted_more, counted_within}
use Rattle.pliron_pass.proofs.bench_facts.count_inside.Goals as goal

pub loop-at-init : goal.loop-at-init
loop-at-init c = walk_begins c.args.ctx.now.tree c.well_formed-2.ensures.tree c.args.op _ c.next_in_preorder-at.result c.next_in_preorder-at.ensures.next refl

pub overflow_add-count : goal.overflow_add-count
overflow_add-count c =
    let t = c.args.ctx.now.tree in
    let few = length-contents t c.well_formed-2.ensures.tree c.args.op in
    let within = counted_within t c.well_formed-2.ensures.tree c.args.op c.loop-at.count c.in-Some.inner (subst (HasWalked t c.args.op (λ passed. c.loop-at.count ≡ length passed)) c.in-Some.is c.loop-at.invariant) in
    omega (arith, few, within, c.well_formed-2.ensures.keys.operations)

pub loop-at-smaller : goal.loop-at-smaller
loop-at-smaller c =
    let t = c.args.ctx.now.tree in
    let at = subst (HasWalked t c.args.op (λ passed. c.loop-at.count ≡ length passed)) c.in-Some.is c.loop-at.invariant in
    subst (λ o. length (rest_from c.next_in_preorder-at-in-Some.result (preorder t c.args.op)) < length (rest_from o (preorder t c.args.op))) (sym c.in-Some.is)
    (walk_shrinks t c.well_formed-2.ensures.tree c.args.op _ c.in-Some.inner c.next_in_preorder-at-in-Some.result c.next_in_preorder-at-in-Some.ensures.next at)

pub loop-at-preserved : goal.loop-at-preserved
loop-at-preserved c =
    let t = c.args.ctx.now.tree in
    let at = subst (HasWalked t c.args.op (λ passed. c.loop-at.count ≡ length passed)) c.in-Some.is c.loop-at.invariant in
    counted_more t c.well_formed-2.ensures.tree c.args.op c.loop-at.count c.in-Some.inner c.next_in_preorder-at-in-Some.result c.next_in_preorder-at-in-Some.ensures.next at

pub returns : goal.returns
returns c =
    let t = c.args.ctx.now.tree in
    walk_ends t c.well_formed-2.ensures.tree c.args.op (λ passed. c.loop-at.count ≡ length passed) (subst (HasWalked t c.args.op (λ passed. c.loop-at.count ≡ length passed)) c.in_default.is c.loop-at.invariant)
