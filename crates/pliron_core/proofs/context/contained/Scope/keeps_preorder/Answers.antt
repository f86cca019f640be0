use Rattle.std.proofs.Common.{◌≡◌, ◌<◌, length, true, false, Some, refl, sym, subst, rules}
use Rattle.pliron_core.specs.Tree.{IsWithin}
use Rattle.pliron_core.specs.Walks.{preorder}
use Rattle.pliron_core.specs.WalkSteps.{rest_from}
use Rattle.pliron_core.specs.Contained.{IsOperationKept}
use Rattle.pliron_core.proofs.WalkLemmas.{In-preorder, distinct-preorder, within_live}
use Rattle.pliron_core.proofs.ContainedLemmas.{IsWalked, not_kept, is_kept, walk-first, walk-next, walk-smaller, walk-all}
use Rattle.pliron_core.proofs.context.contained.Scope.keeps_preorder.Goals as goal
use Rattle.pliron_core.proofs.context.contained.Scope.keeps_preorder.Goals.{In-Some}

-- the loop stands at this operation
at : (c : In-Some) → IsWalked (λ k. IsOperationKept c.args.ctx.now.tree c.args.self.now k) (preorder c.args.ctx.now.tree c.args.root) (Some c.in-Some.op)
at c = subst (IsWalked (λ k. IsOperationKept c.args.ctx.now.tree c.args.self.now k) (preorder c.args.ctx.now.tree c.args.root)) c.in-Some.is c.loop-at.invariant

-- which is within the root
within : (c : In-Some) → IsWithin c.args.ctx.now.tree c.args.root c.in-Some.op
within c = (In-preorder c.args.ctx.now.tree c.well_formed-2.ensures.tree c.args.root c.in-Some.op).0 (c.loop-at.invariant.member c.in-Some.op c.in-Some.is)

pub loop-at-init : goal.loop-at-init
loop-at-init c = walk-first _ _ _ refl

pub keeps_operation-requires : goal.keeps_operation-requires
keeps_operation-requires c = within_live c.args.ctx.now.tree c.well_formed-2.ensures.tree c.args.root c.in-Some.op c.requires (within c)

pub returns-then-not-keeps_operation : goal.returns-then-not-keeps_operation
returns-then-not-keeps_operation c =
    let outside : c.keeps_operation.result ≡ false = search rules in
    not_kept c.keeps_operation.result outside c.keeps_operation.ensures (λ kept. kept c.in-Some.op (within (goal.at.returns-then-not-keeps_operation c).In-Some))

pub next_in_preorder-at-requires-clause-within : goal.next_in_preorder-at-requires-clause-within
next_in_preorder-at-requires-clause-within c = within (goal.at.next_in_preorder-at-requires-clause-within c).In-Some

pub loop-at-smaller : goal.loop-at-smaller
loop-at-smaller c =
    let t = c.args.ctx.now.tree in
    let xs = preorder t c.args.root in
    subst (λ o. length (rest_from c.next_in_preorder-at.result xs) < length (rest_from o xs)) (sym c.in-Some.is) (walk-smaller (λ k. IsOperationKept t c.args.self.now k) xs c.in-Some.op c.next_in_preorder-at.result (distinct-preorder t c.well_formed-2.ensures.tree c.args.root) c.next_in_preorder-at.ensures.next (at (goal.at.loop-at-smaller c).In-Some))

pub loop-at-preserved : goal.loop-at-preserved
loop-at-preserved c =
    let t = c.args.ctx.now.tree in
    let inside : c.keeps_operation.result ≡ true = search rules in
    walk-next _ _ c.in-Some.op c.next_in_preorder-at.result (distinct-preorder t c.well_formed-2.ensures.tree c.args.root) c.next_in_preorder-at.ensures.next (c.keeps_operation.ensures.0 inside) (at (goal.at.loop-at-preserved c).In-Some)

pub returns : goal.returns
returns c =
    let t = c.args.ctx.now.tree in
    let all = walk-all _ _ (subst (IsWalked (λ k. IsOperationKept t c.args.self.now k) (preorder t c.args.root)) c.in_default.is c.loop-at.invariant) in
    is_kept (λ k u. all k ((In-preorder t c.well_formed-2.ensures.tree c.args.root k).1 u))
