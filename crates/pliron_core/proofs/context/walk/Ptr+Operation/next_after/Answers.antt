use Rattle.std.proofs.Common.{◌≡◌, ◌<◌, ◌-◌, ap, ◌∙◌, sym, subst, length, None, Some, ℕ, arith}
use Rattle.std.specs.Option.{is_some}
use Rattle.std.proofs.lemmas.Option.{same_Some}
use Rattle.pliron_core.specs.Lists.{next_in}
use Rattle.pliron_core.specs.Tree.{IsLive, IsWithin, parent_operation_of}
use Rattle.pliron_core.specs.Walks.{children, contents, preorder}
use Rattle.pliron_core.specs.WalkSteps.{IsFollowedBy}
use Rattle.pliron_core.proofs.WalkLemmas.{within_live, inside_up, contents-shorter, length-contents}
use Rattle.pliron_core.proofs.NextLemmas.{keys_unequal, keys_same}
use Rattle.pliron_core.proofs.WalkStepLemmas.{found_beside, found_above, continues-root}
use Rattle.pliron_core.proofs.context.walk.Ptr+Operation.next_after.Goals as goal
use Rattle.pliron_core.proofs.context.walk.Ptr+Operation.next_after.Goals.{After-index, After-next_sibling}

live : (c : After-index) → IsLive c.args.ctx.now.tree c.loop-root.at
live c = within_live c.args.ctx.now.tree c.well_formed-2.ensures.tree c.args.root c.loop-root.at c.requires.live c.loop-root.invariant.within

-- the parent operation, which is within the root too
up : (c : After-index) → (p : ℕ) × (parent_operation_of c.args.ctx.now.tree c.loop-root.at ≡ Some p) × IsWithin c.args.ctx.now.tree c.args.root p
up c = inside_up c.args.ctx.now.tree c.args.root c.loop-root.at c.loop-root.invariant.within (keys_unequal c.loop-root.at c.args.root c.loop-root-test.ensures)

pub next_sibling-requires : goal.next_sibling-requires
next_sibling-requires c = subst (IsLive c.args.ctx.now.tree) (sym c.index.ensures) (live c)

pub get_parent_op-requires : goal.get_parent_op-requires
get_parent_op-requires c = live (goal.at.get_parent_op-requires c).After-index

-- the next sibling
beside : (c : After-next_sibling) (p : ℕ) → parent_operation_of c.args.ctx.now.tree c.loop-root.at ≡ Some p → c.next_sibling.result ≡ next_in c.loop-root.at (children c.args.ctx.now.tree p)
beside c p e =
    c.next_sibling.ensures p (ap (λ k. parent_operation_of c.args.ctx.now.tree k) c.index.ensures ∙ e) ∙ ap (λ k. next_in k (children c.args.ctx.now.tree p)) c.index.ensures

pub returns-in-Some : goal.returns-in-Some
returns-in-Some c =
    let at = goal.at.returns-in-Some c in
    let t = c.args.ctx.now.tree in
    let u = up at.After-index in
    let found = found_beside t c.well_formed-2.ensures.tree c.args.root c.loop-root.at u.0 c.next_sibling.result u.1 u.2 (beside at.After-next_sibling u.0 u.1) (ap is_some c.in-Some.is) in
    c.loop-root.invariant.same (Some c.new.result) (subst (IsFollowedBy (preorder t c.args.root) (preorder t c.loop-root.at)) (c.in-Some.is ∙ ap Some (sym c.new.ensures)) found)

pub loop-root-smaller : goal.loop-root-smaller
loop-root-smaller c =
    let t = c.args.ctx.now.tree in
    let e = sym c.get_parent_op.ensures.holder ∙ c.in-Some-get_parent_op.is in
    let shorter = contents-shorter t c.well_formed-2.ensures.tree c.loop-root.at c.in-Some-get_parent_op.holder e in
    let within = length-contents t c.well_formed-2.ensures.tree c.in-Some-get_parent_op.holder in
    let less : length t.operations - length (contents t c.in-Some-get_parent_op.holder) < length t.operations - length (contents t c.loop-root.at) = omega (arith, shorter, within) in less

pub loop-root-preserved : goal.loop-root-preserved
loop-root-preserved c =
    let at = goal.at.loop-root-preserved c in
    let t = c.args.ctx.now.tree in
    let u = up at.After-index in
    let e = sym c.get_parent_op.ensures.holder ∙ c.in-Some-get_parent_op.is in
    record {
      within = subst (IsWithin t c.args.root) (same_Some u.0 c.in-Some-get_parent_op.holder (sym u.1 ∙ e)) u.2;
      same = λ o g. c.loop-root.invariant.same o (found_above t c.well_formed-2.ensures.tree c.args.root c.loop-root.at c.in-Some-get_parent_op.holder c.next_sibling.result e (beside at.After-next_sibling c.in-Some-get_parent_op.holder e) (ap is_some c.in_default.is) o g);
    }

pub returns : goal.returns
returns c =
    let t = c.args.ctx.now.tree in
    c.loop-root.invariant.same None (subst (λ k. IsFollowedBy (preorder t c.args.root) (preorder t k) None) (sym (keys_same c.loop-root.at c.args.root c.loop-root-test.ensures)) (continues-root t c.well_formed-2.ensures.tree c.args.root))
