use Rattle.std.proofs.Common.{inr, sym, subst, ◌∙◌, []}
use Rattle.pliron_core.specs.Walks.{contents}
use Rattle.pliron_core.specs.Tree.{head_of}
use Rattle.pliron_core.proofs.WalkLemmas.{inside_live}
use Rattle.pliron_theory.proofs.Listing.{IsListing, walk_start, walk_inside, walk_step, walk_smaller, walk_end, filter_each}
use Rattle.pliron_opt_edges.specs.MoveSteps.{branch_alone}
use Rattle.pliron_laws.specs.Answers.{has_passing_head}
use Rattle.pliron_opt_edges.proofs.moving.branches_inside.Goals as goal

pub loop-at-init : goal.loop-at-init
loop-at-init g c =
    let t = c.args.ctx.now.tree in
    let f = branch_alone g.D.HasMeaning.meaning.is_branch t in
    subst (λ z. IsListing f (contents t c.args.root) [] z c.next_in_preorder-at.result) (sym c.new-branches.ensures.items) (walk_start f t c.args.root c.well_formed-2.ensures.tree c.next_in_preorder-at.result c.next_in_preorder-at.ensures.next)

pub add_branch-requires : goal.add_branch-requires
add_branch-requires g c =
    let t = c.args.ctx.now.tree in
    let w = c.well_formed-2.ensures.tree in
    inside_live t w c.args.root c.in-Some.op (walk_inside (branch_alone g.D.HasMeaning.meaning.is_branch t) t c.args.root w c.loop-at.branches.items c.loop-at.at c.in-Some.op c.loop-at.invariant c.in-Some.is)

pub next_in_preorder-at-requires-in-Some-clause-within : goal.next_in_preorder-at-requires-in-Some-clause-within
next_in_preorder-at-requires-in-Some-clause-within g c =
    let t = c.args.ctx.now.tree in
    inr (walk_inside (branch_alone g.D.HasMeaning.meaning.is_branch t) t c.args.root c.well_formed-2.ensures.tree c.loop-at.branches.items c.loop-at.at c.in-Some.op c.loop-at.invariant c.in-Some.is)

pub loop-at-smaller : goal.loop-at-smaller
loop-at-smaller g c =
    let t = c.args.ctx.now.tree in
    walk_smaller (branch_alone g.D.HasMeaning.meaning.is_branch t) t c.args.root c.well_formed-2.ensures.tree c.loop-at.branches.items c.loop-at.at c.next_in_preorder-at-in-Some.result c.in-Some.op c.loop-at.invariant c.in-Some.is c.next_in_preorder-at-in-Some.ensures.next

pub loop-at-preserved : goal.loop-at-preserved
loop-at-preserved g c =
    let t = c.args.ctx.now.tree in
    walk_step (branch_alone g.D.HasMeaning.meaning.is_branch t) t c.args.root c.well_formed-2.ensures.tree c.loop-at.branches.items c.add_branch.new.branches.items c.loop-at.at c.next_in_preorder-at-in-Some.result c.in-Some.op c.loop-at.invariant c.in-Some.is c.next_in_preorder-at-in-Some.ensures.next c.in_ok-add_branch.ensures.ok

pub returns-clause-ok : goal.returns-clause-ok
returns-clause-ok g c =
    let t = c.args.ctx.now.tree in
    walk_end (branch_alone g.D.HasMeaning.meaning.is_branch t) t c.args.root c.well_formed-2.ensures.tree c.loop-at.branches.items c.loop-at.at c.loop-at.invariant c.in_default.is ∙ filter_each (λ k. has_passing_head g.D.HasMeaning.meaning.is_branch (head_of t k)) (contents t c.args.root)
