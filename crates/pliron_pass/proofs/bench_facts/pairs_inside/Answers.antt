use Rattle.std.proofs.Common.{rules, ◌≡◌, ◌<◌, ◌++◌, length, refl, sym, ap, ◌∙◌, subst, Some}
use Rattle.std.specs.List.{flat_map}
use Rattle.pliron_core.specs.Walks.{preorder}
use Rattle.pliron_core.specs.WalkSteps.{rest_from}
use Rattle.pliron_core.proofs.WalkLemmas.{within_live}
use Rattle.pliron_pass.specs.BenchFacts.{pairs_at}
use Rattle.pliron_pass.proofs.BenchFactLemmas.{pairs_added, edges_walked}
use Rattle.pliron_pass.proofs.WalkedLemmas.{HasWalked, walk_begins, walk_steps, walk_ends, walk_shrinks}
use Rattle.pliron_pass.proofs.bench_facts.pairs_inside.Goals as goal

pub loop-at-init : goal.loop-at-init
loop-at-init c = walk_begins c.args.ctx.now.tree c.well_formed-2.ensures.tree c.args.op _ c.next_in_preorder-at.result c.next_in_preorder-at.ensures.next c.new-pairs.ensures.items

pub push_pairs_at-requires : goal.push_pairs_at-requires
push_pairs_at-requires c = within_live c.args.ctx.now.tree c.well_formed-2.ensures.tree c.args.op c.in-Some.inner c.requires (c.loop-at.invariant.within c.in-Some.inner c.in-Some.is)

pub loop-at-smaller : goal.loop-at-smaller
loop-at-smaller c =
    let t = c.args.ctx.now.tree in
    let at = subst (HasWalked t c.args.op (λ passed. c.loop-at.pairs.items ≡ flat_map (pairs_at t) passed)) c.in-Some.is c.loop-at.invariant in
    subst (λ o. length (rest_from c.next_in_preorder-at-in-Some.result (preorder t c.args.op)) < length (rest_from o (preorder t c.args.op))) (sym c.in-Some.is)
    (walk_shrinks t c.well_formed-2.ensures.tree c.args.op _ c.in-Some.inner c.next_in_preorder-at-in-Some.result c.next_in_preorder-at-in-Some.ensures.next at)

pub loop-at-preserved : goal.loop-at-preserved
loop-at-preserved c =
    let t = c.args.ctx.now.tree in
    let at = subst (HasWalked t c.args.op (λ passed. c.loop-at.pairs.items ≡ flat_map (pairs_at t) passed)) c.in-Some.is c.loop-at.invariant in
    let more = c.in_ok-push_pairs_at.ensures.added ∙ ap (λ xs. xs ++ pairs_at t c.in-Some.inner) at.done ∙ sym (pairs_added t at.passed c.in-Some.inner) in
    walk_steps t c.well_formed-2.ensures.tree c.args.op (λ passed. c.loop-at.pairs.items ≡ flat_map (pairs_at t) passed) (λ passed. c.push_pairs_at.new.pairs.items ≡ flat_map (pairs_at t) passed) c.in-Some.inner c.next_in_preorder-at-in-Some.result c.next_in_preorder-at-in-Some.ensures.next at more

pub returns-clause-pairs : goal.returns-clause-pairs
returns-clause-pairs c =
    let t = c.args.ctx.now.tree in
    let w = c.well_formed-2.ensures.tree in
    walk_ends t w c.args.op (λ passed. c.loop-at.pairs.items ≡ flat_map (pairs_at t) passed) (subst (HasWalked t c.args.op (λ passed. c.loop-at.pairs.items ≡ flat_map (pairs_at t) passed)) c.in_default.is c.loop-at.invariant) ∙ edges_walked t w c.args.op
