use Rattle.std.proofs.Common.{◌≡◌, ◌<◌, ◌++◌, length, sym, subst, ap, ◌∙◌}
use Rattle.std.proofs.lemmas.List.{append-nil}
use Rattle.pliron_core.specs.Tree.{body_of}
use Rattle.pliron_core.specs.WalkSteps.{rest_from}
use Rattle.pliron_laws.proofs.BodyLemmas.{body_whole, body_first, body_placed, body_smaller, body_more}
use Rattle.pliron_laws.proofs.reads.all_operations.Goals as goal

pub loop-at-init : goal.loop-at-init
loop-at-init c =
    let t = c.args.ctx.now.tree in
    let w = c.well_formed-2.ensures.tree in
    let first = c.get_head-at.ensures.first in
    record {
      placed = body_first t w c.args.block c.get_head-at.result first;
      whole = ap (λ z. z ++ rest_from c.get_head-at.result (body_of t c.args.block)) c.new-operations.ensures.items ∙ body_whole t w c.args.block c.get_head-at.result first;
    }

pub get_next-at-requires : goal.get_next-at-requires
get_next-at-requires c = (c.well_formed-2.ensures.tree.joined.all_in_place c.in-Some.op c.args.block (c.loop-at.invariant.placed c.in-Some.op c.in-Some.is)).0

pub loop-at-smaller : goal.loop-at-smaller
loop-at-smaller c =
    let t = c.args.ctx.now.tree in
    subst (λ o. length (rest_from c.get_next-at.result (body_of t c.args.block)) < length (rest_from o (body_of t c.args.block))) (sym c.in-Some.is)
    (body_smaller t c.well_formed-2.ensures.tree c.args.block c.in-Some.op c.get_next-at.result (c.loop-at.invariant.placed c.in-Some.op c.in-Some.is) c.get_next-at.ensures.next)

pub loop-at-preserved : goal.loop-at-preserved
loop-at-preserved c =
    let t = c.args.ctx.now.tree in
    let w = c.well_formed-2.ensures.tree in
    let xs = c.loop-at.operations.items in
    let here = c.loop-at.invariant.placed c.in-Some.op c.in-Some.is in
    let next = c.get_next-at.ensures.next in
    let whole = subst (λ o. xs ++ rest_from o (body_of t c.args.block) ≡ body_of t c.args.block) c.in-Some.is c.loop-at.invariant.whole in
    record {
      placed = body_placed t w c.args.block c.in-Some.op c.get_next-at.result here next;
      whole = ap (λ z. z ++ rest_from c.get_next-at.result (body_of t c.args.block)) c.in_ok-push.ensures.items ∙ body_more t w c.args.block xs c.in-Some.op c.get_next-at.result here next whole;
    }

pub returns : goal.returns
returns c =
    let t = c.args.ctx.now.tree in
    let xs = c.loop-at.operations.items in
    sym (append-nil xs) ∙ subst (λ o. xs ++ rest_from o (body_of t c.args.block) ≡ body_of t c.args.block) c.in_default.is c.loop-at.invariant.whole
