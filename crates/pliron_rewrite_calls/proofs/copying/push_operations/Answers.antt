use Rattle.std.proofs.Common.{◌≡◌, ◌<◌, ◌++◌, length, sym, subst}
use Rattle.pliron_core.specs.Tree.{body_of}
use Rattle.pliron_core.specs.WalkSteps.{rest_from}
use Rattle.pliron_laws.proofs.BodyLemmas.{body_first, body_placed, body_smaller}
use Rattle.pliron_laws.proofs.CopiedLists.{copied_first, copied_next, copied_all}
use Rattle.pliron_rewrite_calls.proofs.MovedBehind.{next_inside}
use Rattle.pliron_rewrite_calls.proofs.copying.push_operations.Goals as goal

pub loop-at-init : goal.loop-at-init
loop-at-init c =
    let t = c.args.ctx.now.tree in
    record {
      placed = body_first t c.well_formed-2.ensures.tree c.args.block c.get_head-at.result c.get_head-at.ensures.first;
      whole = copied_first (body_of t c.args.block) c.args.operations.now.items c.get_head-at.result c.get_head-at.ensures.first;
    }

pub get_next-at-requires : goal.get_next-at-requires
get_next-at-requires c = (c.well_formed-2.ensures.tree.joined.all_in_place c.in-Some.op c.args.block (c.loop-at.invariant.placed c.in-Some.op c.in-Some.is)).0

pub loop-at-smaller : goal.loop-at-smaller
loop-at-smaller c =
    let t = c.args.ctx.now.tree in
    subst (λ o. length (rest_from c.get_next-at.result (body_of t c.args.block)) < length (rest_from o (body_of t c.args.block))) (sym c.in-Some.is)
    (body_smaller t c.well_formed-2.ensures.tree c.args.block c.in-Some.op c.get_next-at.result (c.loop-at.invariant.placed c.in-Some.op c.in-Some.is) c.get_next-at.ensures.next)

pub loop-at-preserved : goal.loop-at-preserved
loop-at-preserved c =
    let t = c.args.ctx.now.tree in
    let w = c.well_formed-2.ensures.tree in
    let xs = body_of t c.args.block in
    let k = c.in-Some.op in
    let here = c.loop-at.invariant.placed k c.in-Some.is in
    let i = w.bodies.listed k c.args.block here in
    record {
      placed = body_placed t w c.args.block k c.get_next-at.result here c.get_next-at.ensures.next;
      whole = copied_next xs c.args.operations.now.items c.loop-at.operations.items c.push.new.self.items k c.get_next-at.result (w.bodies.distinct c.args.block) i (next_inside t w c.args.block k c.get_next-at.result i c.get_next-at.ensures.next)
          (subst (λ o. c.loop-at.operations.items ++ rest_from o xs ≡ c.args.operations.now.items ++ xs) c.in-Some.is c.loop-at.invariant.whole) c.in_ok-push.ensures.items;
    }

pub returns-clause-pushed : goal.returns-clause-pushed
returns-clause-pushed c = copied_all (body_of c.args.ctx.now.tree c.args.block) c.args.operations.now.items c.loop-at.operations.items c.loop-at.at c.in_default.is c.loop-at.invariant.whole
