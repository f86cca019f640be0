use Rattle.std.proofs.Common.{◌≡◌, ◌+◌, ◌<◌, length, sym, subst, ◌∙◌, arith}
use Rattle.pliron_core.specs.Tree.{body_of}
use Rattle.pliron_core.specs.WalkSteps.{rest_from}
use Rattle.pliron_core.proofs.NeighbourLemmas.{first_of-In, next_in-In}
use Rattle.pliron_opt_cfg.proofs.JoinLemmas.{body_fits, first_rest, next_inside, rest_step}
use Rattle.pliron_opt_cfg.proofs.merging.joining.count_operations.Goals as goal

pub loop-at-init : goal.loop-at-init
loop-at-init c = record {
  within = λ k e. first_of-In k (body_of c.args.ctx.now.tree c.args.block) (sym c.get_head-at.ensures.first ∙ e);
  counted = first_rest (body_of c.args.ctx.now.tree c.args.block) c.get_head-at.result c.get_head-at.ensures.first;
}

pub overflow_add-count : goal.overflow_add-count
overflow_add-count c =
    let t = c.args.ctx.now.tree in
    let w = c.well_formed-2.ensures.tree in
    let fits = body_fits t w c.args.block in
    let keys = c.well_formed-2.ensures.keys.operations in
    let counted = subst (λ o. c.loop-at.count + length (rest_from o (body_of t c.args.block)) ≡ length (body_of t c.args.block)) c.in-Some.is c.loop-at.invariant.counted in
    omega (arith, fits, keys, counted)

pub loop-at-preserved : goal.loop-at-preserved
loop-at-preserved c =
    let t = c.args.ctx.now.tree in
    let w = c.well_formed-2.ensures.tree in
    let i = c.loop-at.invariant.within c.in-Some.op c.in-Some.is in
    let counted = subst (λ o. c.loop-at.count + length (rest_from o (body_of t c.args.block)) ≡ length (body_of t c.args.block)) c.in-Some.is c.loop-at.invariant.counted in
    let step = rest_step t w c.args.block c.in-Some.op c.get_next-at.result i c.get_next-at.ensures.next in
    record {
      within = λ k e. next_in-In k c.in-Some.op (body_of t c.args.block) (sym (next_inside t w c.args.block c.in-Some.op c.get_next-at.result i c.get_next-at.ensures.next) ∙ e);
      counted = omega (arith, counted, step);
    }

pub loop-at-smaller : goal.loop-at-smaller
loop-at-smaller c =
    let t = c.args.ctx.now.tree in
    let i = c.loop-at.invariant.within c.in-Some.op c.in-Some.is in
    let step = rest_step t c.well_formed-2.ensures.tree c.args.block c.in-Some.op c.get_next-at.result i c.get_next-at.ensures.next in
    subst (λ o. length (rest_from c.get_next-at.result (body_of t c.args.block)) < length (rest_from o (body_of t c.args.block))) (sym c.in-Some.is) (omega (arith, step))

pub returns : goal.returns
returns c =
    let t = c.args.ctx.now.tree in
    let counted = subst (λ o. c.loop-at.count + length (rest_from o (body_of t c.args.block)) ≡ length (body_of t c.args.block)) c.in_default.is c.loop-at.invariant.counted in
    omega (arith, counted)
