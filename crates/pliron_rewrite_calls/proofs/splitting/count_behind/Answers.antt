use Rattle.std.proofs.Common.{◌≡◌, ◌+◌, ◌<◌, length, sym, subst, ◌∙◌, arith}
use Rattle.pliron_core.specs.Tree.{body_of}
use Rattle.pliron_core.specs.Reads.{next_of}
use Rattle.pliron_core.specs.WalkSteps.{rest_from}
use Rattle.pliron_core.proofs.NeighbourLemmas.{next_in-In}
use Rattle.pliron_rewrite_calls.proofs.MovedBehind.{first_behind, next_inside, rest_fits, rest_step}
use Rattle.pliron_rewrite_calls.proofs.splitting.count_behind.Goals as goal

pub loop-at-init : goal.loop-at-init
loop-at-init c =
    let t = c.args.ctx.now.tree in
    let w = c.well_formed-2.ensures.tree in
    let i = w.bodies.listed c.args.op c.args.block c.requires in
    record {
      within = λ k e. next_in-In k c.args.op (body_of t c.args.block) (sym (next_inside t w c.args.block c.args.op c.get_next-first.result i c.get_next-first.ensures.next) ∙ e);
      counted = first_behind t c.args.op c.args.block c.get_next-first.result c.get_next-first.ensures.next;
    }

pub get_next-first-requires : goal.get_next-first-requires
get_next-first-requires c = (c.well_formed-2.ensures.tree.joined.all_in_place c.args.op c.args.block c.requires).0

pub get_next-at-requires : goal.get_next-at-requires
get_next-at-requires c =
    let w = c.well_formed-2.ensures.tree in
    (w.joined.all_in_place c.in-Some.behind c.args.block (w.bodies.owned c.in-Some.behind c.args.block (c.loop-at.invariant.within c.in-Some.behind c.in-Some.is))).0

pub overflow_add-count : goal.overflow_add-count
overflow_add-count c =
    let t = c.args.ctx.now.tree in
    let w = c.well_formed-2.ensures.tree in
    let fits = rest_fits t w c.args.block c.args.op (w.bodies.listed c.args.op c.args.block c.requires) in
    let keys = c.well_formed-2.ensures.keys.operations in
    let counted = subst (λ o. c.loop-at.count + length (rest_from o (body_of t c.args.block)) ≡ length (rest_from (next_of t c.args.op) (body_of t c.args.block))) c.in-Some.is c.loop-at.invariant.counted in
    omega (arith, fits, keys, counted)

pub loop-at-preserved : goal.loop-at-preserved
loop-at-preserved c =
    let t = c.args.ctx.now.tree in
    let w = c.well_formed-2.ensures.tree in
    let i = c.loop-at.invariant.within c.in-Some.behind c.in-Some.is in
    let counted = subst (λ o. c.loop-at.count + length (rest_from o (body_of t c.args.block)) ≡ length (rest_from (next_of t c.args.op) (body_of t c.args.block))) c.in-Some.is c.loop-at.invariant.counted in
    let step = rest_step t w c.args.block c.in-Some.behind c.get_next-at.result i c.get_next-at.ensures.next in
    record {
      within = λ k e. next_in-In k c.in-Some.behind (body_of t c.args.block) (sym (next_inside t w c.args.block c.in-Some.behind c.get_next-at.result i c.get_next-at.ensures.next) ∙ e);
      counted = omega (arith, counted, step);
    }

pub loop-at-smaller : goal.loop-at-smaller
loop-at-smaller c =
    let t = c.args.ctx.now.tree in
    let i = c.loop-at.invariant.within c.in-Some.behind c.in-Some.is in
    let step = rest_step t c.well_formed-2.ensures.tree c.args.block c.in-Some.behind c.get_next-at.result i c.get_next-at.ensures.next in
    subst (λ o. length (rest_from c.get_next-at.result (body_of t c.args.block)) < length (rest_from o (body_of t c.args.block))) (sym c.in-Some.is) (omega (arith, step))

pub returns : goal.returns
returns c =
    let t = c.args.ctx.now.tree in
    let counted = subst (λ o. c.loop-at.count + length (rest_from o (body_of t c.args.block)) ≡ length (rest_from (next_of t c.args.op) (body_of t c.args.block))) c.in_default.is c.loop-at.invariant.counted in
    omega (arith, counted)
