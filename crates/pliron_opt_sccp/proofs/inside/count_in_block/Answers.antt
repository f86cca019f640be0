use Rattle.std.proofs.Common.{ap, ◌∙◌}
use Rattle.pliron_core.specs.Tree.{body_of, up_from}
use Rattle.pliron_core.specs.Lists.{next_in}
use Rattle.pliron_opt_sccp.proofs.Going.{walk_start, walk_next, walk_smaller}
use Rattle.pliron_opt_sccp.proofs.inside.count_in_block.Goals as goal

pub loop-at-init : goal.loop-at-init
loop-at-init c = walk_start (λ ks p q. Unit {0}) (body_of c.args.ctx.now.tree c.args.block) c.get_head-at.result 0 c.get_head-at.ensures.first

pub num_result-requires : goal.num_result-requires
num_result-requires c =
    let w = c.well_formed-2.ensures.tree in
    (w.joined.all_in_place c.in-Some.op c.args.block (w.bodies.owned c.in-Some.op c.args.block (c.loop-at.invariant.within c.in-Some.op c.in-Some.is))).0

pub loop-at-preserved : goal.loop-at-preserved
loop-at-preserved c =
    let w = c.well_formed-2.ensures.tree in
    let owned = w.bodies.owned c.in-Some.op c.args.block (c.loop-at.invariant.within c.in-Some.op c.in-Some.is) in
    let next = c.get_next-at.ensures.next ∙ ap (λ o. up_from o (λ b. next_in c.in-Some.op (body_of c.args.ctx.now.tree b))) owned in
    walk_next (λ ks p q. Unit {0}) (body_of c.args.ctx.now.tree c.args.block) c.loop-at.at c.get_next-at.result c.in-Some.op 0 0 0 (w.bodies.distinct c.args.block) c.loop-at.invariant c.in-Some.is next (λ rest u d. tt)

pub loop-at-smaller : goal.loop-at-smaller
loop-at-smaller c =
    let w = c.well_formed-2.ensures.tree in
    let owned = w.bodies.owned c.in-Some.op c.args.block (c.loop-at.invariant.within c.in-Some.op c.in-Some.is) in
    let next = c.get_next-at.ensures.next ∙ ap (λ o. up_from o (λ b. next_in c.in-Some.op (body_of c.args.ctx.now.tree b))) owned in
    walk_smaller (λ ks p q. Unit {0}) (body_of c.args.ctx.now.tree c.args.block) c.loop-at.at c.get_next-at.result c.in-Some.op 0 0 (w.bodies.distinct c.args.block) c.loop-at.invariant c.in-Some.is next
