use Rattle.std.proofs.Common.{◌≡◌, suc, ◌<◌, ◌≤◌, length, nat_lt, Some, sym, ap, ◌∙◌, rules, arith}
use Rattle.std.specs.List.{filter}
use Rattle.pliron_core.specs.Edges.{preds_of}
use Rattle.pliron_core.proofs.ReadLemmas.{In-at}
use Rattle.pliron_core.proofs.FilterLemmas.{below_zero, rising_at}
use Rattle.pliron_core.proofs.EdgeLemmas.{block-within, preds-below, preds-rising, pred-block}
use Rattle.pliron_core.proofs.context.edge_reads.Ptr+BasicBlock.get_pred.Goals as goal

pub loop-high-init : goal.loop-high-init
loop-high-init c =
    let count : c.num_blocks-high.result ≡ length c.args.ctx.now.tree.arguments = search rules in
    let here : c.args.self < length c.args.ctx.now.tree.arguments = block-within c.args.ctx.now.tree c.well_formed-2.ensures.tree c.args.self c.requires.live in
    let below : length (filter (λ a. nat_lt a 0) (preds_of c.args.ctx.now.tree c.args.self)) ≤ c.args.i = omega (arith, below_zero (preds_of c.args.ctx.now.tree c.args.self)) in
    let above : c.args.i < length (filter (λ a. nat_lt a c.num_blocks-high.result) (preds_of c.args.ctx.now.tree c.args.self)) = omega (arith, preds-below c.args.ctx.now.tree c.well_formed-2.ensures.tree c.args.self c.num_blocks-high.result count) in
    record { order = omega arith; within = omega (arith, count); below = below; above = above }

pub overflow_cast-low : goal.overflow_cast-low
overflow_cast-low c =
    let i = c.loop-high.invariant in
    omega (arith, i.order, i.within, c.well_formed-2.ensures.tree.keys.arguments, c.few_blocks.ensures)

pub returns-clause-predecessor : goal.returns-clause-predecessor
returns-clause-predecessor c =
    let next : c.loop-high.high ≡ suc c.loop-high.low = omega arith in
    let above : c.args.i < length (filter (λ a. nat_lt a (suc c.loop-high.low)) (preds_of c.args.ctx.now.tree c.args.self)) = rw next at c.loop-high.invariant.above in
    rising_at _ (preds-rising c.args.ctx.now.tree c.well_formed-2.ensures.tree c.args.self) c.args.i c.loop-high.low c.loop-high.invariant.below above ∙ ap Some (sym c.new.ensures)

pub returns-clause-liveness : goal.returns-clause-liveness
returns-clause-liveness c =
    pred-block c.args.ctx.now.tree c.well_formed-2.ensures.tree c.args.self c.new.result (In-at _ c.args.i c.new.result (returns-clause-predecessor c))
