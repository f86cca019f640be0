use Rattle.std.proofs.Common.{◌<◌, length, true≢false, sym, ◌∙◌, subst}
use Rattle.pliron_core.specs.Tree.{Tree, layout_of}
use Rattle.pliron_rewrite_calls.specs.CopySteps.{IsGrownIn, AreBare}
use Rattle.pliron_rewrite_calls.proofs.Growing.{region_grown}
use Rattle.pliron_rewrite_calls.proofs.ErasedAgain.{erase_step, erase_done, erase_at_last}
use Rattle.pliron_rewrite_calls.proofs.erasing.erase_new_blocks.Goals as goal

pub get_tail-requires : goal.get_tail-requires
get_tail-requires g c = region_grown g.t c.loop-block.ctx.tree c.args.region c.requires.1.0 c.loop-block.invariant.grown c.args.region c.requires.1.1.0

pub returns-then-is_block-clause-same : goal.returns-then-is_block-clause-same
returns-then-is_block-clause-same g c = erase_at_last g.t c.loop-block.ctx.tree c.args.region c.requires.1.0 c.well_formed-in-Some.ensures.tree c.loop-block.invariant.grown c.in-Some.block (sym c.requires.1.1.1.1 ∙ c.is_block.ensures.0 c.if-is_block.true) c.in-Some.ensures.last

pub erase_block-requires-clause-block : goal.erase_block-requires-clause-block
erase_block-requires-clause-block g c = (erase_step g.t c.loop-block.ctx.tree c.args.region c.requires.1.0 c.well_formed-in-Some.ensures.tree c.loop-block.invariant.grown c.loop-block.invariant.bare c.args.last.now c.in-Some.block c.requires.1.1.1.1 c.in-Some.ensures.last (λ e. true≢false (sym (c.is_block.ensures.1 e) ∙ c.if-is_block.false))).block

pub erase_block-requires-clause-contained : goal.erase_block-requires-clause-contained
erase_block-requires-clause-contained g c = (erase_step g.t c.loop-block.ctx.tree c.args.region c.requires.1.0 c.well_formed-in-Some.ensures.tree c.loop-block.invariant.grown c.loop-block.invariant.bare c.args.last.now c.in-Some.block c.requires.1.1.1.1 c.in-Some.ensures.last (λ e. true≢false (sym (c.is_block.ensures.1 e) ∙ c.if-is_block.false))).contained

pub loop-block-preserved : goal.loop-block-preserved
loop-block-preserved g c =
    let s = erase_step g.t c.loop-block.ctx.tree c.args.region c.requires.1.0 c.well_formed-in-Some.ensures.tree c.loop-block.invariant.grown c.loop-block.invariant.bare c.args.last.now c.in-Some.block c.requires.1.1.1.1 c.in-Some.ensures.last (λ e. true≢false (sym (c.is_block.ensures.1 e) ∙ c.if-is_block.false)) in
    record {
      grown = subst (λ (z : Tree). IsGrownIn g.t z c.args.region) (sym c.erase_block.ensures.erased) s.grown;
      bare = subst (λ (z : Tree). AreBare g.t z) (sym c.erase_block.ensures.erased) s.bare;
      point = c.erase_block.ensures.point ∙ c.loop-block.invariant.point;
    }

pub loop-block-smaller : goal.loop-block-smaller
loop-block-smaller g c =
    let s = erase_step g.t c.loop-block.ctx.tree c.args.region c.requires.1.0 c.well_formed-in-Some.ensures.tree c.loop-block.invariant.grown c.loop-block.invariant.bare c.args.last.now c.in-Some.block c.requires.1.1.1.1 c.in-Some.ensures.last (λ e. true≢false (sym (c.is_block.ensures.1 e) ∙ c.if-is_block.false)) in
    subst (λ (z : Tree). length (layout_of z c.args.region) < length (layout_of c.loop-block.ctx.tree c.args.region)) (sym c.erase_block.ensures.erased) s.falls

pub returns-clause-same : goal.returns-clause-same
returns-clause-same g c = erase_done g.t c.loop-block.ctx.tree c.args.region c.requires.1.0 c.well_formed-2.ensures.tree c.loop-block.invariant.grown (sym c.get_tail.ensures.last ∙ c.in_default.is)

pub returns-then-is_block-clause-longer : goal.returns-then-is_block-clause-longer
returns-then-is_block-clause-longer g c = c.loop-block.invariant.grown.operation_count

pub returns-clause-longer : goal.returns-clause-longer
returns-clause-longer g c = c.loop-block.invariant.grown.operation_count
