use Rattle.std.proofs.Common.{◌+◌, ap, refl, arith}
use Rattle.pliron_text_llvm_edges.specs.Phis.{phis_of_block}
use Rattle.pliron_text_llvm_edges.proofs.NumberLemmas.{blocks_more, blocks_all}
use Rattle.pliron_text_llvm_edges.proofs.PhiLemmas.{heads_more, heads_all}
use Rattle.pliron_text_llvm_edges.proofs.phis.push_phis.Goals as goal

pub loop-block-preserved : goal.loop-block-preserved
loop-block-preserved c = (
  ap (λ n. n + 1) c.loop-block.invariant.0,
  blocks_more (phis_of_block c.args.reading.now.body) _ _ _ c.args.reading.now.body.blocks.items c.loop-block.block-index (record { start = 0; end = 0 }) c.loop-block.number (c.loop-block.number + 1) (omega arith) c.loop-block.invariant.1 (rw c.deref-block-items.ensures.value at c.in_ok-push_phis_of_block.ensures.places) refl,
  heads_more c.args.reading.now.body c.args.reading.now.body.blocks.items c.loop-block.block-index (record { start = 0; end = 0 }) (omega arith) c.loop-block.invariant.2 (rw c.deref-block-items.ensures.value at c.in_ok-expect_phis_first.ensures),
  c.in_ok-push_phis_of_block.ensures.fit,
)

pub returns : goal.returns
returns c = (
  blocks_all (phis_of_block c.args.reading.now.body) _ _ c.args.reading.now.body.blocks.items c.loop-block.block-index c.loop-block.number (omega arith) c.loop-block.invariant.1,
  heads_all c.args.reading.now.body c.args.reading.now.body.blocks.items c.loop-block.block-index (omega arith) c.loop-block.invariant.2,
  c.loop-block.invariant.3,
)
