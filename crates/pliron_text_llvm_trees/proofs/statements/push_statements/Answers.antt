use Rattle.std.proofs.Common.{◌+◌, ap, refl, arith}
use Rattle.pliron_text_llvm_edges.proofs.NumberLemmas.{blocks_more}
use Rattle.pliron_text_llvm_trees.specs.Statements.{operations_of_block}
use Rattle.pliron_text_llvm_trees.proofs.statements.push_statements.Goals as goal

pub loop-block-preserved : goal.loop-block-preserved
loop-block-preserved c = (
  ap (λ n. n + 1) c.loop-block.invariant.0,
  blocks_more (operations_of_block c.args.reading.now.body) _ _ _ c.args.reading.now.body.blocks.items c.loop-block.block-index (record { start = 0; end = 0 }) c.loop-block.number (c.loop-block.number + 1) (omega arith) c.loop-block.invariant.1 (rw c.deref-block-items.ensures.value at c.in_ok-push_operations_of_block.ensures.places) refl,
  c.in_ok-push_operations_of_block.ensures.statements,
)
