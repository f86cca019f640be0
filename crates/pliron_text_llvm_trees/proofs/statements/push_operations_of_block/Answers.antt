use Rattle.std.proofs.Common.{arith}
use Rattle.pliron_text_llvm_edges.proofs.NumberLemmas.{passing_more}
use Rattle.pliron_text_llvm_trees.specs.Statements.{is_operation_at}
use Rattle.pliron_text_llvm_trees.proofs.statements.push_operations_of_block.Goals as goal

pub loop-line-preserved : goal.loop-line-preserved
loop-line-preserved c = (
  passing_more (is_operation_at c.args.reading.now.body.lines.items) c.args.block c.loop-line.line c.args.lines.end _ _ _ (omega arith) c.loop-line.invariant.0 c.in_ok-push_operation.ensures.places,
  c.in_ok-push_operation.ensures.statements,
)
