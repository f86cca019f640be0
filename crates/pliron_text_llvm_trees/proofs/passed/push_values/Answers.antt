use Rattle.std.proofs.Common.{arith}
use Rattle.pliron_text_llvm_trees.proofs.PassedLemmas.{passed_more}
use Rattle.pliron_text_llvm_trees.proofs.passed.push_values.Goals as goal

pub loop-number-preserved : goal.loop-number-preserved
loop-number-preserved c =
    passed_more c.args.phis.now c.args.edge c.args.numbers.now c.loop-number.number-index 0 _ _ c.in-Some.hole (omega arith) c.loop-number.invariant c.in-Some.ensures c.in_ok-push-in-Some.ensures.items
