-- The lists of the phis up to here.
use Rattle.std.proofs.Common.{map}
use Rattle.pliron_text_llvm_trees.proofs.ArgumentLemmas.{AreNumbersBelow}
use Rattle.pliron_text_llvm_trees.proofs.arguments.phis_by_block.Given as goal

abbrev pub invariant-loop-number : goal.invariant-loop-number
invariant-loop-number l = AreNumbersBelow l.count l.phis l.number (map (λ list. list.items) l.lists.items)
