-- What the edge passes to the phis up to here.
use Rattle.std.proofs.Common.{take}
use Rattle.pliron_text_llvm_trees.specs.Passed.{ArePassed}
use Rattle.pliron_text_llvm_trees.proofs.passed.push_values.Given as goal

abbrev pub invariant-loop-number : goal.invariant-loop-number
invariant-loop-number l = ArePassed l.phis l.edge (take l.number-index l.numbers) l.passed.items
