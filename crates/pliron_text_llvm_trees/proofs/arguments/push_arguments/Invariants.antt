-- The arguments that are the phis up to here.
use Rattle.std.proofs.Common.{take}
use Rattle.pliron_text_llvm_trees.specs.Arguments.{AreTreeArguments}
use Rattle.pliron_text_llvm_trees.proofs.arguments.push_arguments.Given as goal

abbrev pub invariant-loop-phi : goal.invariant-loop-phi
invariant-loop-phi l = AreTreeArguments l.reading.definitions.items (take l.phi-index l.phis) l.arguments.items
