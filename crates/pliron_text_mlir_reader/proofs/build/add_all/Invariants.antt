use Rattle.pliron_text_mlir_reader.specs.Additions.{AddsTaken}
use Rattle.pliron_text_mlir_reader.proofs.build.add_all.Given as goal

abbrev pub invariant-loop-number : goal.invariant-loop-number
invariant-loop-number l = AddsTaken l.fn.ctx.tree l.ctx.tree
