use Rattle.pliron_mlir_symbols.specs.Mentions.{KeepsNames}
use Rattle.pliron_mlir_symbols.proofs.mentions.MentionedNames.add_call.Given as goal

abbrev pub invariant-loop-entry : goal.invariant-loop-entry
invariant-loop-entry l = KeepsNames l.fn.self l.self
