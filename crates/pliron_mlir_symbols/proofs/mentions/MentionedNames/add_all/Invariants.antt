use Rattle.pliron_mlir_symbols.specs.Mentions.{HasBefore, KeepsNames}
use Rattle.pliron_mlir_symbols.proofs.mentions.MentionedNames.add_all.Given as goal

abbrev pub invariant-loop-place : goal.invariant-loop-place
invariant-loop-place l = HasBefore l.self l.text l.place × KeepsNames l.fn.self l.self
