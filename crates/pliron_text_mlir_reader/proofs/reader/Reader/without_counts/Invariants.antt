use Rattle.std.proofs.Common.{◌≡◌, [], drop}
use Rattle.pliron_text_mlir_reader.specs.SaidOf.{without_counts}
use Rattle.pliron_text_mlir_reader.proofs.reader.Reader.without_counts.Given as goal

abbrev pub invariant-loop-entry : goal.invariant-loop-entry
invariant-loop-entry l = without_counts l.self.cursor [] l.entries ≡ without_counts l.self.cursor l.text.items (drop l.entry-index l.entries)
