use Rattle.std.proofs.Common.{◌≡◌, drop, map}
use Rattle.pliron_text_mlir_reader.specs.Said.{value_in}
use Rattle.pliron_text_mlir_reader.specs.SaidOf.{entry_text}
use Rattle.pliron_text_mlir_reader.proofs.reader.Reader.value_in.Given as goal

abbrev pub invariant-loop-entry : goal.invariant-loop-entry
invariant-loop-entry l = value_in l.name (map (entry_text l.self.cursor) l.entries) ≡ value_in l.name (map (entry_text l.self.cursor) (drop l.entry-index l.entries))
