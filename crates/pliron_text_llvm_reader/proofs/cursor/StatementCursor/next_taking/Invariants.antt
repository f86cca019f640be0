-- Nothing of the steps before those that are left is there.
use Rattle.std.proofs.Common.{length}
use Rattle.std.specs.Prelude.{reverse}
use Rattle.pliron_text_llvm_reader.specs.Cursors.{text_of, tokens_of}
use Rattle.pliron_text_llvm_reader.specs.Readings.{Skips}
use Rattle.pliron_text_llvm_reader.proofs.cursor.StatementCursor.next_taking.Given as goal

abbrev pub invariant-loop-step : goal.invariant-loop-step
invariant-loop-step l = Skips (text_of l.self) l.reads (reverse l.fn.steps.items) (tokens_of l.self) (reverse l.steps.items)

abbrev pub decreases-loop-step : goal.decreases-loop-step
decreases-loop-step l = length l.steps.items
