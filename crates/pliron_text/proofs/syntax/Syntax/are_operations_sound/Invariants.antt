use Rattle.std.proofs.Common.{ℕ, ◌≡◌, ◌<◌, Some, slice_get}
use Rattle.pliron_text.specs.declared.syntax.OperationText.{OperationText}
use Rattle.pliron_text.specs.Notation.{IsSoundOperation}
use Rattle.pliron_text.proofs.syntax.Syntax.are_operations_sound.Given as goal

abbrev pub invariant-loop-number : goal.invariant-loop-number
invariant-loop-number l = (n : ℕ) (o : OperationText) → n < l.number → slice_get l.self.operations.items n ≡ Some o → IsSoundOperation l.self n o
