use Rattle.std.proofs.Common.{ℕ, ◌≡◌, ◌<◌, Some, length, slice_get}
use Rattle.pliron_dialect.specs.Roles.{meaning_by, role_at, allows_at}
use Rattle.pliron_text.specs.declared.syntax.OperationText.{OperationText}
use Rattle.pliron_text.specs.Notation.{IsAdmittedText}
use Rattle.pliron_text.proofs.admission.first_not_admitted.Given as goal

abbrev pub invariant-loop-number : goal.invariant-loop-number
invariant-loop-number g l = (length l.made.attrs ≡ 1) × ((n : ℕ) (o : OperationText) → n < l.number → slice_get l.syntax.operations.items n ≡ Some o → IsAdmittedText (meaning_by g.K.Roles.tables.value (role_at g.K.Roles.tables) (allows_at g.K.Roles.tables)) o)
