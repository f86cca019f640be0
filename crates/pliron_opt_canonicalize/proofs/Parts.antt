-- What is asked of a dialect, from its members.
use Rattle.std.proofs.Common.{Bool, Option}
use Rattle.pliron_core.specs.declared.attrs.AttrObj.{AttrObj}
use Rattle.pliron_laws.specs.Datum.{Head, Meaning}
use Rattle.pliron_laws.specs.Folding.{Constants}
use Rattle.pliron_laws.specs.OperandFolding.{OperandFolds}
use Rattle.pliron_rewrite_operands.specs.Answers.{Folding}

abbrev pub folding : Meaning → (Head → Option Bool) → (Head → Bool) → Constants → (AttrObj → Bool) → (AttrObj → Head) → OperandFolds → Folding
folding m side_effects can_fold constants accepts constant_head operand_folds = record { meaning = m; side_effects = side_effects; can_fold = can_fold; constants = constants; accepts = accepts; constant_head = constant_head; operand_folds = operand_folds }
