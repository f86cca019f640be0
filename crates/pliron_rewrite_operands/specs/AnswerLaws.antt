-- What is answered of a result may have its uses.
use Rattle.std.specs.Prelude.{ℕ}
use Rattle.pliron_core.specs.Invariant.{IsTree}
use Rattle.pliron_core.specs.Tree.{Tree, IsInside, IsLive}
use Rattle.pliron_laws.specs.Linked.{IsAdmitted, IsWellLinked}
use Rattle.pliron_laws.specs.declared.operand_folds.OpFoldResult.{OpFoldResult}
use Rattle.pliron_theory.specs.Change.{IsWholeChange}
use Rattle.pliron_rewrite_operands.specs.Answers.{Folding}
use Rattle.pliron_rewrite_operands.specs.Answered.{HasAnswer, IsMade, NamesOperand, after_folding}

pub record AnswerLaws (x : Folding) : Type 0 where
  -- an operation that the dialect admits has the operand that is answered
  pub within : (t : Tree) (k i : ℕ) (answer : OpFoldResult) → IsTree t → IsAdmitted x.meaning t k → HasAnswer x t k i answer → NamesOperand t k answer
  -- inside an operation that is live and well linked, putting an answer in the place of a result is what a pass
  -- may do, whatever heads may be those of roots
  pub change : (t : Tree) (root k i : ℕ) (answer : OpFoldResult) → IsTree t → IsLive t root → IsWellLinked x.meaning t root → IsInside t root k → (has : HasAnswer x t k i answer) → IsMade x answer → IsWholeChange x.meaning t (after_folding x t k has.value answer) root
