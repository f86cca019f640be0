-- Results that are answered, and trees in which their uses became uses of the answers.
use Rattle.std.specs.Prelude.{◌≡◌, ◌≢◌, ◌<◌, ℕ, List, [], Option, Some, IsTrue, get_or, length, slice_get}
use Rattle.pliron_core.specs.Tree.{Tree, In, operands_of, successors_of, results_of}
use Rattle.pliron_core.specs.Writes.{after_replacing}
use Rattle.pliron_laws.specs.Outcomes.{after_materialising}
use Rattle.pliron_laws.specs.Tree.{Operation, op_at}
use Rattle.pliron_laws.specs.declared.operand_folds.OpFoldResult.{OpFoldResult}
use Rattle.pliron_laws.specs.declared.operand_folds.OpFoldResult.TheVariants.{Operand, Constant}
use Rattle.pliron_rewrite_operands.specs.Answers.{Folding, IsAnsweredFold}

-- some operand of the operation is one of its results
abbrev pub UsesItself : Tree → ℕ → Type 0
UsesItself t k = (v : ℕ) × In v (results_of t k) × In v (operands_of t k)

-- the operation has operands, none of which is a result of its own, and no successors
pub record MayFold (t : Tree) (k : ℕ) : Type 0 where
  pub operands : operands_of t k ≢ []
  pub successors : successors_of t k ≡ []
  pub apart : UsesItself t k → ⊥

-- this is what the result at i of such an operation is answered to be
pub record HasAnswer (x : Folding) (t : Tree) (k i : ℕ) (answer : OpFoldResult) : Type 0 where
  pub may : MayFold t k
  pub operation : Operation
  pub liveness : op_at t k ≡ Some operation
  pub value : ℕ
  pub listed : slice_get (results_of t k) i ≡ Some value
  pub answered : IsAnsweredFold x t operation i answer

-- the dialect can put the answer in the place of a result
abbrev pub IsMade : Folding → OpFoldResult → Type 0
IsMade x (Operand p) = Unit {0}
IsMade x (Constant c) = IsTrue (x.accepts c)

-- the uses of the result v of k become uses of the operand, or of a constant that is put before k
abbrev pub after_folding : Folding → Tree → (k v : ℕ) → OpFoldResult → Tree
after_folding x t k v (Operand p) = after_replacing t v (get_or (operands_of t k) p 0)
after_folding x t k v (Constant c) = after_materialising t k v (x.constant_head c)

-- the answer names an operand that there is
abbrev pub NamesOperand : Tree → ℕ → OpFoldResult → Type 0
NamesOperand t k (Operand p) = p < length (operands_of t k)
NamesOperand t k (Constant c) = Unit {0}
