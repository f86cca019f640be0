-- The law of a dialect on results that are operands, or that equal operands decide.
use Rattle.std.proofs.Common.{◌≡◌, ◌<◌, ℕ, Bool, List, [], Option, Some, length, slice_get, arith}
use Rattle.pliron_core.specs.declared.attrs.AttrObj.{AttrObj}
use Rattle.pliron_core.specs.Tree.{Tree}
use Rattle.pliron_laws.specs.Datum.{Datum, datum_of, Shape, Give, Meaning}
use Rattle.pliron_laws.specs.Acting.{Comes, AgreeWithKnown}
use Rattle.pliron_laws.specs.Laws.{Admitted}
use Rattle.pliron_laws.specs.Tree.{Operation, op_at, shape_of}
use Rattle.pliron_laws.specs.declared.operand_folds.OpFoldResult.{OpFoldResult}
use Rattle.pliron_laws.specs.declared.operand_folds.OpFoldResult.TheVariants.{Operand, Constant}

-- for the shape of an operation, the constants that are known of its operands and the values that they are, what
-- is known of each result
abbrev pub OperandFolds : Type 0
OperandFolds = Shape → List (Option AttrObj) → List ℕ → List (Option OpFoldResult)

-- operands that are the same value have the same datum
abbrev pub AreSameData : List ℕ → List Datum → Type 0
AreSameData operands first = (p q v : ℕ) → slice_get operands p ≡ Some v → slice_get operands q ≡ Some v → slice_get first p ≡ slice_get first q

-- the datum that a result has by this answer, where the operands have these data
abbrev pub datum_by : OpFoldResult → List Datum → Option Datum
datum_by (Operand p) first = slice_get first p
datum_by (Constant c) first = Some (datum_of c)

-- where the operands are these values and have these constants, the result at i is what the answer says
abbrev pub GivesAnswer : Meaning → Shape → List (Option AttrObj) → List ℕ → ℕ → OpFoldResult → Type 0
GivesAnswer m s known operands i answer = (first : List Datum) → length first ≡ s.operands → AgreeWithKnown known first → AreSameData operands first → (later : Bool) (memo : Datum) (input ds : List Datum) → Comes m.act s first later memo input → m.act s memo input ≡ Give ds → slice_get ds i ≡ datum_by answer first

-- the answer names an operand that there is
abbrev pub IsWithinShape : Shape → OpFoldResult → Type 0
IsWithinShape s (Operand p) = p < s.operands
IsWithinShape s (Constant c) = Unit {0}

-- what an admitted operation answers is of results that it has and of operands that it has, which it gives; only
-- operations without successors answer
pub record AnswersOperand (m : Meaning) (s : Shape) (known : List (Option AttrObj)) (operands : List ℕ) (i : ℕ) (answer : OpFoldResult) : Type 0 where
  pub result : i < s.results
  pub within : IsWithinShape s answer
  pub no_successors : s.successors ≡ 0
  pub gives : GivesAnswer m s known operands i answer

abbrev pub AnswersOperands : Meaning → OperandFolds → Type 0
AnswersOperands m folds = (s : Shape) → Admitted m s → (known : List (Option AttrObj)) (operands : List ℕ) → length known ≡ s.operands → length operands ≡ s.operands → (i : ℕ) (answer : OpFoldResult) → slice_get (folds s known operands) i ≡ Some (Some answer) → AnswersOperand m s known operands i answer

-- the answer is read off the shape of the operation, the constants, and its operands
abbrev pub ReadsOperands : Meaning → OperandFolds → List (Option AttrObj) → Tree → ℕ → List (Option OpFoldResult) → Type 0
ReadsOperands m folds known t op answers = (o : Operation) → op_at t op ≡ Some o → answers ≡ folds (shape_of m t o) known o.operands

-- no result is known to be an operand
abbrev pub no_operand_folds : OperandFolds
no_operand_folds s known operands = []

-- the law of a dialect that answers of none
pub none_answered : (m : Meaning) → AnswersOperands m no_operand_folds
none_answered m = λ s h known operands l k i answer e. grind arith
