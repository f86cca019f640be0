-- What is known of operands, and what is answered of results by it.
use Rattle.std.specs.Prelude.{◌≡◌, ◌⊎◌, ◌&&◌, if◌then◌else◌, nat_eq, ℕ, Bool, true, false, List, [], Option, Some, None, map, length, slice_get}
use Rattle.std.specs.Option.{option_map}
use Rattle.pliron_core.specs.declared.attrs.AttrObj.{AttrObj}
use Rattle.pliron_core.specs.declared.context.Def.{Def}
use Rattle.pliron_core.specs.declared.context.Def.TheVariants.{Result, Argument}
use Rattle.pliron_core.specs.Tree.{Tree, definition_of}
use Rattle.pliron_laws.specs.Datum.{Head, Meaning}
use Rattle.pliron_laws.specs.Folding.{Constants}
use Rattle.pliron_laws.specs.Tree.{Operation, op_at, shape_of}
use Rattle.pliron_laws.specs.declared.operand_folds.OpFoldResult.{OpFoldResult}
use Rattle.pliron_laws.specs.declared.operand_folds.OpFoldResult.TheVariants.{Constant}
use Rattle.pliron_laws.specs.OperandFolding.{OperandFolds}
use Rattle.pliron_laws.specs.Answers.{is_harmless, answer_in}

-- what canonicalization asks of a dialect
pub record Folding : Type 0 where
  pub meaning : Meaning
  pub side_effects : Head → Option Bool
  pub can_fold : Head → Bool
  pub constants : Constants
  pub accepts : AttrObj → Bool
  pub constant_head : AttrObj → Head
  pub operand_folds : OperandFolds

-- whether the operation makes one value of nothing: it folds, and has no operands, regions and side effects
abbrev pub is_constant_like : Folding → Operation → Bool
is_constant_like x o = nat_eq (length o.operands) 0 && (nat_eq (length o.regions) 0 && (nat_eq (length o.results) 1 && (x.can_fold o.head && is_harmless (x.side_effects o.head))))

-- the constant that a constant-like operation folds to
abbrev pub constant_made : Folding → Tree → Option Operation → Option AttrObj
constant_made x t None = None
constant_made x t (Some o) = if is_constant_like x o then answer_in (slice_get (x.constants (shape_of x.meaning t o) []) 0) else None

-- the constant that is known of a value with this definition: that of the constant-like operation which makes it
abbrev pub known_by : Folding → Tree → Option Def → Option AttrObj
known_by x t None = None
known_by x t (Some (Argument block i)) = None
known_by x t (Some (Result k i)) = constant_made x t (op_at t k)

abbrev pub known_of_operands : Folding → Tree → List ℕ → List (Option AttrObj)
known_of_operands x t operands = map (λ v. known_by x t (definition_of t v)) operands

-- what the dialect answers of the results by what is known of the operands and by which of them are one value
abbrev pub operand_answers : Folding → Tree → Operation → List (Option OpFoldResult)
operand_answers x t o = x.operand_folds (shape_of x.meaning t o) (known_of_operands x t o.operands) o.operands

-- the constants that folding answers by what is known of the operands
abbrev pub constant_answers : Folding → Tree → Operation → List (Option OpFoldResult)
constant_answers x t o = if x.can_fold o.head then map (λ c. option_map Constant c) (x.constants (shape_of x.meaning t o) (known_of_operands x t o.operands)) else []

-- one of both answers this of the result at i
abbrev pub IsAnsweredFold : Folding → Tree → Operation → ℕ → OpFoldResult → Type 0
IsAnsweredFold x t o i answer = (slice_get (operand_answers x t o) i ≡ Some (Some answer)) ⊎ (slice_get (constant_answers x t o) i ≡ Some (Some answer))
