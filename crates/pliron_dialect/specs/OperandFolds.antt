-- The results that a dialect of roles says to be operands, or numbers that are given whatever the other data are.
use Rattle.std.specs.Prelude.{ℕ, Bool, true, false, List, [], ◌∷◌, Option, Some, None, ℤ, option_map}
use Rattle.pliron_core.specs.declared.attrs.AttrObj.{AttrObj}
use Rattle.pliron_core.specs.declared.attrs.AttrObj.TheVariants.{Int}
use Rattle.pliron_laws.specs.Datum.{Head}
use Rattle.pliron_laws.specs.declared.operand_folds.OpFoldResult.{OpFoldResult}
use Rattle.pliron_laws.specs.declared.operand_folds.OpFoldResult.TheVariants.{Operand, Constant as ConstantFold}
use Rattle.pliron_laws.specs.OperandFolding.{OperandFolds}
use Rattle.pliron_dialect.specs.declared.form.Form.{Form}
use Rattle.pliron_dialect.specs.declared.form.Form.TheVariants.{Folds as FoldsForm, Picks as PicksForm}
use Rattle.pliron_dialect.specs.declared.form.Otherwise.{Otherwise}
use Rattle.pliron_dialect.specs.declared.form.Otherwise.TheVariants.{Says, Never, Traps}
use Rattle.pliron_dialect.specs.declared.identity.Identity.{Identity}
use Rattle.pliron_dialect.specs.Identities.{identity_operand, identity_constant, operand_by_fact, constant_by_fact}
use Rattle.pliron_dialect.specs.Roles.{Role, form_of, identity_in, truth_in, truth_of, known_number_at, by_role}

-- the place of the operand that is picked, where the truth is known
abbrev pub place_picked : Option Bool → Option ℕ
place_picked (Some true) = Some 1
place_picked (Some false) = Some 2
place_picked None = None

-- the operand at the place, or else the constant of the number
abbrev pub answer_at : Option ℕ → Option ℤ → Option OpFoldResult
answer_at (Some p) number = Some (Operand p)
answer_at None number = option_map (λ n. ConstantFold (Int n)) number

-- the place of the operand that is left, and the number that is given: by the whole identity, or by what it says as a
-- fact about what is computed
abbrev pub operand_left_by : Otherwise → Identity → List (Option AttrObj) → List ℕ → Option ℕ
operand_left_by Says i known operands = identity_operand i known operands
operand_left_by Never i known operands = operand_by_fact i known
operand_left_by Traps i known operands = operand_by_fact i known

abbrev pub constant_given_by : Otherwise → Identity → List (Option AttrObj) → List ℕ → Option ℤ
constant_given_by Says i known operands = identity_constant i known operands
constant_given_by Never i known operands = constant_by_fact i known operands
constant_given_by Traps i known operands = constant_by_fact i known operands

abbrev pub fold_by_identity : Otherwise → Identity → List (Option AttrObj) → List ℕ → Option OpFoldResult
fold_by_identity otherwise i known operands = answer_at (operand_left_by otherwise i known operands) (constant_given_by otherwise i known operands)

abbrev pub fold_by_form : Form → Identity → List (Option AttrObj) → List ℕ → Option OpFoldResult
fold_by_form (FoldsForm n otherwise) i known operands = fold_by_identity otherwise i known operands
fold_by_form _ i known operands = None

-- the answer of an operation of a form, of these two
abbrev pub answers_at : Form → (folded picked : Option OpFoldResult) → List (Option OpFoldResult)
answers_at (FoldsForm n otherwise) folded picked = folded ∷ []
answers_at PicksForm folded picked = picked ∷ []
answers_at _ folded picked = []

abbrev pub operands_by : Head → List (Option AttrObj) → List ℕ → Role → List (Option OpFoldResult)
operands_by h known operands r = answers_at (form_of r) (fold_by_form (form_of r) (identity_in r h) known operands) (answer_at (place_picked (truth_of (truth_in r) (known_number_at known 0))) None)

unfoldable pub operand_folds_by : (ℕ → Option Role) → OperandFolds
operand_folds_by roles s known operands = by_role [] (operands_by s.head known operands) (roles s.head.kind)
