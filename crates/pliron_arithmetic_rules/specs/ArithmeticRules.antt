-- Rules, as a table from views to terms.
use Rattle.std.specs.Prelude.{if◌then◌else◌, ◌&&◌, nat_eq, ℕ, Bool, true, List, [], ◌∷◌, Option, Some, None, ℤ, pos}
use Rattle.pliron_core.specs.declared.attrs.AttrObj.TheVariants.{Int}
use Rattle.pliron_core.specs.declared.attrs.Head.{Head}
use Rattle.pliron_dialect.specs.Roles.{head_of_kind}
use Rattle.pliron_dialect_arithmetic.specs.declared.kind.ArithmeticKind.{ArithmeticKind}
use Rattle.pliron_dialect_arithmetic.specs.declared.kind.ArithmeticKind.TheVariants.{Add, Mul}
use Rattle.pliron_dialect_arithmetic.specs.Arithmetic.{arithmetic_number_of}
use Rattle.pliron_rewrite_rules.specs.declared.view.Operand.{Operand}
use Rattle.pliron_rewrite_rules.specs.declared.view.View.{View}
use Rattle.pliron_rewrite_rules.specs.declared.term.Atom.TheVariants.{Named, Constant}
use Rattle.pliron_rewrite_rules.specs.declared.term.Term.{Term}
use Rattle.pliron_rewrite_rules.specs.declared.term.Term.TheVariants.{Make}
use Rattle.pliron_rewrite_rules.specs.Views.{operand_value}

-- whether an operation with this head is of the kind
abbrev pub is_arithmetic_kind : ArithmeticKind → Head → Bool
is_arithmetic_kind kind head = nat_eq head.kind (arithmetic_number_of kind)

-- the head of a new operation of the kind
abbrev pub arithmetic_head : ArithmeticKind → Head
arithmetic_head kind = head_of_kind (arithmetic_number_of kind) true

-- an operation of the kind, of a value and a number
abbrev pub arithmetic_term : ArithmeticKind → ℕ → ℤ → Term
arithmetic_term kind v n = Make (arithmetic_head kind) (Named v ∷ Constant (Int n) ∷ [])

-- `x + x` is `x * 2`
abbrev pub arithmetic_double : Head → (a b : Operand) → Option Term
arithmetic_double head a b =
    if is_arithmetic_kind Add head && nat_eq (operand_value a) (operand_value b)
    then Some (arithmetic_term Mul (operand_value a) (pos 2))
    else None

-- the first answer that there is
abbrev pub arithmetic_first : List (Option Term) → Option Term
arithmetic_first [] = None
arithmetic_first (Some term ∷ others) = Some term
arithmetic_first (None ∷ others) = arithmetic_first others

-- the rules for an operation with two operands
abbrev pub arithmetic_rules_of_two : Head → (a b : Operand) → Option Term
arithmetic_rules_of_two head a b = arithmetic_first (arithmetic_double head a b ∷ [])

abbrev pub arithmetic_by_operands : Head → List Operand → Option Term
arithmetic_by_operands head (a ∷ b ∷ []) = arithmetic_rules_of_two head a b
arithmetic_by_operands head _ = None

abbrev pub arithmetic_rules : View → Option Term
arithmetic_rules view = arithmetic_by_operands view.head view.operands
