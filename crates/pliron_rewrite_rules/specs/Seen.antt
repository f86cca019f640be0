-- The views of the operations of a tree.
use Rattle.std.specs.Prelude.{◌≡◌, ◌&&◌, if◌then◌else◌, nat_eq, ℕ, Bool, true, false, List, [], ◌∷◌, Option, Some, None, map, length, slice_get}
use Rattle.pliron_core.specs.declared.attrs.AttrObj.{AttrObj}
use Rattle.pliron_core.specs.declared.context.Def.{Def}
use Rattle.pliron_core.specs.declared.context.Def.TheVariants.{Result, Argument}
use Rattle.pliron_core.specs.Tree.{Tree, definition_of}
use Rattle.pliron_laws.specs.Tree.{Operation, op_at, shape_of}
use Rattle.pliron_rewrite_rules.specs.Tables.{RuleTables}
use Rattle.pliron_rewrite_rules.specs.declared.view.Leaf.{Leaf}
use Rattle.pliron_rewrite_rules.specs.declared.view.Leaf.TheVariants.{Unknown, Known}
use Rattle.pliron_rewrite_rules.specs.declared.view.Operand.{Operand}
use Rattle.pliron_rewrite_rules.specs.declared.view.Operand.TheVariants.{Plain, Made}
use Rattle.pliron_rewrite_rules.specs.declared.view.View.{View}
use Rattle.pliron_laws.specs.Answers.{is_harmless, answer_in}

-- whether the operation is pure: it has one result, neither successors nor regions, and no side effects
abbrev pub is_pure_operation : RuleTables → Operation → Bool
is_pure_operation x o = nat_eq (length o.results) 1 && (nat_eq (length o.successors) 0 && (nat_eq (length o.regions) 0 && is_harmless (x.side_effects o.head)))

abbrev pub pure_only : RuleTables → Option Operation → Option Operation
pure_only x None = None
pure_only x (Some o) = if is_pure_operation x o then Some o else None

-- the pure operation that makes a value with this definition
abbrev pub pure_maker : RuleTables → Tree → Option Def → Option Operation
pure_maker x t None = None
pure_maker x t (Some (Argument block i)) = None
pure_maker x t (Some (Result k i)) = pure_only x (op_at t k)

-- the constant that an operation without operands folds to
abbrev pub constant_of : RuleTables → Tree → Operation → Option AttrObj
constant_of x t o = if nat_eq (length o.operands) 0 && x.can_fold o.head then answer_in (slice_get (x.constants (shape_of x.meaning t o) []) 0) else None

-- a leaf is known where a pure operation makes it that folds to a constant
abbrev pub leaf_with : ℕ → Option AttrObj → Leaf
leaf_with v None = Unknown v
leaf_with v (Some c) = Known v c

abbrev pub leaf_made : RuleTables → Tree → ℕ → Option Operation → Leaf
leaf_made x t v None = Unknown v
leaf_made x t v (Some o) = leaf_with v (constant_of x t o)

abbrev pub leaf_of : RuleTables → Tree → ℕ → Leaf
leaf_of x t v = leaf_made x t v (pure_maker x t (definition_of t v))

-- an operand is seen as made where another pure operation makes it
abbrev pub operand_with : RuleTables → Tree → ℕ → Operation → Option AttrObj → Operand
operand_with x t v o None = Made v o.head (map (leaf_of x t) o.operands)
operand_with x t v o (Some c) = Plain (Known v c)

abbrev pub operand_made : RuleTables → Tree → ℕ → Option Operation → Operand
operand_made x t v None = Plain (Unknown v)
operand_made x t v (Some o) = operand_with x t v o (constant_of x t o)

abbrev pub operand_of : RuleTables → Tree → ℕ → Operand
operand_of x t v = operand_made x t v (pure_maker x t (definition_of t v))

-- the view of an operation
abbrev pub operation_view : RuleTables → Tree → Operation → View
operation_view x t o = record { head = o.head; operands = map (operand_of x t) o.operands }
