-- Heads: what the attributes of each class say.
use Rattle.std.specs.Prelude.{ℕ, zero, suc, ◌-◌, nat_lt, if◌then◌else◌, Bool, true, false, List, [], ◌∷◌, ◌++◌, map, length, Option, Some, None, ℤ, pos, negsuc}
use Rattle.pliron_core.specs.declared.attrs.Head.{Head}
use Rattle.pliron_core.specs.declared.attrs.AttrObj.{AttrObj}
use Rattle.pliron_core.specs.declared.attrs.AttrObj.TheVariants.{Int}
use Rattle.pliron_dialect.specs.Counts.{counted_by}
use Rattle.pliron_bits.specs.declared.flags.Flags.{Flags}
use Rattle.pliron_bits.specs.declared.operators.BinaryOperator.{BinaryOperator}
use Rattle.pliron_bits.specs.declared.operators.Predicate.{Predicate}
use Rattle.pliron_bits.specs.declared.operators.Cast.{Cast}
use Rattle.pliron_bits.specs.Flags.{number_of_flags, flags_of_number}
use Rattle.pliron_bits.specs.Operators.{number_of_predicate}
use Rattle.pliron_dialect_mlir.specs.declared.kind.Class.{Class}
use Rattle.pliron_dialect_mlir.specs.declared.kind.Class.TheVariants.{Constant, Branch, Switch, Module, Compare, Cast as CastClass, Binary}
use Rattle.pliron_dialect_mlir.specs.ClassNumbers.{number_of_class}
use Rattle.pliron_dialect_mlir.specs.Data.{is_width}

-- ---- reading

-- what the attribute at this index counts, 0 where there is none
abbrev pub attribute_at : List AttrObj → ℕ → ℕ
attribute_at [] i = 0
attribute_at (a ∷ attrs) zero = counted_by a
attribute_at (a ∷ attrs) (suc i) = attribute_at attrs i

-- the width that it says, 0 where it is none
abbrev pub width_at : List AttrObj → ℕ → ℕ
width_at attrs i = if is_width (attribute_at attrs i) then attribute_at attrs i else 0

abbrev pub flags_at : List AttrObj → ℕ → Flags
flags_at attrs i = flags_of_number (attribute_at attrs i)

-- ---- writing

-- a region of a module is a graph, all others have dominance
abbrev pub has_dominance : Class → Bool
has_dominance Module = false
has_dominance _ = true

abbrev pub attributes : List ℤ → List AttrObj
attributes numbers = map (λ n. Int n) numbers

abbrev pub head_of_class : Class → List ℤ → Head
head_of_class class numbers = record { kind = number_of_class class; ssa = has_dominance class; attrs = attributes numbers }

abbrev pub constant_head : ℤ → ℕ → Head
constant_head datum form = head_of_class Constant (datum ∷ pos form ∷ [])

abbrev pub plain_class_head : Class → ℕ → Head
plain_class_head class form = head_of_class class (pos form ∷ [])

-- a call or a function, with the number of the name
abbrev pub named_head : Class → (symbol form : ℕ) → Head
named_head class symbol form = head_of_class class (pos symbol ∷ pos form ∷ [])

abbrev pub binary_head : BinaryOperator → ℕ → Flags → ℕ → Head
binary_head operator width flags form = head_of_class (Binary operator) (pos width ∷ pos (number_of_flags flags) ∷ pos form ∷ [])

abbrev pub compare_head : ℕ → Predicate → ℕ → Head
compare_head width predicate form = head_of_class Compare (pos width ∷ pos (number_of_predicate predicate) ∷ pos form ∷ [])

abbrev pub cast_head : Cast → (width to : ℕ) → Flags → ℕ → Head
cast_head cast width to flags form = head_of_class (CastClass cast) (pos width ∷ pos to ∷ pos (number_of_flags flags) ∷ pos form ∷ [])

abbrev pub naturals : List ℕ → List ℤ
naturals ns = map (λ n. pos n) ns

abbrev pub branch_head : (on_true on_false form : ℕ) → Head
branch_head on_true on_false form = head_of_class Branch (pos on_true ∷ pos on_false ∷ pos form ∷ [])

abbrev pub switch_head : List ℕ → ℕ → List ℕ → ℕ → Head
switch_head counts width cases form = head_of_class Switch (naturals counts ++ pos width ∷ (naturals cases ++ pos form ∷ []))

-- ---- the form

-- the last attribute, where there are more than so many
abbrev pub last_behind : ℕ → List AttrObj → Option ℕ
last_behind n attrs = if nat_lt n (length attrs) then Some (attribute_at attrs (length attrs - 1)) else None

-- how many attributes an operation has that passes made, which has no form: a constant its datum, what is done with
-- integers all but the form, a jump none
abbrev pub made_attributes : Class → ℕ
made_attributes Constant = 1
made_attributes Compare = 2
made_attributes (CastClass cast) = 3
made_attributes (Binary operator) = 2
made_attributes _ = 0

abbrev pub form_in : Option Class → List AttrObj → Option ℕ
form_in None attrs = None
form_in (Some class) attrs = last_behind (made_attributes class) attrs
