-- What heads of operations on integers say, and the heads of those that passes make, which have no form.
use Rattle.std.specs.Prelude.{ℕ, nat_eq, if◌then◌else◌, Bool, ◌&&◌, List, [], ◌∷◌, Option, Some, None, ℤ, pos}
use Rattle.pliron_core.specs.declared.attrs.Head.{Head}
use Rattle.pliron_bits.specs.declared.operators.BinaryOperator.{BinaryOperator}
use Rattle.pliron_bits.specs.declared.operators.Predicate.{Predicate}
use Rattle.pliron_bits.specs.declared.operators.Cast.{Cast}
use Rattle.pliron_bits.specs.Flags.{number_of_flags}
use Rattle.pliron_bits.specs.Operators.{number_of_predicate, predicate_of_number}
use Rattle.pliron_dialect_mlir.specs.declared.kind.Class.{Class}
use Rattle.pliron_dialect_mlir.specs.declared.kind.Class.TheVariants.{Compare, Cast as CastClass, Binary}
use Rattle.pliron_dialect_mlir.specs.declared.computations.Comparison.{Comparison}
use Rattle.pliron_dialect_mlir.specs.declared.computations.Conversion.{Conversion}
use Rattle.pliron_dialect_mlir.specs.declared.computations.Arithmetic.{Arithmetic}
use Rattle.pliron_dialect_mlir.specs.ClassNumbers.{number_of_class}
use Rattle.pliron_dialect_mlir.specs.Data.{is_width, some_if}
use Rattle.pliron_dialect_mlir.specs.Heads.{attribute_at, width_at, flags_at, head_of_class}

abbrev pub is_of_class : Class → Head → Bool
is_of_class class h = nat_eq h.kind (number_of_class class)

abbrev pub comparison_with : ℕ → Option Predicate → Option Comparison
comparison_with width None = None
comparison_with width (Some predicate) = some_if (is_width width) (record { width = width; predicate = predicate })

-- what a comparison compares, and how
abbrev pub comparison_of : Head → Option Comparison
comparison_of h = if is_of_class Compare h then comparison_with (width_at h.attrs 0) (predicate_of_number (attribute_at h.attrs 1)) else None

-- from which width to which this cast is
abbrev pub conversion_of : Cast → Head → Option Conversion
conversion_of cast h =
    some_if (is_of_class (CastClass cast) h && (is_width (width_at h.attrs 0) && is_width (width_at h.attrs 1)))
    (record { width = width_at h.attrs 0; to = width_at h.attrs 1; flags = flags_at h.attrs 2 })

-- of which width this operation is
abbrev pub arithmetic_of : BinaryOperator → Head → Option Arithmetic
arithmetic_of operator h = some_if (is_of_class (Binary operator) h && is_width (width_at h.attrs 0)) (record { width = width_at h.attrs 0; flags = flags_at h.attrs 1 })

abbrev pub head_of_comparison : Comparison → Head
head_of_comparison c = head_of_class Compare (pos c.width ∷ pos (number_of_predicate c.predicate) ∷ [])

abbrev pub head_of_conversion : Cast → Conversion → Head
head_of_conversion cast c = head_of_class (CastClass cast) (pos c.width ∷ pos c.to ∷ pos (number_of_flags c.flags) ∷ [])

abbrev pub head_of_arithmetic : BinaryOperator → Arithmetic → Head
head_of_arithmetic operator a = head_of_class (Binary operator) (pos a.width ∷ pos (number_of_flags a.flags) ∷ [])
