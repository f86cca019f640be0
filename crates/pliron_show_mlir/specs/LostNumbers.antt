-- Where operations on integers give no number.
use Rattle.std.specs.Prelude.{◌≡◌, ℤ, List, map, Some, None}
use Rattle.pliron_core.specs.declared.attrs.Head.{Head}
use Rattle.pliron_laws.specs.Datum.{Datum, Number}
use Rattle.pliron_dialect.specs.Roles.{knows_in}
use Rattle.pliron_dialect_mlir.specs.ClassNumbers.{class_of_number}
use Rattle.pliron_dialect_mlir.specs.Classes.{role_of_class}
use Rattle.pliron_dialect_mlir.specs.declared.kind.Class.{Class}

-- the table of an operation of the class with this head gives nothing of these data, which are numbers
abbrev pub LosesBy : Class → (head : Head) → (input : List Datum) → Type 0
LosesBy class head input = (numbers : List ℤ) × (input ≡ map Number numbers) × (knows_in (role_of_class class) head (map Some numbers) ≡ None)

-- that of an operation with this head does
abbrev pub LosesNumber : (head : Head) → (input : List Datum) → Type 0
LosesNumber head input = (class : Class) × (class_of_number head.kind ≡ Some class) × LosesBy class head input
