-- What operations on integers give where no number is computed: of data that are no numbers of their width, and of
-- numbers where LLVM says poison.
use Rattle.std.specs.Prelude.{ℕ, ◌+◌, ◌-◌, ◌*◌, ◌^◌, ◌%◌, if◌then◌else◌, Bool, true, false, List, [], ◌∷◌, Option, Some, None, ℤ, pos, negsuc}
use Rattle.pliron_core.specs.declared.attrs.Head.{Head}
use Rattle.pliron_laws.specs.Datum.{Datum, Empty, Number, Text, Join}
use Rattle.pliron_dialect.specs.Roles.{Interpretation}
use Rattle.pliron_dialect_mlir.specs.declared.kind.Class.{Class}
use Rattle.pliron_dialect_mlir.specs.declared.kind.Class.TheVariants.{Compare, Cast as CastClass, Binary}
use Rattle.pliron_dialect_mlir.specs.ClassNumbers.{class_of_number}
use Rattle.pliron_dialect_mlir.specs.Data.{is_number}
use Rattle.pliron_dialect_mlir.specs.Heads.{width_at}

-- poison: what a number gives where it has no meaning
abbrev pub poison : Datum
poison = Empty

abbrev pub is_of_width : ℕ → Datum → Bool
is_of_width width (Number (pos n)) = is_number width n
is_of_width width _ = false

-- the first that is no number of the width, poison where there is none
abbrev pub first_other : ℕ → List Datum → Datum
first_other width [] = poison
first_other width (d ∷ ds) = if is_of_width width d then first_other width ds else d

-- above the integers of all widths
abbrev pub above_integers : ℕ
above_integers = 66 * 2 ^ 64

-- from one width to another: what is none of the first has to become none of the second, so what is one of that goes
-- above; it comes down where the way leads back
abbrev pub moved_between : (is_of_first is_of_second : Bool) → ℕ → ℕ
moved_between true false n = n - above_integers
moved_between false true n = n + above_integers
moved_between _ _ n = n

abbrev pub between_widths : (width to n : ℕ) → ℕ
between_widths width to n = moved_between (is_number width (n % above_integers)) (is_number to (n % above_integers)) n

-- a datum that is no number of the one width, as one that is none of the other: itself, but for numbers of the other
abbrev pub passed_on : (width to : ℕ) → Datum → Datum
passed_on width to (Number (pos n)) = Number (pos (between_widths width to n))
passed_on width to d = d

-- operations on integers pass on the first datum that is no number of their width, or poison
abbrev pub passing : Option Class → Interpretation → Interpretation
passing (Some Compare) value h ds = passed_on (width_at h.attrs 0) 1 (first_other (width_at h.attrs 0) ds) ∷ []
passing (Some (CastClass cast)) value h ds = passed_on (width_at h.attrs 0) (width_at h.attrs 1) (first_other (width_at h.attrs 0) ds) ∷ []
passing (Some (Binary operator)) value h ds = first_other (width_at h.attrs 0) ds ∷ []
passing _ value h ds = value h ds

-- what is given where no table says it
abbrev pub given_otherwise : Interpretation → Interpretation
given_otherwise value h ds = passing (class_of_number h.kind) value h ds
