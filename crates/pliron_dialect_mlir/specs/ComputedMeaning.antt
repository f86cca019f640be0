-- An interpretation by which programs run: nothing is given, so results are no numbers; and a branch on what is no
-- number goes to an edge that there isn't, which traps.
use Rattle.std.specs.Prelude.{◌+◌, List, [], ◌∷◌, length, Option, Some, pos}
use Rattle.pliron_core.specs.declared.attrs.Head.{Head}
use Rattle.pliron_laws.specs.Datum.{Datum, Number}
use Rattle.pliron_dialect.specs.Roles.{Interpretation}
use Rattle.pliron_dialect_mlir.specs.declared.kind.Class.{Class}
use Rattle.pliron_dialect_mlir.specs.declared.kind.Class.TheVariants.{Branch, Switch}
use Rattle.pliron_dialect_mlir.specs.ClassNumbers.{class_of_number}

-- behind all edges: a branch has two, and a switch at most as many as its head has attributes without the counts
abbrev pub no_edge : Head → List Datum
no_edge h = Number (pos (length h.attrs + 2)) ∷ []

abbrev pub given_to_class : Option Class → Head → List Datum
given_to_class (Some Branch) h = no_edge h
given_to_class (Some Switch) h = no_edge h
given_to_class _ h = []

abbrev pub given_in_runs : Interpretation
given_in_runs h ds = given_to_class (class_of_number h.kind) h
