-- What a rule sees of an operation, what it may put in the place of the result, and the data of both.
use Rattle.std.specs.Prelude.{◌≡◌, ℕ, List, [], ◌∷◌, Option, Some, None, length, map}
use Rattle.std.specs.List.{flat_map}
use Rattle.pliron_core.specs.Tree.{In}
use Rattle.pliron_laws.specs.Datum.{Datum, Empty, datum_of, Head, Move, Give, Visit, Goto, Leave, Emit, Trap, Meaning}
use Rattle.pliron_laws.specs.States.{Environment, prepend_optional}
use Rattle.pliron_rewrite_rules.specs.Insertions.{pure_shape}
use Rattle.pliron_rewrite_rules.specs.declared.view.Leaf.{Leaf}
use Rattle.pliron_rewrite_rules.specs.declared.view.Leaf.TheVariants.{Unknown, Known}
use Rattle.pliron_rewrite_rules.specs.declared.view.Operand.{Operand}
use Rattle.pliron_rewrite_rules.specs.declared.view.Operand.TheVariants.{Plain, Made}
use Rattle.pliron_rewrite_rules.specs.declared.view.View.{View}
use Rattle.pliron_rewrite_rules.specs.declared.term.Atom.{Atom}
use Rattle.pliron_rewrite_rules.specs.declared.term.Atom.TheVariants.{Named, Constant}
use Rattle.pliron_rewrite_rules.specs.declared.term.Term.{Term}
use Rattle.pliron_rewrite_rules.specs.declared.term.Term.TheVariants.{Atomic, Make}

-- each of the list does so
abbrev pub Each : {A : Type 0} → (A → Type 0) → List A → Type 0
Each P [] = Unit {0}
Each P (x ∷ xs) = P x × Each P xs

-- the one datum of a list, and of a transition that gives one
abbrev pub only_one : List Datum → Option Datum
only_one [] = None
only_one (d ∷ []) = Some d
only_one (d ∷ e ∷ ds) = None

abbrev pub only_given : Move → Option Datum
only_given (Give ds) = only_one ds
only_given (Visit i ds memo) = None
only_given (Goto i ds) = None
only_given (Leave ds) = None
only_given (Emit e memo) = None
only_given Trap = None

-- what an operation with this head and one result gives on these data, where there are any
abbrev pub result_datum : Meaning → Head → Option (List Datum) → Option Datum
result_datum m head None = None
result_datum m head (Some ds) = only_given (m.act (pure_shape head (length ds)) Empty ds)

-- the data of these, where each has one
abbrev pub data_by : {A : Type 0} → (A → Option Datum) → List A → Option (List Datum)
data_by f [] = Some []
data_by f (x ∷ xs) = prepend_optional (f x) (data_by f xs)

-- the value that stands there, and the datum that a view says it has
abbrev pub leaf_value : Leaf → ℕ
leaf_value (Unknown v) = v
leaf_value (Known v c) = v

abbrev pub leaf_datum : Environment → Leaf → Option Datum
leaf_datum env (Unknown v) = env v
leaf_datum env (Known v c) = Some (datum_of c)

abbrev pub operand_value : Operand → ℕ
operand_value (Plain leaf) = leaf_value leaf
operand_value (Made v head leaves) = v

abbrev pub operand_datum : Meaning → Environment → Operand → Option Datum
operand_datum m env (Plain leaf) = leaf_datum env leaf
operand_datum m env (Made v head leaves) = result_datum m head (data_by (leaf_datum env) leaves)

-- the datum of the result
abbrev pub view_datum : Meaning → Environment → View → Option Datum
view_datum m env view = result_datum m view.head (data_by (operand_datum m env) view.operands)

-- what the view says of its values is so
abbrev pub LeafAgrees : Environment → Leaf → Type 0
LeafAgrees env leaf = env (leaf_value leaf) ≡ leaf_datum env leaf

abbrev pub OperandAgrees : Meaning → Environment → Operand → Type 0
OperandAgrees m env (Plain leaf) = LeafAgrees env leaf
OperandAgrees m env (Made v head leaves) = (env v ≡ result_datum m head (data_by (leaf_datum env) leaves)) × Each (LeafAgrees env) leaves

abbrev pub Agrees : Meaning → Environment → View → Type 0
Agrees m env view = Each (OperandAgrees m env) view.operands

-- the values in a view
abbrev pub operand_values : Operand → List ℕ
operand_values (Plain leaf) = leaf_value leaf ∷ []
operand_values (Made v head leaves) = v ∷ map leaf_value leaves

abbrev pub shown_in : View → List ℕ
shown_in view = flat_map operand_values view.operands

-- the datum of what a term makes
abbrev pub atom_datum : Environment → Atom → Option Datum
atom_datum env (Named v) = env v
atom_datum env (Constant c) = Some (datum_of c)

abbrev pub term_datum : Meaning → Environment → Term → Option Datum
term_datum m env (Atomic atom) = atom_datum env atom
term_datum m env (Make head atoms) = result_datum m head (data_by (atom_datum env) atoms)

-- the values that a term names
abbrev pub atom_names : Atom → List ℕ
atom_names (Named v) = v ∷ []
atom_names (Constant c) = []

abbrev pub named_in : Term → List ℕ
named_in (Atomic atom) = atom_names atom
named_in (Make head atoms) = flat_map atom_names atoms
