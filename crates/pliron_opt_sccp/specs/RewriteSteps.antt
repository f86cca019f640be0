-- What one fold of the chain may rest on.
use Rattle.std.specs.Prelude.{◌≡◌, ◌≤◌, ℕ, Bool, List, [], ◌∷◌, Option, Some, None, IsTrue, slice_get, slice_range, length, map, drop, take}
use Rattle.pliron_laws.specs.Datum.{Head}
use Rattle.pliron_laws.specs.InPlace.{Outcome}
use Rattle.pliron_opt_sccp.specs.Chain.{FoldsInTurn, FoldsPartly, KnownArgument, all_put, folding_operations, known_arguments}
use Rattle.pliron_core.specs.declared.attrs.IRStatus.{IRStatus}
use Rattle.pliron_core.specs.declared.attrs.IRStatus.TheVariants.{Changed, Unchanged}
use Rattle.pliron_core.specs.Changes.{IsSameTree}
use Rattle.pliron_opt_sccp.specs.declared.rewrite.Fold.{Fold}
use Rattle.pliron_opt_sccp.specs.declared.rewrite.Folds.{Folds}
use Rattle.pliron_opt_sccp.specs.declared.rewrite.ConstantArgument.{ConstantArgument}
use Rattle.pliron_opt_sccp.specs.declared.rewrite.Replacements.{Replacements}
use Rattle.pliron_core.specs.declared.attrs.AttrObj.{AttrObj}
use Rattle.pliron_core.specs.Tree.{Tree, IsLive, head_of, arguments_of}
use Rattle.pliron_core.specs.Invariant.{IsTree}
use Rattle.pliron_laws.specs.Tree.{Operation, op_at}
use Rattle.pliron_theory.specs.LatticeValues.{LatticeValues, Constant, Says, IsInExecutableBlock, operand_constants, AreClosed, AreHeld}
use Rattle.pliron_theory.specs.Following.{Follows}

-- the operation folds and is in an executable block, in the first tree, these constants are known of its
-- operands there, and the tree now follows the lattice values
pub record IsFoldStep (x : Says) (t₀ : Tree) (root : ℕ) (f₀ : LatticeValues) (t : Tree) (op : ℕ) (known : List (Option AttrObj)) : Type 0 where
  pub first : IsTree t₀
  pub follows : Follows x t₀ root f₀ t
  pub operation : Operation
  pub at : op_at t₀ op ≡ Some operation
  pub liveness : IsInExecutableBlock t₀ f₀ op
  pub folds : IsTrue (x.can_fold operation.head)
  pub known_is : known ≡ operand_constants f₀ operation.operands

-- a fold of an operation that is in an executable block: its part of this list is what is known of the operands
pub record IsConstantFold (x : Says) (t : Tree) (f : LatticeValues) (known : List (Option AttrObj)) (fold : Fold) : Type 0 where
  pub operation : Operation
  pub at : op_at t fold.op ≡ Some operation
  pub liveness : IsInExecutableBlock t f fold.op
  pub folds : IsTrue (x.can_fold operation.head)
  pub rising : fold.start ≤ fold.end
  pub within : fold.end ≤ length known
  pub known_is : slice_range known fold.start fold.end ≡ operand_constants f operation.operands

-- each of the folds is one
abbrev pub AreEachFold : Says → Tree → LatticeValues → Folds → Type 0
AreEachFold x t f folds = (i : ℕ) (fold : Fold) → slice_get folds.rows.items i ≡ Some fold → IsConstantFold x t f folds.known.items fold

-- these operations fold and are in executable blocks, in the first tree, with what is known of their operands
pub record AreFoldSteps (x : Says) (t₀ : Tree) (root : ℕ) (f₀ : LatticeValues) (t : Tree) (folds : Folds) : Type 0 where
  pub first : IsTree t₀
  pub follows : Follows x t₀ root f₀ t
  pub each : AreEachFold x t₀ f₀ folds

-- `Unchanged` says that the tree is as before but for erased handles, `Changed` that an operation is live that
-- was not
abbrev pub ReportsCreated : IRStatus → Tree → Tree → Type 0
ReportsCreated Unchanged t u = IsSameTree t u
ReportsCreated Changed t u = (k : ℕ) × (head_of t k ≡ None) × IsLive u k

-- the operations before index i are folded: what folds the later ones from here folds all from the start
pub record IsFoldingOn (x : Says) (outcome : Outcome) (start : Tree) (folds : Folds) (i : ℕ) (status : IRStatus) (now : Tree) : Type 0 where
  pub follows : (t₀ : Tree) (root : ℕ) (f₀ : LatticeValues) → AreFoldSteps x t₀ root f₀ start folds → Follows x t₀ root f₀ now
  pub partly : (t₀ : Tree) (root : ℕ) (f₀ : LatticeValues) → AreFoldSteps x t₀ root f₀ start folds → (u : Tree) → FoldsPartly outcome t₀ f₀ (map (λ fold. fold.op) (drop i folds.rows.items)) now u → FoldsPartly outcome t₀ f₀ (map (λ fold. fold.op) folds.rows.items) start u
  pub turns : (t₀ : Tree) (root : ℕ) (f₀ : LatticeValues) → AreFoldSteps x t₀ root f₀ start folds → (u : Tree) → FoldsInTurn outcome t₀ f₀ (map (λ fold. fold.op) (drop i folds.rows.items)) now u → FoldsInTurn outcome t₀ f₀ (map (λ fold. fold.op) folds.rows.items) start u
  pub reported : ReportsCreated status start now
  pub stays : (k : ℕ) → IsLive start k → IsLive now k

-- the argument at this index of an executable block is this constant, in the first tree
pub record IsKnown (t₀ : Tree) (f₀ : LatticeValues) (argument : ConstantArgument) : Type 0 where
  pub value : ℕ
  pub reached : IsTrue (f₀.is_executable argument.block)
  pub listed : slice_get (arguments_of t₀ argument.block) argument.index ≡ Some value
  pub constant : f₀.lattice_value value ≡ Constant argument.attr

-- it is put by the lattice values of the first tree, which the tree now follows
pub record IsArgumentStep (x : Says) (t₀ : Tree) (root : ℕ) (f₀ : LatticeValues) (t : Tree) (argument : ConstantArgument) : Type 0 where
  pub first : IsTree t₀
  pub follows : Follows x t₀ root f₀ t
  pub known : IsKnown t₀ f₀ argument

-- what an argument is, as the chain names it
abbrev pub is_known_argument : (t₀ : Tree) → ConstantArgument → KnownArgument → Type 0
is_known_argument t₀ argument known = (argument.block ≡ known.block) × (slice_get (arguments_of t₀ argument.block) argument.index ≡ Some known.value) × (argument.attr ≡ known.attr)

abbrev pub AreKnownArguments : (t₀ : Tree) → List ConstantArgument → List KnownArgument → Type 0
AreKnownArguments t₀ [] [] = Unit {0}
AreKnownArguments t₀ [] (k ∷ known) = ⊥
AreKnownArguments t₀ (a ∷ arguments) [] = ⊥
AreKnownArguments t₀ (a ∷ arguments) (k ∷ known) = is_known_argument t₀ a k × AreKnownArguments t₀ arguments known

-- these arguments of executable blocks are constants, in the first tree
pub record AreArgumentSteps (x : Says) (t₀ : Tree) (root : ℕ) (f₀ : LatticeValues) (t : Tree) (arguments : List ConstantArgument) : Type 0 where
  pub first : IsTree t₀
  pub follows : Follows x t₀ root f₀ t
  pub each : (i : ℕ) (argument : ConstantArgument) → slice_get arguments i ≡ Some argument → IsKnown t₀ f₀ argument

-- constants are put for the arguments before index i: what puts the later ones from here puts all from the start
pub record IsPuttingOn (x : Says) (accepts : AttrObj → Bool) (head : AttrObj → Head) (start : Tree) (arguments : List ConstantArgument) (i : ℕ) (status : IRStatus) (now : Tree) : Type 0 where
  pub follows : (t₀ : Tree) (root : ℕ) (f₀ : LatticeValues) → AreArgumentSteps x t₀ root f₀ start arguments → Follows x t₀ root f₀ now
  pub puts : (t₀ : Tree) (root : ℕ) (f₀ : LatticeValues) → AreArgumentSteps x t₀ root f₀ start arguments → (known : List KnownArgument) → AreKnownArguments t₀ arguments known → (all_put accepts head known start ≡ all_put accepts head (drop i known) now) × (all_put accepts head (take i known) start ≡ now)
  pub reported : ReportsCreated status start now
  pub stays : (k : ℕ) → IsLive start k → IsLive now k

-- these are the folds and the arguments that closed lattice values of the tree say
pub record IsFound (x : Says) (can_fold : Head → Bool) (t : Tree) (root : ℕ) (f : LatticeValues) (found : Replacements) : Type 0 where
  pub closed : AreClosed x t root f
  pub held : AreHeld t root f
  pub folds : map (λ fold. fold.op) found.folds.rows.items ≡ folding_operations can_fold t root f
  pub each_fold : AreEachFold x t f found.folds
  pub arguments : AreKnownArguments t found.arguments.items (known_arguments t root f)
  pub each_argument : (i : ℕ) (argument : ConstantArgument) → slice_get found.arguments.items i ≡ Some argument → IsKnown t f argument
