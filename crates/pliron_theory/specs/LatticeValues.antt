-- The lattice of constants of Wegman and Zadeck: lattice values of what is inside an operation, its executable
-- blocks ("facts" together), and when they are closed, which is a fixpoint.
use Rattle.std.specs.Prelude.{◌≡◌, ℕ, Bool, false, List, Option, Some, None, ◌⊎◌, map, slice_get, IsTrue}
use Rattle.pliron_core.specs.declared.attrs.AttrObj.{AttrObj}
use Rattle.pliron_core.specs.Tree.{Tree, In, HoldsBlock, parent_of, regions_of, arguments_of, layout_of, first_of, block_parent_operation_of}
use Rattle.pliron_core.specs.Changes.{IsDefinedInside}
use Rattle.pliron_laws.specs.Datum.{Head, Meaning}
use Rattle.pliron_laws.specs.Tree.{Operation, op_at, shape_of}
use Rattle.pliron_laws.specs.Acting.{pick}
use Rattle.pliron_laws.specs.Folding.{Constants, Feasible}
use Rattle.pliron_laws.specs.Entries.{EntryOperands}

-- top: nothing is known yet; the value is this constant; bottom: it isn't one constant
pub data LatticeValue : Type 0 where
  Undetermined : LatticeValue
  Constant : AttrObj → LatticeValue
  NotAConstant : LatticeValue

-- f is g or below it in the lattice: it says as much of the value, or less
abbrev pub AtMost : LatticeValue → LatticeValue → Type 0
AtMost f g = (g ≡ Undetermined) ⊎ (f ≡ NotAConstant) ⊎ (f ≡ g)

-- the constant that is given to a fold, and the lattice value of its answer
abbrev pub lattice_constant : LatticeValue → Option AttrObj
lattice_constant Undetermined = None
lattice_constant (Constant c) = Some c
lattice_constant NotAConstant = None

abbrev pub value_of_answer : Option AttrObj → LatticeValue
value_of_answer None = NotAConstant
value_of_answer (Some c) = Constant c

pub record LatticeValues : Type 0 where
  pub is_executable : ℕ → Bool
  pub lattice_value : ℕ → LatticeValue

-- what a dialect says of its operations, as far as lattice values depend on it
pub record Says : Type 0 where
  pub meaning : Meaning
  pub can_fold : Head → Bool
  pub can_fold_branch : Head → Bool
  pub constants : Constants
  pub feasible : Feasible
  pub entry_operands : EntryOperands

-- the constants that are given to a fold
abbrev pub operand_constants : LatticeValues → List ℕ → List (Option AttrObj)
operand_constants f vs = map (λ v. lattice_constant (f.lattice_value v)) vs

-- what folding the operation answers for its results
abbrev pub answers_of : Says → Tree → LatticeValues → Operation → List (Option AttrObj)
answers_of x t f o = x.constants (shape_of x.meaning t o) (operand_constants f o.operands)

-- the operation is in an executable block
abbrev pub IsInExecutableBlock : Tree → LatticeValues → ℕ → Type 0
IsInExecutableBlock t f k = (b : ℕ) × (parent_of t k ≡ Some b) × IsTrue (f.is_executable b)

-- the edge i leads to the block b, which is feasible where the operation folds as a branch
abbrev pub IsFeasibleEdge : Says → Tree → LatticeValues → Operation → (i b : ℕ) → Type 0
IsFeasibleEdge x t f o i b = (slice_get o.successors i ≡ Some b) × (IsTrue (x.can_fold_branch o.head) → In b (x.feasible (shape_of x.meaning t o) o.successors (operand_constants f o.operands)))

-- the edge i forwards the value w to the argument with index j
abbrev pub Forwards : Says → Tree → Operation → (i j w : ℕ) → Type 0
Forwards x t o i j w = slice_get (pick (x.meaning.forwarded (shape_of x.meaning t o) i) o.operands) j ≡ Some (Some w)

-- the block is executable, and its arguments are not constant
abbrev pub IsEntryExecutable : Tree → LatticeValues → ℕ → Type 0
IsEntryExecutable t f b = IsTrue (f.is_executable b) × ((v : ℕ) → In v (arguments_of t b) → f.lattice_value v ≡ NotAConstant)

-- the lattice value of an argument is at or below that of the operand at the named place, and not a constant
-- where none is named
abbrev pub IsBelowNamed : (lattice_value seen : ℕ → LatticeValue) → List ℕ → Option ℕ → ℕ → Type 0
IsBelowNamed lattice_value seen operands None v = lattice_value v ≡ NotAConstant
IsBelowNamed lattice_value seen operands (Some p) v = (w : ℕ) → slice_get operands p ≡ Some w → AtMost (lattice_value v) (seen w)

-- the arguments of the block b, the entry of the region with index i, are at or below what the operation names
-- for them
abbrev pub AreBelowNamed : Says → Tree → (lattice_value seen : ℕ → LatticeValue) → Operation → (i b : ℕ) → Type 0
AreBelowNamed x t lattice_value seen o i b = (j v : ℕ) → slice_get (arguments_of t b) j ≡ Some v → IsBelowNamed lattice_value seen o.operands (x.entry_operands (shape_of x.meaning t o) i j) v

-- the lattice values of what is inside the root are closed: a fixpoint of the transfer functions
pub record AreClosed (x : Says) (t : Tree) (root : ℕ) (f : LatticeValues) : Type 0 where
  pub inside : (b : ℕ) → IsTrue (f.is_executable b) → HoldsBlock t root b
  -- values that are not defined inside the root are not constant, its own results among them
  pub outside : (v : ℕ) → (IsDefinedInside t root v → ⊥) → f.lattice_value v ≡ NotAConstant
  -- the entry of each region of the root, whose arguments are not constant whatever the root names for them
  pub root_entries : (r b : ℕ) → In r (regions_of t root) → first_of (layout_of t r) None ≡ Some b → IsEntryExecutable t f b
  -- the entry of each region of an operation in an executable block
  pub entries : (k i r b : ℕ) (o : Operation) → IsInExecutableBlock t f k → op_at t k ≡ Some o → slice_get o.regions i ≡ Some r → first_of (layout_of t r) None ≡ Some b → IsTrue (f.is_executable b) × AreBelowNamed x t f.lattice_value f.lattice_value o i b
  -- where a branch may go, each argument is at or below what the edge forwards to it, where it forwards one
  pub branches : (k i b : ℕ) (o : Operation) → IsInExecutableBlock t f k → op_at t k ≡ Some o → IsTrue (x.meaning.is_branch o.head) → IsFeasibleEdge x t f o i b → IsTrue (f.is_executable b) × ((j v w : ℕ) → slice_get (arguments_of t b) j ≡ Some v → Forwards x t o i j w → AtMost (f.lattice_value v) (f.lattice_value w))
  pub jumps : (k i b : ℕ) (o : Operation) → IsInExecutableBlock t f k → op_at t k ≡ Some o → x.meaning.is_branch o.head ≡ false → slice_get o.successors i ≡ Some b → IsEntryExecutable t f b
  -- a result of an operation that folds is at or below its answer, other results are not constant
  pub folded : (k i v : ℕ) (a : Option AttrObj) (o : Operation) → IsInExecutableBlock t f k → op_at t k ≡ Some o → IsTrue (x.can_fold o.head) → slice_get o.results i ≡ Some v → slice_get (answers_of x t f o) i ≡ Some a → AtMost (f.lattice_value v) (value_of_answer a)
  pub others : (k v : ℕ) (o : Operation) → IsInExecutableBlock t f k → op_at t k ≡ Some o → x.can_fold o.head ≡ false → In v o.results → f.lattice_value v ≡ NotAConstant

-- the parent operation of an executable block is the root, or is in an executable block
abbrev pub AreHeld : Tree → ℕ → LatticeValues → Type 0
AreHeld t root f = (b k : ℕ) → IsTrue (f.is_executable b) → block_parent_operation_of t b ≡ Some k → (k ≡ root) ⊎ IsInExecutableBlock t f k
