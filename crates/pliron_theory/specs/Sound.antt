-- Lattice values that every run confirms, also while the tree is being rewritten by them.
use Rattle.std.specs.Prelude.{◌≡◌, ℕ, Bool, true, false, nat_eq, if◌then◌else◌, Option, Some, None, ◌⊎◌, slice_get, IsTrue}
use Rattle.pliron_core.specs.declared.attrs.AttrObj.{AttrObj}
use Rattle.pliron_core.specs.declared.context.Def.{Def}
use Rattle.pliron_core.specs.declared.context.Def.TheVariants.{Result, Argument}
use Rattle.pliron_core.specs.Tree.{Tree, In, IsInside, HoldsBlock, parent_of, regions_of, results_of, arguments_of, layout_of, first_of, block_parent_operation_of, definition_of}
use Rattle.pliron_core.specs.Invariant.{IsTree}
use Rattle.pliron_laws.specs.Datum.{datum_of}
use Rattle.pliron_laws.specs.Tree.{Operation, op_at}
use Rattle.pliron_theory.specs.Renaming.{GivesConstant}
use Rattle.pliron_theory.specs.Rewrites.{IsConstant}
use Rattle.pliron_theory.specs.LatticeValues.{LatticeValue, Constant, NotAConstant, AtMost, value_of_answer, LatticeValues, Says, answers_of, IsInExecutableBlock, IsFeasibleEdge, Forwards, AreBelowNamed, AreClosed, AreHeld}

-- `read` is right about the result at i of an operation: it isn't constant, it is at or below what folding
-- the operation answers, or the operation gives this constant at once
abbrev pub IsRightResult : Says → Tree → LatticeValues → (ℕ → LatticeValue) → (k i v : ℕ) → Operation → Type 0
IsRightResult x t f read k i v o = (read v ≡ NotAConstant) ⊎ (IsTrue (x.can_fold o.head) × ((a : Option AttrObj) → slice_get (answers_of x t f o) i ≡ Some a → AtMost (read v) (value_of_answer a))) ⊎ ((c : AttrObj) × GivesConstant x.meaning t k v (datum_of c) × (read v ≡ Constant c))

-- `f.lattice_value` is what is given to folds, and `read` what runs read: at least as much
pub record AreSound (x : Says) (t : Tree) (root : ℕ) (f : LatticeValues) (read : ℕ → LatticeValue) : Type 0 where
  pub finer : (v : ℕ) → AtMost (f.lattice_value v) (read v)
  -- executable blocks are inside the root, and so are the values of which something is known
  pub inside : (b : ℕ) → IsTrue (f.is_executable b) → HoldsBlock t root b
  pub held : (b k : ℕ) → IsTrue (f.is_executable b) → block_parent_operation_of t b ≡ Some k → (k ≡ root) ⊎ IsInExecutableBlock t f k
  pub no_results : (k v : ℕ) → (IsInside t root k → ⊥) → In v (results_of t k) → read v ≡ NotAConstant
  pub no_arguments : (b v : ℕ) → (HoldsBlock t root b → ⊥) → In v (arguments_of t b) → read v ≡ NotAConstant
  -- each transition from where runs may come to leads to where they may come to, and binds what is read
  pub root_entries : (r b : ℕ) → In r (regions_of t root) → first_of (layout_of t r) None ≡ Some b → IsTrue (f.is_executable b) × ((v : ℕ) → In v (arguments_of t b) → read v ≡ NotAConstant)
  pub entries : (k i r b : ℕ) (o : Operation) → IsInExecutableBlock t f k → op_at t k ≡ Some o → slice_get o.regions i ≡ Some r → first_of (layout_of t r) None ≡ Some b → IsTrue (f.is_executable b) × AreBelowNamed x t read read o i b
  pub jumps : (k i b : ℕ) (o : Operation) → IsInExecutableBlock t f k → op_at t k ≡ Some o → IsFeasibleEdge x t f o i b → IsTrue (f.is_executable b) × ((j v : ℕ) → slice_get (arguments_of t b) j ≡ Some v → (read v ≡ NotAConstant) ⊎ (IsTrue (x.meaning.is_branch o.head) × ((w : ℕ) → Forwards x t o i j w → AtMost (read v) (read w))))
  pub results : (k i v : ℕ) (o : Operation) → IsInExecutableBlock t f k → op_at t k ≡ Some o → slice_get o.results i ≡ Some v → IsRightResult x t f read k i v o

-- the value is defined in an executable block
abbrev pub IsMadeThere : Tree → LatticeValues → ℕ → Type 0
IsMadeThere t f v = ((k : ℕ) × IsInExecutableBlock t f k × In v (results_of t k)) ⊎ ((b : ℕ) × IsTrue (f.is_executable b) × In v (arguments_of t b))

-- every run of every root that is fit to run reads these constants
abbrev pub SoundFactsLaw : Says → Type 0
SoundFactsLaw x = (t : Tree) (root : ℕ) (f : LatticeValues) (read : ℕ → LatticeValue) → IsTree t → AreSound x t root f read → (v : ℕ) (c : AttrObj) → IsMadeThere t f v → read v ≡ Constant c → IsConstant x.meaning t v c

-- whether the value is there
abbrev pub is_it : ℕ → Option ℕ → Bool
is_it v None = false
is_it v (Some w) = nat_eq v w

abbrev pub answer_or : Option (Option AttrObj) → LatticeValue → LatticeValue
answer_or None g = g
answer_or (Some a) g = value_of_answer a

abbrev pub both : Bool → Bool → Bool
both true c = c
both false c = false

abbrev pub read_result : Says → Tree → LatticeValues → (v i : ℕ) → Option ℕ → Option Operation → LatticeValue
read_result x t f v i None o = f.lattice_value v
read_result x t f v i (Some b) None = f.lattice_value v
read_result x t f v i (Some b) (Some o) = if both (f.is_executable b) (both (x.can_fold o.head) (is_it v (slice_get o.results i))) then answer_or (slice_get (answers_of x t f o) i) (f.lattice_value v) else f.lattice_value v

abbrev pub read_from : Says → Tree → LatticeValues → ℕ → Option Def → LatticeValue
read_from x t f v None = f.lattice_value v
read_from x t f v (Some (Argument b i)) = f.lattice_value v
read_from x t f v (Some (Result k i)) = read_result x t f v i (parent_of t k) (op_at t k)

-- what runs read by closed lattice values: of a result of an operation that folds its answer, which says as
-- much as its lattice value or more, and of all other values their lattice values
unfoldable pub read_of : Says → Tree → LatticeValues → ℕ → LatticeValue
read_of x t f v = read_from x t f v (definition_of t v)

-- closed lattice values of the first tree: every answer of an operation that folds and is in an executable
-- block, and each constant of an argument of such a block, is what every run of every root that is fit to run
-- reads
pub record ClosedFactsLaw (x : Says) : Type 0 where
  pub results : (t : Tree) (root : ℕ) (f : LatticeValues) → IsTree t → AreClosed x t root f → AreHeld t root f → (k i v : ℕ) (c : AttrObj) (o : Operation) → IsInExecutableBlock t f k → op_at t k ≡ Some o → IsTrue (x.can_fold o.head) → slice_get o.results i ≡ Some v → slice_get (answers_of x t f o) i ≡ Some (Some c) → IsConstant x.meaning t v c
  pub arguments : (t : Tree) (root : ℕ) (f : LatticeValues) → IsTree t → AreClosed x t root f → AreHeld t root f → (b v : ℕ) (c : AttrObj) → IsTrue (f.is_executable b) → In v (arguments_of t b) → f.lattice_value v ≡ Constant c → IsConstant x.meaning t v c
