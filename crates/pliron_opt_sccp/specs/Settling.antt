-- When the constraints of an operation are satisfied, and when it is settled.
use Rattle.std.specs.Prelude.{◌≡◌, ◌⊎◌, ℕ, false, Option, Some, None, slice_get, IsTrue}
use Rattle.pliron_core.specs.declared.attrs.AttrObj.{AttrObj}
use Rattle.pliron_core.specs.Tree.{Tree, In, HoldsBlock, parent_of, regions_of, arguments_of, layout_of, first_of}
use Rattle.pliron_core.specs.Changes.{IsDefinedInside}
use Rattle.pliron_laws.specs.Tree.{Operation, op_at}
use Rattle.pliron_theory.specs.LatticeValues.{NotAConstant, AtMost, value_of_answer, LatticeValues, Says, answers_of, IsFeasibleEdge, Forwards, IsEntryExecutable, AreBelowNamed}

-- the constraints of the operation under the lattice values `f`, which were read, are satisfied by the lattice
-- values `now`
pub record IsSatisfied (x : Says) (t : Tree) (f now : LatticeValues) (k : ℕ) (o : Operation) : Type 0 where
  pub entries : (i r b : ℕ) → slice_get o.regions i ≡ Some r → first_of (layout_of t r) None ≡ Some b → IsTrue (now.is_executable b) × AreBelowNamed x t now.lattice_value f.lattice_value o i b
  pub branches : (i b : ℕ) → IsTrue (x.meaning.is_branch o.head) → IsFeasibleEdge x t f o i b → IsTrue (now.is_executable b) × ((j v w : ℕ) → slice_get (arguments_of t b) j ≡ Some v → Forwards x t o i j w → AtMost (now.lattice_value v) (f.lattice_value w))
  pub jumps : (i b : ℕ) → x.meaning.is_branch o.head ≡ false → slice_get o.successors i ≡ Some b → IsEntryExecutable t now b
  pub folded : (i v : ℕ) (a : Option AttrObj) → IsTrue (x.can_fold o.head) → slice_get o.results i ≡ Some v → slice_get (answers_of x t f o) i ≡ Some a → AtMost (now.lattice_value v) (value_of_answer a)
  pub others : (v : ℕ) → x.can_fold o.head ≡ false → In v o.results → now.lattice_value v ≡ NotAConstant

-- `g` is at or below `f`: blocks stay executable, and values are only lowered
pub record AreAtMost (g f : LatticeValues) : Type 0 where
  pub is_executable : (b : ℕ) → IsTrue (f.is_executable b) → IsTrue (g.is_executable b)
  pub lattice_value : (v : ℕ) → AtMost (g.lattice_value v) (f.lattice_value v)

-- the constraints of the operation under some lattice values that were read are satisfied, and each operand is
-- as it was then, or calls for a visit
pub record IsSettled (x : Says) (t : Tree) (f : LatticeValues) (calls : ℕ → Type 0) (k : ℕ) (o : Operation) : Type 0 where
  pub seen : LatticeValues
  pub met : IsSatisfied x t seen f k o
  pub same : (v : ℕ) → In v o.operands → (f.lattice_value v ≡ seen.lattice_value v) ⊎ calls v

-- each operation in an executable block is in a block on the worklist, is settled, or is still to be visited
abbrev pub AreSettledBut : Says → Tree → LatticeValues → (is_block_on_worklist : ℕ → Type 0) → (calls : (k v : ℕ) → Type 0) → (todo : ℕ → Type 0) → Type 0
AreSettledBut x t f is_block_on_worklist calls todo = (k b : ℕ) (o : Operation) → parent_of t k ≡ Some b → IsTrue (f.is_executable b) → op_at t k ≡ Some o → is_block_on_worklist b ⊎ IsSettled x t f (calls k) k o ⊎ todo k

-- the rest of what closed lattice values owe
pub record AreStarted (t : Tree) (root : ℕ) (f : LatticeValues) : Type 0 where
  pub inside : (b : ℕ) → IsTrue (f.is_executable b) → HoldsBlock t root b
  pub outside : (v : ℕ) → (IsDefinedInside t root v → ⊥) → f.lattice_value v ≡ NotAConstant
  pub entries : (r b : ℕ) → In r (regions_of t root) → first_of (layout_of t r) None ≡ Some b → IsEntryExecutable t f b
