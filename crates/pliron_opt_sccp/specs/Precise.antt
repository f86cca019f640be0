-- The most precise lattice values, and where constant propagation owes them.
use Rattle.std.specs.Prelude.{◌≡◌, ◌≢◌, ℕ, [], Some, None, length, slice_get, IsTrue}
use Rattle.pliron_core.specs.declared.attrs.AttrObj.{AttrObj}
use Rattle.pliron_core.specs.Tree.{Tree, In, IsInside, head_of, operands_of, successors_of, results_of, parent_of, body_of, arguments_of, last_of}
use Rattle.pliron_core.specs.Changes.{IsDefinedInside}
use Rattle.pliron_laws.specs.Datum.{Head, Meaning}
use Rattle.pliron_laws.specs.Tree.{Operation, op_at, shape_of}
use Rattle.pliron_laws.specs.Folding.{FoldsMonotonely}
use Rattle.pliron_laws.specs.Root.{IsDominated}
use Rattle.pliron_theory.specs.LatticeValues.{Constant, LatticeValues, Says, AreClosed}
use Rattle.pliron_theory.specs.Sound.{IsMadeThere}

-- every closed set of lattice values has at least these executable blocks, and each constant that it gives to a
-- value that is defined in one of these is also theirs
pub record AreMostPrecise (x : Says) (t : Tree) (root : ℕ) (f : LatticeValues) : Type 0 where
  pub closed : AreClosed x t root f
  pub blocks : (g : LatticeValues) → AreClosed x t root g → (b : ℕ) → IsTrue (f.is_executable b) → IsTrue (g.is_executable b)
  pub constants : (g : LatticeValues) → AreClosed x t root g → (v : ℕ) (c : AttrObj) → IsMadeThere t f v → g.lattice_value v ≡ Constant c → f.lattice_value v ≡ Constant c

-- the root is isolated, and what is inside it is well defined, whether or not its regions have SSA dominance
pub record IsWellDefinedInside (m : Meaning) (t : Tree) (root : ℕ) : Type 0 where
  pub no_successors : successors_of t root ≡ []
  pub own_values : (k v : ℕ) → IsInside t root k → In v (operands_of t k) → IsDefinedInside t root v
  pub forwards : (k i b : ℕ) (o : Operation) → IsInside t root k → op_at t k ≡ Some o → IsTrue (m.is_branch o.head) → slice_get o.successors i ≡ Some b → length (m.forwarded (shape_of m t o) i) ≡ length (arguments_of t b)
  pub terminators : (k b : ℕ) (h : Head) → IsInside t root k → head_of t k ≡ Some h → IsTrue (m.is_terminator h) → parent_of t k ≡ Some b → last_of None (body_of t b) ≡ Some k
  pub unused : (k v user : ℕ) → IsInside t root k → successors_of t k ≢ [] → In v (results_of t k) → In v (operands_of t user) → ⊥
  pub dominated : (user v : ℕ) → In v (operands_of t user) → IsDefinedInside t root v → IsDominated t user v

-- whether the most precise lattice values are owed
pub record AreOwed (x : Says) (t : Tree) (root : ℕ) : Type 0 where
  pub monotone : FoldsMonotonely x.meaning x.can_fold x.can_fold_branch x.constants x.feasible
  pub defined : IsWellDefinedInside x.meaning t root
