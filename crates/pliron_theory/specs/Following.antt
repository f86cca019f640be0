-- How lattice values of a first tree stay valid while the tree is rewritten by them.
use Rattle.std.specs.Prelude.{◌≡◌, ℕ, Bool, Some, length, ◌≤◌, IsTrue}
use Rattle.pliron_core.specs.declared.attrs.AttrObj.{AttrObj}
use Rattle.pliron_core.specs.Tree.{Tree, In, IsLive, row_of, results_of, arguments_of, parent_of, block_parent_of}
use Rattle.pliron_core.specs.Invariant.{IsTree}
use Rattle.pliron_core.specs.Changes.{IsSameTree, IsInsideChange}
use Rattle.pliron_laws.specs.Datum.{Head}
use Rattle.pliron_laws.specs.Tree.{Operation, op_at, shape_of}
use Rattle.pliron_theory.specs.Keeps.{KeepsRuns}
use Rattle.pliron_laws.specs.Linked.{IsWellLinked}
use Rattle.pliron_laws.specs.Outcomes.{MaterialisesSome}
use Rattle.pliron_theory.specs.Edges.{KeepsEdges}
use Rattle.pliron_theory.specs.Rewrites.{materialised_first}
use Rattle.pliron_theory.specs.LatticeValues.{LatticeValue, Constant, LatticeValues, Says, operand_constants, answers_of, IsInExecutableBlock, AreClosed, AreHeld}
use Rattle.pliron_theory.specs.Sound.{AreSound, read_of}

-- an operation of the first tree is as it was, but for operands, about which the same is known
pub record IsAsBefore (x : Says) (t₀ t : Tree) (f₀ f : LatticeValues) (k : ℕ) (o₀ : Operation) : Type 0 where
  pub operation : Operation
  pub liveness : op_at t k ≡ Some operation
  pub head : operation.head ≡ o₀.head
  pub results : operation.results ≡ o₀.results
  pub successors : operation.successors ≡ o₀.successors
  pub shape : shape_of x.meaning t operation ≡ shape_of x.meaning t₀ o₀
  pub handed_same : operand_constants f operation.operands ≡ operand_constants f₀ o₀.operands

-- the tree t came from t₀ by constants that were put for values, by the lattice values f₀ on t₀: every run is
-- kept, only what is inside the root changed, edges stay, the lattice values f on t are sound, and they say of
-- what was live in t₀ what f₀ and `read_of f₀` said
pub record Follows (x : Says) (t₀ : Tree) (root : ℕ) (f₀ : LatticeValues) (t : Tree) : Type 0 where
  pub tree : IsTree t
  pub runs : KeepsRuns x.meaning t₀ t
  pub links : (r : ℕ) → IsWellLinked x.meaning t₀ r → IsWellLinked x.meaning t r
  pub changed_inside : IsInsideChange t₀ t root
  pub edges : KeepsEdges t₀ t
  pub facts : LatticeValues
  pub read : ℕ → LatticeValue
  pub sound : AreSound x t root facts read
  pub is_executable : (b : ℕ) → facts.is_executable b ≡ f₀.is_executable b
  pub rows : (k : ℕ) → IsLive t₀ k → row_of t k ≡ row_of t₀ k
  pub parents : (k : ℕ) → IsLive t₀ k → parent_of t k ≡ parent_of t₀ k
  pub block_parents : (b : ℕ) → block_parent_of t b ≡ block_parent_of t₀ b
  pub arguments : (b : ℕ) → arguments_of t b ≡ arguments_of t₀ b
  pub operations : (k : ℕ) (o₀ : Operation) → op_at t₀ k ≡ Some o₀ → IsAsBefore x t₀ t f₀ facts k o₀
  pub read_results : (k v : ℕ) → In v (results_of t₀ k) → read v ≡ read_of x t₀ f₀ v
  pub read_arguments : (b v : ℕ) → In v (arguments_of t₀ b) → read v ≡ f₀.lattice_value v

-- how the chain of rewrites is built: it starts at the tree of the closed lattice values; folding an operation
-- by what these know of its operands continues it, and so does a constant put first in a block for an argument,
-- and an allocation failure
pub record FollowingLaws (x : Says) (accepts : AttrObj → Bool) (head : AttrObj → Head) : Type 0 where
  pub start : (t₀ : Tree) (root : ℕ) (f₀ : LatticeValues) → IsTree t₀ → AreClosed x t₀ root f₀ → AreHeld t₀ root f₀ → Follows x t₀ root f₀ t₀
  pub folded : (t₀ : Tree) (root : ℕ) (f₀ : LatticeValues) (t t' : Tree) → IsTree t₀ → Follows x t₀ root f₀ t → IsTree t' → (k : ℕ) (o₀ : Operation) → IsInExecutableBlock t₀ f₀ k → op_at t₀ k ≡ Some o₀ → IsTrue (x.can_fold o₀.head) → MaterialisesSome accepts head k o₀.results (answers_of x t₀ f₀ o₀) t t' → length t.operations ≤ length t'.operations → Follows x t₀ root f₀ t'
  pub argument : (t₀ : Tree) (root : ℕ) (f₀ : LatticeValues) (t : Tree) → IsTree t₀ → Follows x t₀ root f₀ t → (b v : ℕ) (attr : AttrObj) → IsTrue (f₀.is_executable b) → In v (arguments_of t₀ b) → f₀.lattice_value v ≡ Constant attr → IsTrue (accepts attr) → IsTree (materialised_first t b v (head attr)) → KeepsRuns x.meaning t (materialised_first t b v (head attr)) → Follows x t₀ root f₀ (materialised_first t b v (head attr))
  pub same : (t₀ : Tree) (root : ℕ) (f₀ : LatticeValues) (t t' : Tree) → IsTree t₀ → Follows x t₀ root f₀ t → IsTree t' → IsSameTree t t' → length t.operations ≤ length t'.operations → Follows x t₀ root f₀ t'
