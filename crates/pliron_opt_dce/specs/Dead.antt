-- What is dead inside an operation.
use Rattle.std.specs.Prelude.{◌≡◌, ℕ, Bool, false, true, Option, Some, slice_get, IsTrue}
use Rattle.pliron_core.specs.Tree.{Tree, In, IsInside, IsWithin, HoldsBlock, head_of, operands_of, successors_of, results_of, arguments_of, block_parent_operation_of}
use Rattle.pliron_core.specs.Changes.{IsDefinedInside}
use Rattle.pliron_laws.specs.Datum.{Head, Meaning}
use Rattle.pliron_laws.specs.Tree.{Operation, op_at, shape_of}
use Rattle.pliron_laws.specs.Answers.{HeadPasses, ReadsPlace}
use Rattle.pliron_theory.specs.Rewrites.{HasNoSideEffects}

-- what may be dead: an operation, an argument of a block (named by its value), and a use: the operand of
-- an operation at a place
pub data Item : Type 0 where
  Op : ℕ → Item
  Arg : ℕ → Item
  Use : (user place : ℕ) → Item

-- the operation is no terminator and has no side effects
pub record IsHarmless (m : Meaning) (side_effects : Head → Option Bool) (t : Tree) (k : ℕ) : Type 0 where
  pub harmless : HasNoSideEffects side_effects t k
  pub plain : (h : Head) → head_of t k ≡ Some h → m.is_terminator h ≡ false

-- and is inside the root
pub record MayBeErased (m : Meaning) (side_effects : Head → Option Bool) (t : Tree) (root k : ℕ) : Type 0 where
  pub inside : IsInside t root k
  pub harmless : HasNoSideEffects side_effects t k
  pub plain : (h : Head) → head_of t k ≡ Some h → m.is_terminator h ≡ false

-- the parent operation of the block answers that its arguments may be removed
abbrev pub MayLose : (Head → ℕ → Bool → Option Bool) → Tree → ℕ → Type 0
MayLose removable t block = (k : ℕ) → block_parent_operation_of t block ≡ Some k → ReadsPlace removable t k block (Some true)

-- the value is an argument of a block inside the root, the parent operation of the block answers that its
-- arguments may be removed, and branches alone lead to the block
pub record MayBeRemoved (m : Meaning) (removable : Head → ℕ → Bool → Option Bool) (t : Tree) (root v : ℕ) : Type 0 where
  pub block : ℕ
  pub index : ℕ
  pub argument : slice_get (arguments_of t block) index ≡ Some v
  pub inside : HoldsBlock t root block
  pub allowed : (k : ℕ) → block_parent_operation_of t block ≡ Some k → ReadsPlace removable t k block (Some true)
  pub branches : (k : ℕ) → In block (successors_of t k) → HeadPasses m.is_branch t k

-- the operand at this place is a result of the operation, or, where it is used outside the operation, a
-- value that is defined inside it
pub data KeepsAlive (t : Tree) (k user place : ℕ) : Type 0 where
  OfResult : (v : ℕ) → slice_get (operands_of t user) place ≡ Some v → In v (results_of t k) → KeepsAlive t k user place
  OfInside : (v : ℕ) → slice_get (operands_of t user) place ≡ Some v → IsDefinedInside t k v → (IsWithin t k user → ⊥) → KeepsAlive t k user place

-- the operand at this place is what an edge of the branch forwards to the argument
pub record ForwardsToArgument (m : Meaning) (t : Tree) (user place v : ℕ) : Type 0 where
  pub operation : Operation
  pub liveness : op_at t user ≡ Some operation
  pub branch : IsTrue (m.is_branch operation.head)
  pub edge : ℕ
  pub index : ℕ
  pub block : ℕ
  pub target : slice_get (successors_of t user) edge ≡ Some block
  pub forwards : slice_get (m.forwarded (shape_of m t operation) edge) index ≡ Some place
  pub argument : slice_get (arguments_of t block) index ≡ Some v

-- the least set such that: an operation inside the root that may be erased is dead if each use that keeps it
-- alive is; an argument of a block inside the root that may be removed is dead if each use of it is; a use is
-- dead if a dead operation is its user or contains its user, or if an edge forwards it to a dead argument
pub data IsDead (m : Meaning) (side_effects : Head → Option Bool) (removable : Head → ℕ → Bool → Option Bool) (t : Tree) (root : ℕ) : Item → Type 0 where
  DeadOperation : (k : ℕ) → MayBeErased m side_effects t root k → ((user place : ℕ) → KeepsAlive t k user place → IsDead m side_effects removable t root (Use user place)) → IsDead m side_effects removable t root (Op k)
  DeadArgument : (v : ℕ) → MayBeRemoved m removable t root v → ((user place : ℕ) → slice_get (operands_of t user) place ≡ Some v → IsDead m side_effects removable t root (Use user place)) → IsDead m side_effects removable t root (Arg v)
  UsedByDead : (k user place : ℕ) → IsDead m side_effects removable t root (Op k) → IsWithin t k user → IsDead m side_effects removable t root (Use user place)
  Forwarded : (v user place : ℕ) → IsDead m side_effects removable t root (Arg v) → ForwardsToArgument m t user place v → IsDead m side_effects removable t root (Use user place)
