-- The laws on LLVM's meaning, and what it is that one tree refines another in it.
use Rattle.std.specs.Prelude.{◌≡◌, ◌≤◌, ◌<◌, ℕ, Bool, true, false, List, length, Option, Some, IsTrue}
use Rattle.pliron_core.specs.declared.attrs.Head.{Head}
use Rattle.pliron_core.specs.Tree.{Tree, In, IsLive, IsInside, operands_of, parent_of}
use Rattle.pliron_core.specs.Invariant.{IsTree}
use Rattle.pliron_core.specs.Erased.{after_erasing, IsSelfContained}
use Rattle.pliron_laws.specs.Datum.{Text}
use Rattle.pliron_laws.specs.Answers.{HeadPasses}
use Rattle.pliron_dialect_mlir.specs.declared.kind.Class.{Class}
use Rattle.pliron_dialect_mlir.specs.declared.kind.Class.TheVariants.{Constant, Select, Opaque, Compare, Cast, Binary}
use Rattle.pliron_dialect_mlir.specs.ClassNumbers.{class_of_number}
use Rattle.pliron_theory.specs.Keeps.{IsFit, KeepsRuns}
use Rattle.pliron_theory.specs.Sweeping.{IsSwept, AreNotLive}
use Rattle.pliron_theory.specs.Renaming.{IsRenamed, MayUse}
use Rattle.pliron_theory_refinement.specs.Refinement.{IsPreorder, ActsMonotonely, Refines, HaveLessData}
use Rattle.pliron_theory_llvm.specs.Llvm.{Llvm, llvm, may_become, elements_may, IsMonotone}

-- what may become what is an order, of data and of effects
pub record LlvmOrders : Type 0 where
  pub data_ordered : (l : Llvm) → IsMonotone l → IsPreorder (may_become l)
  pub effects_ordered : (l : Llvm) → IsMonotone l → IsPreorder (elements_may (may_become l))

-- LLVM's operations are monotone
abbrev pub LlvmLaw : Type 0
LlvmLaw = (l : Llvm) → IsMonotone l → ActsMonotonely (may_become l) (elements_may (may_become l)) (llvm l)

-- there is such a target, where an aggregate that is poison in part may become another one
abbrev pub SomeTarget : Type 0
SomeTarget = (l : Llvm) × IsMonotone l × (a : List ℕ) × (b : List ℕ) × IsTrue (l.order (Text a) (Text b)) × (a ≡ b → ⊥)

-- ---- trees

-- for this target each fit root that is still live does no less than it did, and is still fit; operations may be
-- created, and what was erased does not come back
pub record RefinesLlvm (l : Llvm) (t u : Tree) : Type 0 where
  pub refines : (root : ℕ) → IsFit (llvm l) t root → IsLive u root → Refines (may_become l) (elements_may (may_become l)) (llvm l) t u root
  pub stays : (root : ℕ) → IsFit (llvm l) t root → IsLive u root → IsFit (llvm l) u root
  pub grows : length t.operations ≤ length u.operations
  pub fewer : (root : ℕ) → root < length t.operations → IsLive u root → IsLive t root

-- whatever the target is
abbrev pub LlvmRefined : (t u : Tree) → Type 0
LlvmRefined t u = (l : Llvm) → IsMonotone l → RefinesLlvm l t u

-- what gives its results at once, or is undefined behaviour
abbrev pub is_pure_class : Option Class → Bool
is_pure_class (Some Constant) = true
is_pure_class (Some Select) = true
is_pure_class (Some Opaque) = true
is_pure_class (Some Compare) = true
is_pure_class (Some (Cast cast)) = true
is_pure_class (Some (Binary operator)) = true
is_pure_class _ = false

abbrev pub is_pure_head : Head → Bool
is_pure_head h = is_pure_class (class_of_number h.kind)

-- each dead operation that a run of the root can come to is pure
abbrev pub DeadPure : Tree → (dead dead_block : ℕ → Bool) → (root : ℕ) → Type 0
DeadPure t dead dead_block root = (k b : ℕ) → IsInside t root k → dead k ≡ true → parent_of t k ≡ Some b → dead_block b ≡ false → HeadPasses is_pure_head t k

pub record LlvmRefining : Type 0 where
  -- what keeps runs refines
  pub kept : (l : Llvm) (t u : Tree) → IsMonotone l → KeepsRuns (llvm l) t u → RefinesLlvm l t u
  pub transitive : (l : Llvm) (t u v : Tree) → IsMonotone l → RefinesLlvm l t u → RefinesLlvm l u v → RefinesLlvm l t v
  -- dead pure operations, divisions among them, and blocks that no run comes to may be erased
  pub swept : (l : Llvm) (t u : Tree) (dead dead_block : ℕ → Bool) → IsMonotone l → IsTree t → IsTree u → IsSwept t u dead dead_block → AreNotLive u dead dead_block → length t.operations ≤ length u.operations → ((root : ℕ) → IsFit (llvm l) t root → DeadPure t dead dead_block root) → RefinesLlvm l t u
  -- so may a pure operation with all that is inside it, where nothing else names that
  pub erased : (l : Llvm) (t : Tree) (op : ℕ) → IsMonotone l → IsTree t → IsTree (after_erasing t op) → IsLive t op → IsSelfContained t op → HeadPasses is_pure_head t op → RefinesLlvm l t (after_erasing t op)
  -- operands may be renamed to values whose data the old ones may become
  pub renamed : (l : Llvm) (t u : Tree) (rename : ℕ → ℕ) → IsMonotone l → IsRenamed t u rename → length t.operations ≡ length u.operations → ((root : ℕ) → IsFit (llvm l) t root → (user v : ℕ) → In v (operands_of t user) → MayUse t root user (rename v)) → ((root : ℕ) → IsFit (llvm l) t root → HaveLessData (may_become l) (llvm l) t rename root) → RefinesLlvm l t u
