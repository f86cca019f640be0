-- Operations with one result that are put just before another one.
use Rattle.std.specs.Prelude.{◌≡◌, ℕ, false, List, [], ◌∷◌, ◌++◌, Option, Some, IsSome, length}
use Rattle.pliron_core.specs.Tree.{Tree, In, IsDefined, IsInside, parent_of}
use Rattle.pliron_core.specs.Invariant.{IsTree}
use Rattle.pliron_core.specs.Changes.{IsInsideChange}
use Rattle.pliron_core.specs.Writes.{after_creating, put_next_to}
use Rattle.pliron_laws.specs.Datum.{Datum, Empty, Head, Shape, Meaning}
use Rattle.pliron_laws.specs.Laws.{Admitted, IsGive}
use Rattle.pliron_laws.specs.Linked.{IsWellLinked}
use Rattle.pliron_laws.specs.Outcomes.{next_op}
use Rattle.pliron_theory.specs.Edges.{EdgesAlike}
use Rattle.pliron_theory.specs.Keeps.{KeepsAllRuns}
use Rattle.pliron_rewrite_rules.specs.Replacements.{IsAvailable}

-- a new operation with this head, these operands and one result, in no block
abbrev pub after_making : Tree → Head → List ℕ → Tree
after_making t head operands = record (after_creating t head 1 0) { operands = t.operands ++ operands ∷ [] }

-- it is just before the operation `at`
abbrev pub with_operation : Tree → (at : ℕ) → Head → (operands : List ℕ) → Tree
with_operation t at head operands = put_next_to (after_making t head operands) (next_op t) at (parent_of t at)

-- the shape of an operation with one result that has neither successors nor regions
abbrev pub pure_shape : Head → ℕ → Shape
pure_shape head operands = record { head = head; operands = operands; results = 1; successors = 0; entry_arguments = []; target_arguments = Some [] }

-- the dialect admits an operation with this head, so many operands and one result, which ends no block and gives at once
pub record IsInsertable (m : Meaning) (head : Head) (operands : ℕ) : Type 0 where
  pub admitted : Admitted m (pure_shape head operands)
  pub no_terminator : m.is_terminator head ≡ false
  pub no_branch : m.is_branch head ≡ false
  pub gives : (ds : List Datum) → length ds ≡ operands → IsGive (m.act (pure_shape head operands) Empty ds)

-- such an operation may be put just before `at`, where its operands are available
pub record IsInsertion (m : Meaning) (t : Tree) (at : ℕ) (head : Head) (operands : List ℕ) : Type 0 where
  pub tree : IsTree t
  pub placed : IsSome (parent_of t at)
  pub insertable : IsInsertable m head (length operands)
  pub available : (v : ℕ) → In v operands → IsAvailable t at v

-- that keeps runs, links and edges, and changes nothing outside of what has `at` inside
pub record InsertedLaws (m : Meaning) : Type 0 where
  pub after : (t : Tree) (at : ℕ) (head : Head) (operands : List ℕ) → IsInsertion m t at head operands → IsTree (with_operation t at head operands)
  pub runs : (t : Tree) (at : ℕ) (head : Head) (operands : List ℕ) → IsInsertion m t at head operands → KeepsAllRuns m t (with_operation t at head operands)
  pub links : (t : Tree) (at : ℕ) (head : Head) (operands : List ℕ) (root : ℕ) → IsInsertion m t at head operands → IsWellLinked m t root → IsWellLinked m (with_operation t at head operands) root
  pub inside : (t : Tree) (at : ℕ) (head : Head) (operands : List ℕ) (root : ℕ) → IsInsertion m t at head operands → IsInside t root at → IsInsideChange t (with_operation t at head operands) root
  pub edges : (t : Tree) (at : ℕ) (head : Head) (operands : List ℕ) → IsInsertion m t at head operands → EdgesAlike t (with_operation t at head operands)

-- the operation was just made in t, of values that are live there
pub record IsMadeOperation (t now : Tree) (op : ℕ) (head : Head) (operands : List ℕ) : Type 0 where
  pub tree : IsTree t
  pub defined : (v : ℕ) → In v operands → IsDefined t v
  pub made : now ≡ after_making t head operands
  pub key : op ≡ next_op t
