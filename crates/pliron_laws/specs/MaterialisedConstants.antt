-- Materialised constants before an operation that are to replace some of its results, until all of them are
-- made.
use Rattle.std.specs.Prelude.{◌≡◌, ◌+◌, ◌<◌, ◌≤◌, ℕ, Bool, List, [], ◌∷◌, ◌++◌, length, Option, Some, None, IsSome, slice_get}
use Rattle.pliron_core.specs.declared.attrs.AttrObj.{AttrObj}
use Rattle.pliron_core.specs.declared.attrs.IRStatus.{IRStatus}
use Rattle.pliron_core.specs.declared.attrs.IRStatus.TheVariants.{Changed, Unchanged}
use Rattle.pliron_core.specs.declared.context.Def.{Def}
use Rattle.pliron_core.specs.declared.context.RegionSlot.{RegionSlot}
use Rattle.pliron_core.specs.Tree.{Tree, In, IsDefined, operands_of, results_of, head_of, IsLive, parent_of, slot_of, definition_of}
use Rattle.pliron_core.specs.Invariant.{IsTree}
use Rattle.pliron_core.specs.Writes.{after_creating, after_replacing, put_next_to}
use Rattle.pliron_core.specs.Changes.{IsSameTree}
use Rattle.pliron_laws.specs.declared.materialised_constants.MaterialisedConstant.{MaterialisedConstant}
use Rattle.pliron_laws.specs.Datum.{Head}
use Rattle.pliron_laws.specs.Outcomes.{next_op, next_value, Materialises}

-- the next constant that is made, for the value v
abbrev pub insert_constant : Tree → ℕ → MaterialisedConstant
insert_constant t v = record { constant = next_op t; old = v; new = next_value t }

-- a new operation with this head and one result is just before op
abbrev pub with_constant : Tree → ℕ → Head → Tree
with_constant t op head = put_next_to (after_creating t head 1 0) (next_op t) op (parent_of t op)

-- these were put before op one after the other, each for a live value, and nothing else was changed
pub data ArePutBefore (op : ℕ) (t : Tree) : List MaterialisedConstant → Tree → Type 0 where
  NoneYet : ArePutBefore op t [] t
  Another : {made : List MaterialisedConstant} {u : Tree} (v : ℕ) (head : Head) → ArePutBefore op t made u → IsTree u → IsSome (parent_of u op) → IsDefined u v → ArePutBefore op t (made ++ insert_constant u v ∷ []) (with_constant u op head)

-- each has the uses of the value that it replaces
abbrev pub all_replaced : List MaterialisedConstant → Tree → Tree
all_replaced [] t = t
all_replaced (s ∷ more) t = all_replaced more (after_replacing t s.old s.new)

-- whether there are any
abbrev pub status_of : List MaterialisedConstant → IRStatus
status_of [] = Unchanged
status_of (s ∷ more) = Changed

-- their results are the values from `base` on, in order, and no operation uses these yet
pub record AreUnused (made : List MaterialisedConstant) (t : Tree) : Type 0 where
  pub base : ℕ
  pub operands : (k x : ℕ) → In x (operands_of t k) → x < base
  pub numbered : (i : ℕ) (s : MaterialisedConstant) → slice_get made i ≡ Some s → s.new ≡ base + i
  pub defined : (i : ℕ) (s : MaterialisedConstant) → slice_get made i ≡ Some s → IsDefined t s.old × IsDefined t s.new

-- the tree is as before, but for erased handles, and what was known of handles is known still
pub record IsRestored (t u : Tree) : Type 0 where
  pub same : IsSameTree t u
  pub slots : (r : ℕ) (s : RegionSlot) → slot_of t r ≡ Some s → slot_of u r ≡ Some s
  pub definitions : (v : ℕ) (d : Def) → definition_of t v ≡ Some d → definition_of u v ≡ Some d
  pub longer : length t.operations ≤ length u.operations

-- whether something is live that was not
abbrev pub ReportsNew : IRStatus → Tree → Tree → Type 0
ReportsNew Unchanged t u = u ≡ t
ReportsNew Changed t u = (k : ℕ) × (head_of t k ≡ None) × IsLive u k

-- a constant is before op for each result that is answered by an attribute which the dialect accepts: once they
-- have the uses of the results, op is folded
pub record FoldsByConstants (accepts : AttrObj → Bool) (head : AttrObj → Head) (op : ℕ) (answers : List (Option AttrObj)) (t : Tree) (made : List MaterialisedConstant) (u : Tree) : Type 0 where
  pub all_in_place : ArePutBefore op t made u
  pub folds : Materialises accepts head op (results_of t op) answers t (all_replaced made u)
  pub reported : ReportsNew (status_of made) t (all_replaced made u)
