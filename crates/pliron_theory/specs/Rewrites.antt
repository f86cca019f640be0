-- What the whole rewrites of optimisations make of a tree, and what they answer.
use Rattle.std.specs.Prelude.{◌≡◌, ℕ, Bool, false, Option, Some, IsSome, IsTrue, slice_get}
use Rattle.pliron_core.specs.declared.attrs.AttrObj.{AttrObj}
use Rattle.pliron_core.specs.declared.attrs.IRStatus.{IRStatus}
use Rattle.pliron_core.specs.declared.attrs.IRStatus.TheVariants.{Changed, Unchanged}
use Rattle.pliron_core.specs.declared.rewriter.OpInsertionPoint.{OpInsertionPoint}
use Rattle.pliron_core.specs.declared.rewriter.OpInsertionPoint.TheVariants.{Unset, BeforeOperation, AtBlockStart}
use Rattle.pliron_core.specs.Tree.{Tree, IsLive, IsBlock, head_of, results_of, arguments_of, parent_of}
use Rattle.pliron_core.specs.Invariant.{IsTree}
use Rattle.pliron_core.specs.Insertion.{after_inserting}
use Rattle.pliron_core.specs.Erased.{after_erasing}
use Rattle.pliron_core.specs.Writes.{after_creating, after_replacing, put_first}
use Rattle.pliron_laws.specs.Datum.{datum_of, Head, Meaning}
use Rattle.pliron_theory.specs.Keeps.{IsFit, KeepsRuns}
use Rattle.pliron_theory.specs.Renaming.{IsReadAs}
use Rattle.pliron_laws.specs.Folding.{MakesConstant}
use Rattle.pliron_laws.specs.Linked.{IsWellLinked}
use Rattle.pliron_laws.specs.Outcomes.{next_op, next_value, after_materialising, materialised_at}

-- the dialect answers of the operation's head that it has no side effects
abbrev pub HasNoSideEffects : (Head → Option Bool) → Tree → ℕ → Type 0
HasNoSideEffects side_effects t op = (h : Head) → head_of t op ≡ Some h → side_effects h ≡ Some false

-- an operation without side effects is erased with its contents, and any other one stays
abbrev pub ErasesUnused : (Head → Option Bool) → (op : ℕ) → (t t' : Tree) → IRStatus → Type 0
ErasesUnused side_effects op t t' Changed = HasNoSideEffects side_effects t op × (t' ≡ after_erasing t op)
ErasesUnused side_effects op t t' Unchanged = (HasNoSideEffects side_effects t op → ⊥) × (t' ≡ t)

-- wherever an operation reads the value in a run of a root that is fit to run, it has the attribute's
-- datum
abbrev pub IsConstant : Meaning → Tree → ℕ → AttrObj → Type 0
IsConstant m t v attr = (root : ℕ) → IsFit m t root → IsReadAs m t v (datum_of attr) root

-- a new operation with this head and one result is first in the block, and has all uses of the value
abbrev pub materialised_first : Tree → (block v : ℕ) → Head → Tree
materialised_first t block v head = after_replacing (put_first (after_creating t head 1 0) (next_op t) block) v (next_value t)

-- where the dialect accepts the attribute the tree became `made`, and where it does not it is as it was
abbrev pub BecomesIfAccepted : (AttrObj → Bool) → AttrObj → (made t t' : Tree) → IRStatus → Type 0
BecomesIfAccepted accepts attr made t t' Changed = IsTrue (accepts attr) × (t' ≡ made)
BecomesIfAccepted accepts attr made t t' Unchanged = (accepts attr ≡ false) × (t' ≡ t)

-- a constant for the attribute is put just before op and has all uses of its result with this index,
-- where the dialect accepts the attribute
abbrev pub ReplacesResult : (AttrObj → Bool) → (AttrObj → Head) → AttrObj → (op i : ℕ) → (t t' : Tree) → IRStatus → Type 0
ReplacesResult accepts head attr op i t t' status = (v : ℕ) → slice_get (results_of t op) i ≡ Some v → BecomesIfAccepted accepts attr (after_materialising t op v (head attr)) t t' status

-- a constant for the attribute is put first in the block and has all uses of its argument with this
-- index, where the dialect accepts the attribute
abbrev pub ReplacesArgument : (AttrObj → Bool) → (AttrObj → Head) → AttrObj → (block i : ℕ) → (t t' : Tree) → IRStatus → Type 0
ReplacesArgument accepts head attr block i t t' status = (v : ℕ) → slice_get (arguments_of t block) i ≡ Some v → BecomesIfAccepted accepts attr (materialised_first t block v (head attr)) t t' status

-- where a tree is well linked, it is so after a constant was put first in a block for a value
abbrev pub FirstKeepsLinks : Type 0
FirstKeepsLinks = (m : Meaning) (attr : AttrObj) (head : Head) (t : Tree) (block v root : ℕ) → IsTree t → IsBlock t block → MakesConstant m attr head → IsWellLinked m t root → IsWellLinked m (materialised_first t block v head) root

-- the point names an operation that is in a block, or a live block
abbrev pub IsPoint : Tree → OpInsertionPoint → Type 0
IsPoint t Unset = ⊥
IsPoint t (BeforeOperation at) = IsLive t at × IsSome (parent_of t at)
IsPoint t (AtBlockStart block) = IsBlock t block

-- putting a constant with this head at the point, with the uses of the value, keeps runs
abbrev pub PutKeepsRuns : Meaning → Tree → OpInsertionPoint → ℕ → Head → Type 0
PutKeepsRuns m t point v head = IsTree t → IsTree (after_inserting (after_creating t head 1 0) point (next_op t)) → IsTree (materialised_at t point v head) → KeepsRuns m t (materialised_at t point v head)
