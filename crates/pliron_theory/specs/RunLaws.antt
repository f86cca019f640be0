-- The main statements on runs.
use Rattle.std.specs.Prelude.{◌≡◌, ◌≤◌, ℕ, Bool, true, false, List, [], ◌∷◌, Option, Some, None, length, slice_get, IsTrue}
use Rattle.pliron_core.specs.declared.attrs.Head.{Head}
use Rattle.pliron_core.specs.declared.attrs.AttrObj.{AttrObj}
use Rattle.pliron_core.specs.declared.uses.Use.{Use}
use Rattle.pliron_core.specs.Tree.{Tree, In, IsLive, IsBlock, IsInside, IsWithin, first_of, head_of, operands_of, successors_of, regions_of, parent_of, arguments_of, layout_of, block_parent_operation_of}
use Rattle.pliron_core.specs.Invariant.{IsTree}
use Rattle.pliron_core.specs.Changes.{IsSameTree}
use Rattle.pliron_core.specs.Erased.{after_erasing, IsSelfContained}
use Rattle.pliron_core.specs.Writes.{after_creating, put_first, put_next_to, after_replacing, argument_removed}
use Rattle.pliron_laws.specs.Datum.{Datum, Shape, Meaning}
use Rattle.pliron_laws.specs.States.{State}
use Rattle.pliron_laws.specs.Laws.{KeepsCounts, GivesAtOnce}
use Rattle.pliron_laws.specs.Folding.{MakesConstant}
use Rattle.pliron_laws.specs.Answers.{HeadPasses, ReadsPlace}
use Rattle.pliron_theory.specs.Keeps.{IsFit, KeepsRuns, with_roots}
use Rattle.pliron_theory.specs.Sweeping.{IsSwept, AreNotLive, AreAway, ArePut, GivesNow, DeadGive}
use Rattle.pliron_theory.specs.Splicing.{IsSpliced, JumpsNow}
use Rattle.pliron_theory.specs.Rebranching.{IsRebranched, ActsInPlace, FitsInPlace}
use Rattle.pliron_theory.specs.Dropping.{IsArgumentDropped, LeadsWithout, HoldsWithout, AreEdgesTo, EdgesLose}
use Rattle.pliron_theory.specs.Renaming.{IsRenamed, MayUse, RunReaches, HaveSameData, HasSameDatum, GivesConstant, IsReadAs}

-- keeping runs is reflexive and transitive, and doesn't depend on erased handles
pub record KeepingLaws : Type 0 where
  pub reflexive : (m : Meaning) (t : Tree) → KeepsRuns m t t
  pub transitive : (m : Meaning) (t u v : Tree) → KeepsRuns m t u → KeepsRuns m u v → KeepsRuns m t v
  pub same : (m : Meaning) (t u : Tree) → IsTree t → IsTree u → IsSameTree t u → length t.operations ≤ length u.operations → KeepsRuns m t u

-- what keeps the runs of roots keeps those of roots with fewer heads
abbrev pub FewerRootsLaw : Type 0
FewerRootsLaw = (m : Meaning) (fewer : Head → Bool) (t u : Tree) → ((h : Head) → IsTrue (fewer h) → IsTrue (m.may_be_root h)) → KeepsRuns m t u → KeepsRuns (with_roots m fewer) t u

-- in a root that is fit to run, each operand has a datum when an operation first reads it
abbrev pub OperandsHaveData : Type 0
OperandsHaveData = (m : Meaning) (t : Tree) (root : ℕ) → IsTree t → IsFit m t root → (s : State) → RunReaches m t root s → (k v : ℕ) (rest : List ℕ) → s.rest ≡ k ∷ rest → s.answer ≡ None → In v (operands_of t k) → (d : Datum) × (s.environment v ≡ Some d)

-- operations that give at once, and blocks that no run comes to, may be erased where nothing names them
pub record SweepingLaws : Type 0 where
  pub swept : (m : Meaning) (t t' : Tree) (dead dead_block : ℕ → Bool) → IsTree t → IsTree t' → IsSwept t t' dead dead_block → AreNotLive t' dead dead_block → length t.operations ≤ length t'.operations → ((root : ℕ) → IsFit m t root → DeadGive m t dead dead_block root) → KeepsRuns m t t'
  -- an operation without side effects is erased with its contents
  pub erased : (m : Meaning) (side_effects : Head → Option Bool) (t : Tree) (op : ℕ) → KeepsCounts m → GivesAtOnce m side_effects → IsTree t → IsTree (after_erasing t op) → IsLive t op → IsSelfContained t op → ((h : Head) → head_of t op ≡ Some h → side_effects h ≡ Some false) → KeepsRuns m t (after_erasing t op)

-- operations that use nothing and give at once may be made and put into blocks, as constants before an
-- operation or first in a block
pub record MakingLaws : Type 0 where
  pub put : (m : Meaning) (t t' : Tree) (new : ℕ → Bool) → IsTree t → IsTree t' → IsSwept t' t new (λ b. false) → AreAway t new (λ b. false) → ArePut m t' t new → length t.operations ≤ length t'.operations → ((k : ℕ) → new k ≡ true → length t.operations ≤ k) → ((k : ℕ) → new k ≡ true → GivesNow m t' k) → KeepsRuns m t t'
  pub before : (m : Meaning) (t : Tree) (head : Head) (attr : AttrObj) (at block : ℕ) → IsTree t → MakesConstant m attr head → m.is_branch head ≡ false → parent_of t at ≡ Some block → IsTree (put_next_to (after_creating t head 1 0) (length t.operations) at (Some block)) → KeepsRuns m t (put_next_to (after_creating t head 1 0) (length t.operations) at (Some block))
  pub first : (m : Meaning) (t : Tree) (head : Head) (attr : AttrObj) (block : ℕ) → IsTree t → MakesConstant m attr head → m.is_branch head ≡ false → IsBlock t block → IsTree (put_first (after_creating t head 1 0) (length t.operations) block) → KeepsRuns m t (put_first (after_creating t head 1 0) (length t.operations) block)

-- operands may be renamed to values of the same data that the users may name
pub record RenamingLaws : Type 0 where
  pub renamed : (m : Meaning) (t t' : Tree) (rename : ℕ → ℕ) → IsRenamed t t' rename → length t.operations ≡ length t'.operations → ((root : ℕ) → IsFit m t root → (user v : ℕ) → In v (operands_of t user) → MayUse t root user (rename v)) → ((root : ℕ) → IsFit m t root → IsFit m t' root → HaveSameData m t t' rename root) → KeepsRuns m t t'
  -- as a value that is read as a constant, to the result of a constant
  pub constant : (m : Meaning) (t : Tree) (old new n : ℕ) (c : Datum) → IsTree t → IsTree (after_replacing t old new) → GivesConstant m (after_replacing t old new) n new c → ((root : ℕ) → IsFit m t root → (user : ℕ) → In old (operands_of t user) → MayUse t root user new) → ((root : ℕ) → IsFit m t root → IsReadAs m t old c root) → KeepsRuns m t (after_replacing t old new)
  -- as one value to another
  pub replaced : (m : Meaning) (t : Tree) (old new : ℕ) → ((root : ℕ) → IsFit m t root → (user : ℕ) → In old (operands_of t user) → MayUse t root user new) → ((root : ℕ) → IsFit m t root → IsFit m (after_replacing t old new) root → HasSameDatum m t (after_replacing t old new) old new root) → KeepsRuns m t (after_replacing t old new)

-- a block may be merged into the end of its only predecessor, whose last operation jumps there at once
abbrev pub SplicingLaw : Type 0
SplicingLaw = (m : Meaning) (t t' : Tree) (a b jump : ℕ) (front : List ℕ) → IsTree t → IsTree t' → IsSpliced t t' a b jump front → length t.operations ≤ length t'.operations → ((root : ℕ) → IsFit m t root → IsInside t root jump → JumpsNow m t jump b) → KeepsRuns m t t'

-- a branch with one edge inside a root that is fit to run jumps there at once
abbrev pub OneEdgeLaw : Meaning → Type 0
OneEdgeLaw m = (t : Tree) (root jump b : ℕ) → IsFit m t root → IsInside t root jump → HeadPasses m.is_branch t jump → successors_of t jump ≡ b ∷ [] → JumpsNow m t jump b

-- a branch may be replaced by another one that acts alike on what a run reads there
abbrev pub RebranchingLaw : Type 0
RebranchingLaw = (m : Meaning) (t t' : Tree) (a op new : ℕ) (front : List ℕ) → IsTree t → IsTree t' → IsRebranched t t' a op new front → length t.operations ≤ length t'.operations → length t.operations ≤ new → ((root : ℕ) → IsFit m t root → IsInside t root op → FitsInPlace m t' new) → ((root : ℕ) → IsFit m t root → ActsInPlace m t t' root op new) → KeepsRuns m t t'

-- an argument of a block may be removed, with the operands that were forwarded to it, where what leads to the
-- block and what holds it as an entry act alike without them
abbrev pub DroppingLaw : Type 0
DroppingLaw = (m : Meaning) (t t' : Tree) (block index v : ℕ) (kept : ℕ → List ℕ) → IsTree t → IsTree t' → IsArgumentDropped t t' block index v kept → length t.operations ≤ length t'.operations → ((root : ℕ) → IsFit m t root → (k : ℕ) → IsInside t root k → In block (successors_of t k) → LeadsWithout m t t' block index (kept k) k) → ((root : ℕ) → IsFit m t root → (k r : ℕ) → IsWithin t root k → In r (regions_of t k) → first_of (layout_of t r) None ≡ Some block → HoldsWithout m t t' block index k) → KeepsRuns m t t'

-- an argument of a block may be removed after each edge to the block lost the operand that it forwarded to it,
-- where branches alone lead to the block, the parent operation of the block answers that its arguments may be
-- removed, and nothing else uses this one
abbrev pub RemovingLaw : Meaning → (Shape → ℕ → ℕ → Head) → (Head → ℕ → Bool → Option Bool) → Type 0
RemovingLaw m shortened removable = (t u : Tree) (block index v : ℕ) (edges : List Use) → IsTree t → IsTree (argument_removed u block index) → slice_get (arguments_of t block) index ≡ Some v → AreEdgesTo t block edges → ((k : ℕ) → In block (successors_of t k) → HeadPasses m.is_branch t k) → ((k : ℕ) → block_parent_operation_of t block ≡ Some k → ReadsPlace removable t k block (Some true)) → EdgesLose m shortened index edges t u → ((k : ℕ) → In v (operands_of u k) → ⊥) → KeepsRuns m t (argument_removed u block index)
