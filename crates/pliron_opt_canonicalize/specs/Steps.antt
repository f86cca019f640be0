-- One fold after the other.
use Rattle.std.specs.Prelude.{◌≡◌, ◌⊎◌, ◌↔◌, ◌<◌, ◌≤◌, ℕ, Bool, false, List, [], Option, Some, length, slice_get}
use Rattle.pliron_core.specs.declared.attrs.IRStatus.{IRStatus}
use Rattle.pliron_core.specs.declared.attrs.IRStatus.TheVariants.{Changed, Unchanged}
use Rattle.pliron_core.specs.Changes.{IsSameTree}
use Rattle.pliron_core.specs.Tree.{Tree, IsLive, arguments_of, operands_of, results_of}
use Rattle.pliron_core.specs.Writes.{after_replacing}
use Rattle.pliron_laws.specs.Datum.{Meaning}
use Rattle.pliron_laws.specs.Linked.{IsWellLinked}
use Rattle.pliron_laws.specs.declared.operand_folds.OpFoldResult.{OpFoldResult}
use Rattle.pliron_laws.specs.declared.operand_folds.OpFoldResult.TheVariants.{Operand}
use Rattle.pliron_graph_order.specs.Seen.{IsSeen}
use Rattle.pliron_theory.specs.Change.{IsWholeChange}
use Rattle.pliron_theory.specs.Edges.{KeepsEdges}
use Rattle.pliron_rewrite_operands.specs.Answers.{Folding}
use Rattle.pliron_rewrite_operands.specs.Answered.{HasAnswer, IsMade, after_folding}
use Rattle.pliron_opt_canonicalize.specs.Counts.{foldable_count}
use Rattle.pliron_opt_canonicalize.specs.Folds.{Fold, FoldsTo, FoldInTurn, AreFolded, HasFolds, IsFold, IsArgumentFold, IsSeenBlock}
use Rattle.pliron_opt_canonicalize.specs.Sites.{AreListed}
use Rattle.pliron_opt_canonicalize.specs.declared.sites.Site.{Site}

-- each of these answers for the result at i is one, of an operand that there is
pub record AreAnswers (x : Folding) (t : Tree) (k i : ℕ) (answers : List (Option OpFoldResult)) : Type 0 where
  pub each : (answer : OpFoldResult) → slice_get answers i ≡ Some (Some answer) → HasAnswer x t k i answer
  pub within : (p : ℕ) → slice_get answers i ≡ Some (Some (Operand p)) → p < length (operands_of t k)

-- the result at i folded by its answer, or there is no answer that can be put
abbrev pub PutsAnswer : Folding → (t t' : Tree) → (k i : ℕ) → List (Option OpFoldResult) → IRStatus → Type 0
PutsAnswer x t t' k i answers Changed = (answer : OpFoldResult) × (slice_get answers i ≡ Some (Some answer)) × IsMade x answer × ((v : ℕ) → slice_get (results_of t k) i ≡ Some v → t' ≡ after_folding x t k v answer)
PutsAnswer x t t' k i answers Unchanged = (t' ≡ t) × ((answer : OpFoldResult) → slice_get answers i ≡ Some (Some answer) → IsMade x answer → ⊥)

-- the result at i folded, or it doesn't fold
abbrev pub FoldsResult : Folding → (t t' : Tree) → (k i : ℕ) → IRStatus → Type 0
FoldsResult x t t' k i Changed = (answer : OpFoldResult) × (is : IsFold x t k i answer) × (t' ≡ after_folding x t k is.has.value answer)
FoldsResult x t t' k i Unchanged = (t' ≡ t) × ((answer : OpFoldResult) → IsFold x t k i answer → ⊥)

-- the argument at i folded, or it doesn't fold
abbrev pub FoldsArgument : Meaning → (t t' : Tree) → (block i : ℕ) → IRStatus → Type 0
FoldsArgument m t t' block i Changed = (v : ℕ) × (is : IsArgumentFold m t block i v) × (t' ≡ after_replacing t is.one.argument v)
FoldsArgument m t t' block i Unchanged = (t' ≡ t) × ((v : ℕ) → IsArgumentFold m t block i v → ⊥)

-- the tree is as before but for erased handles
pub record IsUndone (t t' : Tree) : Type 0 where
  pub same : IsSameTree t t'
  pub grows : length t.operations ≤ length t'.operations

-- what holds all the way from the tree t0
pub record IsFoldingOnWay (m : Meaning) (t0 t : Tree) (root : ℕ) : Type 0 where
  pub change : IsWholeChange m t0 t root
  pub links : (r : ℕ) → IsWellLinked m t0 r → IsWellLinked m t r
  pub edges : KeepsEdges t0 t
  pub stays : (k : ℕ) → IsLive t0 k → IsLive t k

-- what was seen is seen, and has its results and arguments; what is new uses nothing
pub record IsSeenStill (t0 t : Tree) (root : ℕ) : Type 0 where
  pub seen : (k : ℕ) → IsSeen t0 root k → IsSeen t root k
  pub before : (k : ℕ) → IsSeen t root k → IsSeen t0 root k ⊎ (operands_of t k ≡ [])
  pub blocks : (block : ℕ) → IsSeenBlock t root block ↔ IsSeenBlock t0 root block
  pub empty : (k : ℕ) → operands_of t0 k ≡ [] → operands_of t k ≡ []
  pub results : (k : ℕ) → IsLive t0 k → results_of t k ≡ results_of t0 k
  pub arguments : (block : ℕ) → arguments_of t block ≡ arguments_of t0 block

-- `Changed` reports that something folded, and that the count is less
abbrev pub CountsFolds : Folding → (t0 t : Tree) → ℕ → IRStatus → Type 0
CountsFolds x t0 t root Changed = (foldable_count t < foldable_count t0) × HasFolds x t0 root
CountsFolds x t0 t root Unchanged = t ≡ t0

-- the values that are done were folded, or none of them folds
pub record AreDone (x : Folding) (t0 t : Tree) (root : ℕ) (Done : Fold → Type 0) (status : IRStatus) : Type 0 where
  pub way : IsFoldingOnWay x.meaning t0 t root
  pub folded : (fs : List Fold) × FoldInTurn x root fs t0 t
  pub still : IsSeenStill t0 t root
  pub accurate : CountsFolds x t0 t root status
  pub none : status ≡ Unchanged → (f : Fold) (u : Tree) → Done f → FoldsTo x root f t0 u → ⊥

-- some were folded, until allocation failed
pub record AreDonePartly (x : Folding) (t0 t : Tree) (root : ℕ) : Type 0 where
  pub way : IsFoldingOnWay x.meaning t0 t root
  pub folded : (fs : List Fold) × AreFolded x root fs t0 t

-- what holds before each sweep over these sites: the tree came from t0 by folds, and if none is to follow then nothing folds
pub record IsFolding (x : Folding) (t0 t : Tree) (root : ℕ) (sites : List Site) (status : IRStatus) (folds_again : Bool) : Type 0 where
  pub done : AreDone x t0 t root (λ f. ⊥) status
  pub listed : AreListed t root sites
  pub over : folds_again ≡ false → HasFolds x t root → ⊥
