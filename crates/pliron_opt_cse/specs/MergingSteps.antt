-- One operation after the other.
use Rattle.std.specs.Prelude.{◌≡◌, ◌⊎◌, ◌↔◌, ◌<◌, ◌≤◌, ◌+◌, ℕ, Bool, true, false, List, [], Option, Some, length, get_or}
use Rattle.pliron_core.specs.declared.attrs.IRStatus.{IRStatus}
use Rattle.pliron_core.specs.declared.attrs.IRStatus.TheVariants.{Changed, Unchanged}
use Rattle.pliron_core.specs.Lists.{IsDistinct}
use Rattle.pliron_core.specs.Tree.{Tree, In, IsLive, operands_of, successors_of, regions_of}
use Rattle.pliron_laws.specs.Datum.{Head, Meaning}
use Rattle.pliron_laws.specs.Linked.{IsWellLinked}
use Rattle.pliron_theory.specs.Change.{IsWholeChange}
use Rattle.pliron_theory.specs.Edges.{KeepsEdges}
use Rattle.pliron_theory.specs.Rewrites.{HasNoSideEffects}
use Rattle.pliron_rewrite_equals.specs.OperationDominance.{DominatesOperation}
use Rattle.pliron_rewrite_equals.specs.Redundancy.{AreAlike}
use Rattle.pliron_rewrite_equals.specs.Merging.{after_merging, AreHandedOver}
use Rattle.pliron_graph_order.specs.Seen.{IsSeen}
use Rattle.pliron_opt_cse.specs.Keys.{key_words}
use Rattle.pliron_opt_cse.specs.Left.{UsesAreBehind, HasRedundancy}
use Rattle.pliron_opt_cse.specs.Merges.{Pair, MergeInTurn}
use Rattle.pliron_laws.specs.EdgeChecks.{region_around}

-- the operation has no regions, successors or side effects
pub record IsEliminable (side_effects : Head → Option Bool) (t : Tree) (k : ℕ) : Type 0 where
  pub regions : regions_of t k ≡ []
  pub successors : successors_of t k ≡ []
  pub harmless : HasNoSideEffects side_effects t k

-- b does what a does; without operands they are in one region
pub record MayMerge (side_effects : Head → Option Bool) (t : Tree) (a b : ℕ) : Type 0 where
  pub alike : AreAlike side_effects t a b
  pub near : operands_of t b ≡ [] → region_around t a ≡ region_around t b

-- the operation at the first place is a leader of the one at the second
pub record LeadsAt (side_effects : Head → Option Bool) (t : Tree) (ops ends : List ℕ) (i place : ℕ) : Type 0 where
  pub first : i < place
  pub within : place < get_or ends i 0
  pub live : IsLive t (get_or ops i 0)
  pub alike : MayMerge side_effects t (get_or ops i 0) (get_or ops place 0)

-- each operation before the place that may lead one from there on is found by its key
abbrev pub FindLeaders : (Head → Option Bool) → Tree → (ops ends : List ℕ) → ℕ → (List ℕ → Option ℕ) → Type 0
FindLeaders side_effects t ops ends place find = (i : ℕ) → i < place → i < length ops → IsLive t (get_or ops i 0) → IsEliminable side_effects t (get_or ops i 0) → (find (key_words t (get_or ops i 0)) ≡ Some i) ⊎ (get_or ends i 0 ≤ place)

-- where leaders are found, one that stays is not redundant, and leaders are found from the next place on
pub record StaysAlone (side_effects : Head → Option Bool) (t : Tree) (ops ends : List ℕ) (place : ℕ) (find find' : List ℕ → Option ℕ) : Type 0 where
  pub found : FindLeaders side_effects t ops ends place find → FindLeaders side_effects t ops ends (place + 1) find'
  pub none : FindLeaders side_effects t ops ends place find → (i : ℕ) → LeadsAt side_effects t ops ends i place → ⊥

-- where one is erased, the leaders stay
abbrev pub LeadsOn : (Head → Option Bool) → Tree → (ops ends : List ℕ) → ℕ → (find find' : List ℕ → Option ℕ) → Bool → Type 0
LeadsOn side_effects t ops ends place find find' true = (key : List ℕ) → find' key ≡ find key
LeadsOn side_effects t ops ends place find find' false = StaysAlone side_effects t ops ends place find find'

-- no operation before the place is redundant
abbrev pub AreNotRedundant : (Head → Option Bool) → Tree → (ops ends : List ℕ) → ℕ → Type 0
AreNotRedundant side_effects t ops ends place = (i j : ℕ) → j < place → j < length ops → IsLive t (get_or ops j 0) → LeadsAt side_effects t ops ends i j → ⊥

-- of the operations in dominance order those that are live are seen, and all from this place on are live
pub record AreOrderedOperations (t : Tree) (root : ℕ) (ops ends : List ℕ) (place : ℕ) : Type 0 where
  pub counted : length ends ≡ length ops
  pub distinct : IsDistinct ops
  pub each : (k : ℕ) → IsSeen t root k → In k ops
  pub seen : (k : ℕ) → In k ops → IsLive t k → IsSeen t root k
  pub all_in_place : (i j : ℕ) → i < length ops → j < length ops → IsLive t (get_or ops i 0) → IsLive t (get_or ops j 0) → ((i < j) × (j < get_or ends i 0)) ↔ DominatesOperation t (get_or ops i 0) (get_or ops j 0)
  pub left : (j : ℕ) → place ≤ j → j < length ops → IsLive t (get_or ops j 0)

-- the operation at the place was erased as redundant, or nothing changed
abbrev pub MergesOrStays : (Head → Option Bool) → (t t' : Tree) → (ops ends : List ℕ) → ℕ → Bool → Type 0
MergesOrStays side_effects t t' ops ends place true = (i : ℕ) × LeadsAt side_effects t ops ends i place × (t' ≡ after_merging t (get_or ops i 0) (get_or ops place 0))
MergesOrStays side_effects t t' ops ends place false = t' ≡ t

-- nothing changed, or of its several results the uses of the first ones became uses of those of a leader
abbrev pub MergesInPart : (Head → Option Bool) → (t t' : Tree) → (ops ends : List ℕ) → ℕ → Type 0
MergesInPart side_effects t t' ops ends place = (t' ≡ t) ⊎ ((i : ℕ) × LeadsAt side_effects t ops ends i place × AreHandedOver t t' (get_or ops i 0) (get_or ops place 0))

-- what holds all the way from the tree t0
pub record IsMergingOnWay (m : Meaning) (t0 t : Tree) (root : ℕ) : Type 0 where
  pub change : IsWholeChange m t0 t root
  pub links : (r : ℕ) → IsWellLinked m t0 r → IsWellLinked m t r
  pub edges : KeepsEdges t0 t
  pub fewer : (k : ℕ) → IsLive t k → IsLive t0 k

-- `Changed` reports that something was erased
abbrev pub ReportsMerging : (t0 t : Tree) → IRStatus → Type 0
ReportsMerging t0 t Changed = (b : ℕ) × IsLive t0 b × (IsLive t b → ⊥)
ReportsMerging t0 t Unchanged = t ≡ t0

-- where uses were behind, or nothing changed yet, leaders are found and no redundant operation is left before the place
pub record IsExact (side_effects : Head → Option Bool) (t0 t : Tree) (root : ℕ) (ops ends : List ℕ) (place : ℕ) (find : List ℕ → Option ℕ) (status : IRStatus) : Type 0 where
  pub behind : UsesAreBehind t0 root → UsesAreBehind t root
  pub found : UsesAreBehind t0 root ⊎ (t ≡ t0) → FindLeaders side_effects t ops ends place find
  pub none : UsesAreBehind t0 root ⊎ (t ≡ t0) → AreNotRedundant side_effects t ops ends place
  pub had : status ≡ Changed → HasRedundancy side_effects t0 root

-- what holds when the operations before the place were visited
pub record IsMergedUpTo (m : Meaning) (side_effects : Head → Option Bool) (t0 t : Tree) (root : ℕ) (ops ends : List ℕ) (place : ℕ) (find : List ℕ → Option ℕ) (status : IRStatus) : Type 0 where
  pub way : IsMergingOnWay m t0 t root
  pub merged : (xs : List Pair) × MergeInTurn side_effects root xs t0 t
  pub accurate : ReportsMerging t0 t status
  pub ordered : AreOrderedOperations t root ops ends place
  pub exact : IsExact side_effects t0 t root ops ends place find status

-- `Changed` if one was erased, else as before
abbrev pub status_after : IRStatus → Bool → IRStatus
status_after status true = Changed
status_after status false = status
