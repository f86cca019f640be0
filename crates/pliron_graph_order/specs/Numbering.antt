-- Operations by number, each with the nearest one that dominates it, and the regions that are visited.
use Rattle.std.specs.Prelude.{◌≡◌, ◌⊎◌, ◌↔◌, ℕ, suc, ◌<◌, Bool, true, nat_eq, ◌&&◌, ◌++◌, List, [], ◌∷◌, Some, IsTrue, length, get_or}
use Rattle.pliron_core.specs.Reads.{has_ssa}
use Rattle.pliron_core.specs.Tree.{Tree, In, regions_of, parent_of, body_of, block_parent_of, region_parent_of}
use Rattle.pliron_graph_traversal.specs.Regions.{IsLawfulRegion}
use Rattle.pliron_graph_dominance.specs.Candidates.{IsOnWayUp}
use Rattle.pliron_graph_dominance.specs.ParentTables.{parent_by, AreParents}
use Rattle.pliron_rewrite_equals.specs.OperationDominance.{DominatesOperation}
use Rattle.pliron_graph_order.specs.declared.numbering.Numbering.{Numbering}
use Rattle.pliron_graph_order.specs.Seen.{IsOnPathIn, IsVisitedBlockFrom, IsVisitedFrom, IsSeen}
use Rattle.pliron_graph_order.specs.Behind.{IsBehind}

-- whether two handles are one
abbrev pub key_eq : ℕ → ℕ → Bool
key_eq x y = nat_eq x y && true

-- The operation at each place of the list has the number one greater; 0 is the root's. Each number has that of the
-- nearest operation that dominates its own, and each region the number of the nearest one that dominates the
-- operation that holds it.
pub record NumberTables : Type 0 where
  pub root : ℕ
  pub ops : List ℕ
  pub parents : List ℕ
  pub regions : List ℕ
  pub above : List ℕ

abbrev pub tables_of : Numbering → NumberTables
tables_of n = record { root = n.root; ops = n.operations.keys; parents = n.parents.items; regions = n.regions.keys; above = n.above.items }

-- the operation has the number, or one on the way up from it
abbrev pub IsAbove : NumberTables → (at x : ℕ) → Type 0
IsAbove n at x = (i : ℕ) × IsOnWayUp (parent_by n.parents) (suc i) at × (i < length n.ops) × (get_or n.ops i 0 ≡ x)

-- of the operations that are seen, those on the way up from the number are those of which P holds
abbrev pub GivesBefore : Tree → NumberTables → ℕ → (ℕ → Type 0) → Type 0
GivesBefore t n at P = (x : ℕ) → IsSeen t n.root x → IsAbove n at x ↔ P x

-- x dominates the operation that holds the region
abbrev pub IsBeforeHolder : Tree → (r x : ℕ) → Type 0
IsBeforeHolder t r x = (h : ℕ) × (region_parent_of t r ≡ Some h) × DominatesOperation t x h

-- the region is visited, and the number is that of the nearest operation that dominates what holds it
pub record IsWaiting (t : Tree) (n : NumberTables) (r at : ℕ) : Type 0 where
  pub visited : IsVisitedFrom t n.root r
  pub lawful : IsLawfulRegion t r
  pub low : at < length n.parents
  pub before : GivesBefore t n at (IsBeforeHolder t r)

pub record IsNumbering (t : Tree) (n : NumberTables) : Type 0 where
  pub counted : length n.parents ≡ suc (length n.ops)
  pub parents : AreParents n.parents
  pub before : (j : ℕ) → j < length n.ops → GivesBefore t n (parent_by n.parents (suc j)) (λ x. DominatesOperation t x (get_or n.ops j 0))
  pub seen : (k : ℕ) → In k n.ops → IsSeen t n.root k
  pub listed : length n.above ≡ length n.regions
  pub waits : (j : ℕ) → j < length n.regions → IsWaiting t n (get_or n.regions j 0) (get_or n.above j 0)

-- operations and regions came behind those that were there
pub record NumbersGrow (old new : NumberTables) : Type 0 where
  pub root : new.root ≡ old.root
  pub ops : (xs : List ℕ) × (new.ops ≡ old.ops ++ xs)
  pub parents : (ps : List ℕ) × (new.parents ≡ old.parents ++ ps)
  pub regions : (rs : List ℕ) × (new.regions ≡ old.regions ++ rs)

-- nothing but the root has a number
abbrev pub IsStart : ℕ → NumberTables → Type 0
IsStart root n = n ≡ record { root = root; ops = []; parents = 0 ∷ []; regions = []; above = [] }

-- the operation has the number now; if it had none, this one is the next, and it is below that one
pub record AddsOperation (old new : NumberTables) (op above number : ℕ) : Type 0 where
  pub place : ℕ
  pub number_is : number ≡ suc place
  pub low : place < length new.ops
  pub stored : get_or new.ops place 0 ≡ op
  pub step : (new ≡ old) ⊎ ((In op old.ops → ⊥) × (new ≡ record old { ops = old.ops ++ op ∷ []; parents = old.parents ++ above ∷ [] }))

-- the region is visited now; if it was not, it has that number
abbrev pub AddsRegion : (old new : NumberTables) → (r above : ℕ) → Type 0
AddsRegion old new r above = In r new.regions × ((new ≡ old) ⊎ (new ≡ record old { regions = old.regions ++ r ∷ []; above = old.above ++ above ∷ [] }))

-- the block is reached, and the number is that of the nearest operation that dominates its start
pub record IsEntered (t : Tree) (n : NumberTables) (r c at : ℕ) : Type 0 where
  pub visited : IsVisitedFrom t n.root r
  pub lawful : IsLawfulRegion t r
  pub dominance : IsTrue (has_ssa t r)
  pub reached : IsOnPathIn t r c
  pub low : at < length n.parents
  pub before : GivesBefore t n at (IsBehind t r c [])

-- the number is that of the nearest operation that dominates the place behind these in the block
pub record IsLeftAt (t : Tree) (n : NumberTables) (c : ℕ) (done : List ℕ) (at : ℕ) : Type 0 where
  pub low : at < length n.parents
  pub before : (r : ℕ) → block_parent_of t c ≡ Some r → GivesBefore t n at (IsBehind t r c done)

-- these operations have numbers, and their regions are visited
abbrev pub AreTaken : Tree → NumberTables → List ℕ → Type 0
AreTaken t n ks = (k : ℕ) → In k ks → In k n.ops × ((q : ℕ) → In q (regions_of t k) → In q n.regions)

-- what is visited in the region has numbers, and the regions of its operations are visited
pub record IsDone (t : Tree) (n : NumberTables) (r : ℕ) : Type 0 where
  pub nested : (b k q : ℕ) → IsVisitedBlockFrom t r b → parent_of t k ≡ Some b → In q (regions_of t k) → In q n.regions
  pub seen : IsTrue (has_ssa t r) → (b k : ℕ) → IsOnPathIn t r b → parent_of t k ≡ Some b → In k n.ops
