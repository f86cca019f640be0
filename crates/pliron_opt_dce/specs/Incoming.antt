-- The edges to a block, in the order of how much they forward.
use Rattle.std.specs.Prelude.{◌≡◌, ◌-◌, ◌<◌, ◌≤◌, ◌^◌, ℕ, Bool, true, nat_eq, ◌&&◌, List, map, length, Option, Some, None, slice_get}
use Rattle.std.specs.List.Sorted.{IsNonDecreasingBy}
use Rattle.std.specs.Option.{option_map}
use Rattle.indexmap.specs.IndexMap.{get}
use Rattle.pliron_core.specs.declared.uses.Use.{Use as Edge}
use Rattle.pliron_core.specs.Tree.{Tree, In, HoldsBlock, successors_of}
use Rattle.pliron_laws.specs.Datum.{Meaning}
use Rattle.pliron_laws.specs.Tree.{Operation, op_at, shape_of, is_one_key}
use Rattle.pliron_laws.specs.Answers.{HeadPasses, IsForwardedAt}
use Rattle.pliron_theory.specs.Dropping.{AreEdgesTo}
use Rattle.pliron_opt_dce.specs.declared.incoming.IncomingEdge.{IncomingEdge}
use Rattle.pliron_opt_dce.specs.declared.incoming.Incoming.{Incoming}

abbrev pub edge_of_incoming : IncomingEdge → Edge
edge_of_incoming e = record { user = e.branch; place = e.place }

abbrev pub edges_of : List IncomingEdge → List Edge
edges_of es = map edge_of_incoming es

abbrev pub count_along : Meaning → Tree → ℕ → Option Operation → ℕ
count_along m t place None = 0
count_along m t place (Some o) = length (m.forwarded (shape_of m t o) place)

-- how many operands the operation forwards along the edge
abbrev pub width : Meaning → Tree → Edge → ℕ
width m t e = count_along m t e.place (op_at t e.user)

-- each operation that leads to the block is a branch
abbrev pub BranchesLead : Meaning → Tree → ℕ → Type 0
BranchesLead m t block = (k : ℕ) → In block (successors_of t k) → HeadPasses m.is_branch t k

-- these are the edges to the block, branches alone have such, and none of them forwards more than one before it
pub record AreIncoming (m : Meaning) (t : Tree) (block : ℕ) (edges : List Edge) : Type 0 where
  pub complete : AreEdgesTo t block edges
  pub branches : BranchesLead m t block
  pub falling : (i j : ℕ) (e f : Edge) → i < j → slice_get edges i ≡ Some e → slice_get edges j ≡ Some f → width m t f ≤ width m t e

-- the list of the block, if there is one
abbrev pub incoming_of : Incoming → ℕ → Option (List IncomingEdge)
incoming_of lists block = option_map (λ v. v.items) (get is_one_key lists.lists block)

-- each list is so, of a block that is inside the root
abbrev pub AreKnown : Meaning → Tree → ℕ → (ℕ → Option (List IncomingEdge)) → Type 0
AreKnown m t root find = (block : ℕ) (edges : List IncomingEdge) → find block ≡ Some edges → HoldsBlock t root block → AreIncoming m t block (edges_of edges)

-- these edges are as counted
abbrev pub AreCounted : Meaning → Tree → List IncomingEdge → Type 0
AreCounted m t edges = (i : ℕ) (e : IncomingEdge) → slice_get edges i ≡ Some e → (width m t (edge_of_incoming e) ≡ e.count) × (e.count < 2 ^ 64)

-- those that forwarded most come first
abbrev pub AreFalling : List IncomingEdge → Type 0
AreFalling edges = IsNonDecreasingBy (λ e. 2 ^ 64 - 1 - e.count) edges

-- these are the operands that the first edges forward at this place; the others have no such place
pub record AreForwardedTo (m : Meaning) (t : Tree) (index : ℕ) (edges : List Edge) (used : List ℕ) : Type 0 where
  pub within : length used ≤ length edges
  pub first : (i v : ℕ) (e : Edge) → slice_get used i ≡ Some v → slice_get edges i ≡ Some e → IsForwardedAt m t e.user e.place index (Some v)
  pub none : (i : ℕ) (e : Edge) → length used ≤ i → slice_get edges i ≡ Some e → width m t e ≤ index

-- the first edges have this place, and the others do not
pub record HavePlaces (m : Meaning) (t : Tree) (index : ℕ) (edges : List Edge) (count : ℕ) : Type 0 where
  pub first : (i : ℕ) (e : Edge) → i < count → slice_get edges i ≡ Some e → index < width m t e
  pub none : (i : ℕ) (e : Edge) → count ≤ i → slice_get edges i ≡ Some e → width m t e ≤ index
