-- The blocks and edges inside an operation.
use Rattle.std.specs.Prelude.{◌≡◌, ◌≤◌, zero, suc, ℕ, Bool, true, false, List, [], ◌∷◌, length, filter, Some}
use Rattle.std.specs.List.{flat_map}
use Rattle.pliron_core.specs.Tree.{Tree, IsLive, regions_of, layout_of, body_of, parent_of, IsBlock}
use Rattle.pliron_core.specs.Writes.{after_creating, after_replacing, put_first}
use Rattle.pliron_laws.specs.Datum.{Head}
use Rattle.pliron_laws.specs.Outcomes.{after_materialising}
use Rattle.pliron_core.specs.Edges.{succs_of}
use Rattle.pliron_core.specs.Invariant.{IsTree}
use Rattle.pliron_core.specs.Changes.{IsSameTree}

-- the blocks of the regions of an operation, in order
abbrev pub blocks_directly_in : Tree → ℕ → List ℕ
blocks_directly_in t op = flat_map (λ r. layout_of t r) (regions_of t op)

-- the blocks in the regions of the operations, n levels deep, each with its successors and before the
-- blocks inside it
abbrev pub edges_to_depth : Tree → ℕ → ℕ → List (ℕ × List ℕ)
edges_to_depth t zero op = []
edges_to_depth t (suc n) op = flat_map (λ r. flat_map (λ b. (b, succs_of t b) ∷ flat_map (λ k. edges_to_depth t n k) (body_of t b)) (layout_of t r)) (regions_of t op)

-- all blocks inside the operation, in pre-order, each with its successors
abbrev pub edges_inside : Tree → ℕ → List (ℕ × List ℕ)
edges_inside t op = edges_to_depth t (suc (length t.operations)) op

-- the blocks and edges inside each operation that is still live are as before
abbrev pub KeepsEdges : Tree → Tree → Type 0
KeepsEdges t u = (op : ℕ) → IsLive t op → IsLive u op → edges_inside u op ≡ edges_inside t op

-- whether a list has an entry
abbrev pub has_entries : List ℕ → Bool
has_entries [] = false
has_entries (x ∷ xs) = true

-- whether the operation has regions
abbrev pub has_regions : Tree → ℕ → Bool
has_regions t op = has_entries (regions_of t op)

-- regions, their blocks and the successors of blocks are as before, and each block has the same operations with
-- regions; others may be created, inserted, moved and erased
pub record EdgesAlike (t u : Tree) : Type 0 where
  pub grows : length t.operations ≤ length u.operations
  pub regions : (op : ℕ) → regions_of u op ≡ regions_of t op
  pub layouts : (r : ℕ) → layout_of u r ≡ layout_of t r
  pub successors : (b : ℕ) → succs_of u b ≡ succs_of t b
  pub bodies : (b : ℕ) → filter (λ k. has_regions t k) (body_of u b) ≡ filter (λ k. has_regions t k) (body_of t b)

-- edges don't depend on erased handles; and where operations that are live before and after are live between,
-- two changes that keep edges keep them together
pub record EdgeLaws : Type 0 where
  pub same : (t u : Tree) (op : ℕ) → IsTree t → IsTree u → IsSameTree t u → edges_inside u op ≡ edges_inside t op
  pub kept : (t u : Tree) → IsTree t → IsTree u → IsSameTree t u → KeepsEdges t u
  pub alike : (t u : Tree) → IsTree t → IsTree u → EdgesAlike t u → KeepsEdges t u
  -- a constant that is put before an operation, and has the uses of a value
  pub put : (t : Tree) (op v b : ℕ) (head : Head) → IsTree t → parent_of t op ≡ Some b → EdgesAlike t (after_materialising t op v head)
  -- a constant that is put first in a block, and has the uses of a value
  pub first : (t : Tree) (v b : ℕ) (head : Head) → IsTree t → IsBlock t b → EdgesAlike t (after_replacing (put_first (after_creating t head 1 0) (length t.operations) b) v (length t.definitions))
  pub transitive : (t u v : Tree) → ((op : ℕ) → IsLive t op → IsLive v op → IsLive u op) → KeepsEdges t u → KeepsEdges u v → KeepsEdges t v
