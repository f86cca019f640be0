-- The graph of the blocks of a region.
use Rattle.std.specs.Prelude.{◌≡◌, ℕ, Some, None}
use Rattle.pliron_core.specs.Tree.{Tree, IsRegion, layout_of, first_of, region_parent_of}
use Rattle.pliron_core.specs.Invariant.{IsTree}
use Rattle.pliron_core.specs.Edges.{succs_of, preds_of}
use Rattle.pliron_laws.specs.Linked.{EdgesLast}
use Rattle.pliron_graph_traversal.specs.Digraph.{Digraph}

-- the blocks in the region's order, the first as entry, with the successors and predecessors that the
-- tree gives them
abbrev pub graph_of_region : Tree → ℕ → Digraph ℕ
graph_of_region t region = record {
  nodes = layout_of t region;
  entry = first_of (layout_of t region) None;
  succ = λ b. succs_of t b;
  pred = λ b. preds_of t b;
}

-- the region is live, and edges are last in the blocks inside its parent operation
pub record IsLawfulRegion (t : Tree) (region : ℕ) : Type 0 where
  pub tree : IsTree t
  pub liveness : IsRegion t region
  pub holder : ℕ
  pub held : region_parent_of t region ≡ Some holder
  pub edges : EdgesLast t holder
