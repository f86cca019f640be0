-- The edges between the blocks of a region.
use Rattle.std.specs.Prelude.{ℕ, Bool, nat_eq, List, [], Option, Some, None, filter}
use Rattle.std.specs.List.{list_any}
use Rattle.pliron_core.specs.Lists.{last_of}
use Rattle.pliron_core.specs.Tree.{Tree, successors_of, body_of, block_parent_of, layout_of}

-- the successors of a block: those of its last operation
abbrev pub succs_from : Tree → Option ℕ → List ℕ
succs_from t None = []
succs_from t (Some op) = successors_of t op

abbrev pub succs_of : Tree → ℕ → List ℕ
succs_of t block = succs_from t (last_of None (body_of t block))

-- whether the block is a successor of a
abbrev pub leads_to : Tree → ℕ → ℕ → Bool
leads_to t block a = list_any (λ s. nat_eq s block) (succs_of t a)

-- the blocks of a region in order
abbrev pub blocks_in : Tree → Option ℕ → List ℕ
blocks_in t None = []
blocks_in t (Some region) = layout_of t region

-- the predecessors of a block: the blocks of its region whose last operation leads to it, in the region's order
abbrev pub preds_of : Tree → ℕ → List ℕ
preds_of t block = filter (λ a. leads_to t block a) (blocks_in t (block_parent_of t block))
