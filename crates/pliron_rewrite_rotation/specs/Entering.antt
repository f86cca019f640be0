-- Operations that lead to a header from elsewhere, and where they lead once the header was copied.
use Rattle.std.specs.Prelude.{◌≡◌, ◌≢◌, ℕ, nat_eq, if◌then◌else◌, [], Some, None}
use Rattle.pliron_core.specs.Tree.{Tree, In, last_of, IsBlock, successors_of, results_of, regions_of, parent_of, body_of, block_parent_of}
use Rattle.pliron_rewrite_copies.specs.ClosedBlock.{IsClosedBlock}
use Rattle.pliron_rewrite_calls.specs.Copying.{AreChildless}
use Rattle.std.specs.Prelude.{List, ◌∷◌}

-- the operation ends a block beside the header, and has neither results nor regions
pub record EndsBeside (t : Tree) (header k : ℕ) : Type 0 where
  pub block : ℕ
  pub in_block : parent_of t k ≡ Some block
  pub last : last_of None (body_of t block) ≡ Some k
  pub apart : block ≢ header
  pub beside : block_parent_of t block ≡ block_parent_of t header
  pub no_results : results_of t k ≡ []
  pub childless : regions_of t k ≡ []

-- the header may be copied for these operations: its values are used in it alone, no operation in it has regions, and none of
-- them leads to it
pub record MayCopyHeader (t : Tree) (header : ℕ) (entering : List ℕ) : Type 0 where
  pub stands : IsBlock t header
  pub closed : IsClosedBlock t header
  pub childless : AreChildless t (header ∷ [])
  pub no_ring : (k : ℕ) → In k (body_of t header) → In header (successors_of t k) → ⊥
  pub enter : (k : ℕ) → In k entering → EndsBeside t header k

-- where an edge to the block leads, once edges to the header lead to the copy
abbrev pub led_target : (header copy block : ℕ) → ℕ
led_target header copy block = if nat_eq block header then copy else block
