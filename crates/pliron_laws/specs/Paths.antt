-- Paths through the blocks of a region.
pub use Rattle.pliron_core.specs.Tree.{In}
use Rattle.std.specs.Prelude.{◌≡◌, ℕ, List, [], ◌∷◌}
use Rattle.pliron_core.specs.Tree.{Tree, block_parent_of}
use Rattle.pliron_core.specs.Edges.{succs_of}

-- the second block is a successor of the first one, in the same region
pub record Leads (t : Tree) (b c : ℕ) : Type 0 where
  pub successor : In c (succs_of t b)
  pub same_region : block_parent_of t c ≡ block_parent_of t b

-- a path from a to b, which passes the blocks `before` b, the latest first
abbrev pub Path : Tree → ℕ → ℕ → List ℕ → Type 0
Path t a b [] = a ≡ b
Path t a b (c ∷ before) = Leads t c b × Path t a c before
