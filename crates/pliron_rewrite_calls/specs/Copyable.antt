-- Which blocks may be copied.
use Rattle.std.specs.Prelude.{ℕ, List}
use Rattle.pliron_core.specs.Tree.{Tree, In, IsBlock, IsDistinct}
use Rattle.pliron_rewrite_calls.specs.Copying.{AreChildless}

-- the blocks are live and apart, and no operation in them has regions
pub record AreCopyable (t : Tree) (blocks : List ℕ) : Type 0 where
  pub live : (b : ℕ) → In b blocks → IsBlock t b
  pub apart : IsDistinct blocks
  pub childless : AreChildless t blocks
