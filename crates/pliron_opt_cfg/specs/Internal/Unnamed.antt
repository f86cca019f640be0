-- Blocks of which nothing names a value or a block.
use Rattle.std.specs.Prelude.{ℕ}
use Rattle.pliron_core.specs.Tree.{Tree, In, operands_of, successors_of, definition_of}
use Rattle.pliron_core.specs.Erased.{IsBlockWithin, IsDefinedInBlock}

pub record IsUnnamedBlock (t : Tree) (b : ℕ) : Type 0 where
  pub values : (x v : ℕ) → In v (operands_of t x) → IsDefinedInBlock t b (definition_of t v) → ⊥
  pub blocks : (x c : ℕ) → In c (successors_of t x) → IsBlockWithin t b c → ⊥
