-- What stages make of modules.
use Rattle.std.specs.Prelude.{ℕ, List}
use Rattle.pliron_core.specs.Tree.{Tree}
use Rattle.pliron_driver.specs.Answered.{Reads}

-- which trees a stage makes of a tree with a module at this operation
abbrev pub Makes : Type 1
Makes = Tree → Tree → (root : ℕ) → Type 0

-- a tree is read of the text, and the stage makes this one of it
pub record ReadsStaged (reads : Reads) (makes : Makes) (text : List ℕ) (tree : Tree) (root : ℕ) : Type 0 where
  pub written : Tree
  pub read : reads text written root
  pub made : makes written tree root
