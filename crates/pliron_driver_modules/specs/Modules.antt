-- What is read of modules.
use Rattle.std.specs.Prelude.{ℕ, List}
use Rattle.pliron_core.specs.Tree.{Tree}
use Rattle.pliron_laws.specs.Datum.{Meaning}
use Rattle.pliron_laws.specs.Linked.{IsWellLinked}

-- the tree is well linked at the operation; which one the text says is open
abbrev pub ReadsModule : Meaning → List ℕ → Tree → ℕ → Type 0
ReadsModule m text tree root = IsWellLinked m tree root
