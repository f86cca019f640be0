-- What notations read.
use Rattle.std.specs.Prelude.{ℕ, List, ⊤}
use Rattle.pliron_core.specs.Tree.{Tree}
use Rattle.pliron_core.specs.Writes.{no_tree}
use Rattle.pliron_laws.specs.Datum.{Meaning}
use Rattle.pliron_laws.specs.Linked.{IsWellLinked}
use Rattle.pliron_dialect_bench.specs.BenchMoves.{bench}
use Rattle.pliron_text.specs.Building.{IsGrown}

-- the tree is one new operation with what is inside it, and it is well linked; which one the text says is open
abbrev pub ReadsBench : List ℕ → Tree → ℕ → Type 0
ReadsBench text tree root = IsGrown no_tree tree root × IsWellLinked bench tree root

-- how it is printed is open
abbrev pub PrintsBench : Tree → ℕ → List ℕ → Type 0
PrintsBench tree root text = ⊤

-- the same under the meaning of a dialect by roles
abbrev pub ReadsKinds : Meaning → List ℕ → Tree → ℕ → Type 0
ReadsKinds m text tree root = IsGrown no_tree tree root × IsWellLinked m tree root

-- how it is printed is open
abbrev pub PrintsKinds : Tree → ℕ → List ℕ → Type 0
PrintsKinds tree root text = ⊤
