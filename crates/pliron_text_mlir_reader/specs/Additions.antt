-- What reading a text adds to a tree.
use Rattle.std.specs.Prelude.{◌≡◌, ◌++◌, List, Some, All}
use Rattle.pliron_core.specs.declared.attrs.Head.{Head}
use Rattle.pliron_core.specs.declared.context.OperationEntry.{OperationEntry}
use Rattle.pliron_core.specs.Tree.{Tree}
use Rattle.pliron_text_mlir_reader.specs.TakenHeads.{IsTakenHead}

-- an operation with a head that some operation of a text is taken for
abbrev pub HasTakenHead : OperationEntry → Type 0
HasTakenHead entry = (head : Head) × (entry.head ≡ Some head) × ∥ IsTakenHead head ∥₁

-- the second tree has the operations of the first one, with the same heads, and behind them some that were taken from a
-- text
abbrev pub AddsTaken : Tree → Tree → Type 0
AddsTaken t u = (added : List OperationEntry) × (u.operations ≡ t.operations ++ added) × All HasTakenHead added
