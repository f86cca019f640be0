use Rattle.std.proofs.Common.{◌≡◌, take}
use Rattle.pliron_dialect_mlir.specs.Heads.{attributes}
use Rattle.pliron_dialect_mlir.proofs.heads.head_with.Given as goal

abbrev pub invariant-loop-number : goal.invariant-loop-number
invariant-loop-number l = l.attrs.items ≡ attributes (take l.number-index l.numbers)
