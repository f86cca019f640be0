use Rattle.std.proofs.Common.{◌≡◌, ◌++◌, take}
use Rattle.pliron_dialect_mlir.specs.Heads.{attributes, naturals}
use Rattle.pliron_dialect_mlir.proofs.heads.push_counts.Given as goal

abbrev pub invariant-loop-count : goal.invariant-loop-count
invariant-loop-count l = l.attrs.items ≡ l.initial.attrs.items ++ attributes (naturals (take l.count-index l.counts))
