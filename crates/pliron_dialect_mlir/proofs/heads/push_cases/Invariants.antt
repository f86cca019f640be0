use Rattle.std.proofs.Common.{◌≡◌, ◌++◌, take}
use Rattle.pliron_dialect_mlir.specs.Heads.{attributes, naturals}
use Rattle.pliron_dialect_mlir.proofs.heads.push_cases.Given as goal

abbrev pub invariant-loop-case : goal.invariant-loop-case
invariant-loop-case l = l.attrs.items ≡ l.initial.attrs.items ++ attributes (naturals (take l.case-index l.cases))
