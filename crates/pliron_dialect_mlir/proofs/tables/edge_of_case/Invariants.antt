use Rattle.pliron_dialect_mlir.proofs.AttributeLemmas.{GoesOn}
use Rattle.pliron_dialect_mlir.proofs.tables.edge_of_case.Given as goal

abbrev pub invariant-loop-i : goal.invariant-loop-i
invariant-loop-i l = GoesOn l.attrs l.first l.i l.bits
