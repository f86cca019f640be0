-- Neighbours up to here agree.
use Rattle.pliron_text_llvm_edges.proofs.EntryLemmas.{NeighboursAgree}
use Rattle.pliron_text_llvm_edges.proofs.entries.expect_values.Given as goal

abbrev pub invariant-loop-i : goal.invariant-loop-i
invariant-loop-i l = NeighboursAgree l.text l.reading l.entries l.i
