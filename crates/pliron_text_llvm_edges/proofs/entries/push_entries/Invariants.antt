-- The entries so far, and behind them those of the holes that are left.
use Rattle.std.proofs.Common.{◌-◌}
use Rattle.pliron_text_llvm_edges.proofs.EntryLemmas.{GoOn}
use Rattle.pliron_text_llvm_edges.proofs.entries.push_entries.Given as goal

abbrev pub invariant-loop-entries : goal.invariant-loop-entries
invariant-loop-entries l = GoOn l.reading l.line.first_hole l.number l.line.end_hole l.entries.items

abbrev pub decreases-loop-entries : goal.decreases-loop-entries
decreases-loop-entries l = l.line.end_hole - l.number
