use Rattle.std.proofs.Common.{refl, arith}
use Rattle.pliron_text_llvm_edges.proofs.EntryLemmas.{entries_more, entries_all}
use Rattle.pliron_text_llvm_edges.proofs.entries.push_entries.Goals as goal

pub loop-entries-preserved : goal.loop-entries-preserved
loop-entries-preserved c =
    entries_more c.args.reading.now c.args.line.now.first_hole c.loop-entries.number _ c.args.line.now.end_hole _ _ _ (omega arith) c.loop-entries.invariant c.in_ok-entry_at.ensures c.in_ok-push.ensures.items refl

pub returns : goal.returns
returns c = entries_all c.args.reading.now c.args.line.now c.loop-entries.number _ (omega arith) c.loop-entries.invariant
