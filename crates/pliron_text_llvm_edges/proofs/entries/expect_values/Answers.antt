use Rattle.std.proofs.Common.{arith}
use Rattle.pliron_text_llvm_edges.proofs.EntryLemmas.{values_all}
use Rattle.pliron_text_llvm_edges.proofs.entries.expect_values.Goals as goal

pub returns : goal.returns
returns c = values_all c.args.text.now c.args.reading.now c.args.entries.now c.loop-i.i (omega arith) c.requires c.loop-i.invariant
