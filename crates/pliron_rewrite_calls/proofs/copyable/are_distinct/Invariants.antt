use Rattle.pliron_rewrite_calls.proofs.CopyableLemmas.{AreSeen}
use Rattle.pliron_rewrite_calls.proofs.copyable.are_distinct.Given as goal

abbrev pub invariant-loop-block : goal.invariant-loop-block
invariant-loop-block l = AreSeen l.blocks l.block-index l.seen.keys
