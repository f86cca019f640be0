-- The blocks up to here.
use Rattle.std.proofs.Common.{◌≤◌, ◌-◌, length}
use Rattle.pliron_text_llvm_reader.specs.Blocks.{AreBlocks}
use Rattle.pliron_text_llvm_reader.proofs.blocks.split_blocks.Given as goal

abbrev pub invariant-loop-start : goal.invariant-loop-start
invariant-loop-start l = AreBlocks l.roles 0 l.start l.blocks.items × (l.start ≤ length l.roles)

abbrev pub decreases-loop-start : goal.decreases-loop-start
decreases-loop-start l = length l.roles - l.start
