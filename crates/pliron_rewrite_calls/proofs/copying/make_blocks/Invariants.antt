use Rattle.std.proofs.Common.{[], take}
use Rattle.pliron_rewrite_calls.specs.CopySteps.{IsCopying}
use Rattle.pliron_rewrite_calls.proofs.copying.make_blocks.Given as goal

abbrev pub ghost-make_block : goal.ghost-make_block
ghost-make_block g a = g.x

abbrev pub invariant-loop-i : goal.invariant-loop-i
invariant-loop-i g l = IsCopying g.x l.ctx.tree (take l.i l.blocks) [] l.copies
