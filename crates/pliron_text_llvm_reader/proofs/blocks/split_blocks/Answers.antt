use Rattle.std.proofs.Common.{◌+◌, refl}
use Rattle.pliron_text_llvm_reader.proofs.BlockLemmas.{block_added}
use Rattle.pliron_text_llvm_reader.proofs.blocks.split_blocks.Goals as goal

pub loop-start-preserved : goal.loop-start-preserved
loop-start-preserved c =
    block_added c.args.roles.now c.lines_from.result.now c.loop-start.start c.in-Ok.len (c.loop-start.start + c.in-Ok.len) c.loop-start.blocks.items c.push.new.self.items
    c.loop-start.invariant.0 c.loop-start.invariant.1 c.lines_from.ensures c.in-Ok.ensures.block refl c.in_ok-push.ensures.items
