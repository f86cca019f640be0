use Rattle.std.proofs.Common.{[]}
use Rattle.pliron_opt_cfg.proofs.ListLemmas.{item_in}
use Rattle.pliron_laws.proofs.MappedLists.{mapped_more}
use Rattle.pliron_opt_cfg.specs.Internal.Contents.{contents_of}
use Rattle.pliron_opt_cfg.proofs.removal.contents.operations_in.Goals as goal

pub push_block_contents-requires : goal.push_block_contents-requires
push_block_contents-requires c = c.requires c.block-item.result (item_in c.args.blocks.now c.loop-block.block-index c.block-item.result c.loop-block-test.true c.block-item.is)

pub loop-block-preserved : goal.loop-block-preserved
loop-block-preserved c =
    mapped_more (λ b. contents_of c.args.ctx.now.tree b) c.args.blocks.now c.loop-block.block-index c.block-item.result [] c.loop-block.ops.items c.push_block_contents.new.ops.items c.loop-block-test.true c.block-item.is c.loop-block.invariant c.in_ok-push_block_contents.ensures.items
