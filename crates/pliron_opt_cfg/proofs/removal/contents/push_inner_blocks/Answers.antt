use Rattle.pliron_opt_cfg.proofs.ListLemmas.{item_in}
use Rattle.pliron_laws.proofs.MappedLists.{mapped_more}
use Rattle.pliron_opt_cfg.specs.Internal.Contents.{blocks_directly_in}
use Rattle.pliron_opt_cfg.proofs.removal.contents.push_inner_blocks.Goals as goal

pub push_layouts-requires : goal.push_layouts-requires
push_layouts-requires c = c.requires c.op-item.result (item_in c.args.ops.now c.loop-op.op-index c.op-item.result c.loop-op-test.true c.op-item.is)

pub loop-op-preserved : goal.loop-op-preserved
loop-op-preserved c =
    mapped_more (λ k. blocks_directly_in c.args.ctx.now.tree k) c.args.ops.now c.loop-op.op-index c.op-item.result c.args.blocks.now.items c.loop-op.blocks.items c.push_layouts.new.blocks.items c.loop-op-test.true c.op-item.is c.loop-op.invariant c.in_ok-push_layouts.ensures
