use Rattle.std.proofs.Common.{take}
use Rattle.pliron_rewrite_blocks.specs.Leaving.{DropsAll}
use Rattle.pliron_opt_cfg.proofs.removal.erasing.drop_uses.Given as goal

abbrev pub invariant-loop-block : goal.invariant-loop-block
invariant-loop-block l = DropsAll (take l.block-index l.blocks) l.fn.ctx.tree l.ctx.tree
