use Rattle.std.proofs.Common.{◌≡◌, take}
use Rattle.pliron_opt_cfg.specs.Internal.Contents.{contents_in}
use Rattle.pliron_opt_cfg.proofs.removal.contents.operations_in.Given as goal

abbrev pub invariant-loop-block : goal.invariant-loop-block
invariant-loop-block l = l.ops.items ≡ contents_in l.ctx.tree (take l.block-index l.blocks)
