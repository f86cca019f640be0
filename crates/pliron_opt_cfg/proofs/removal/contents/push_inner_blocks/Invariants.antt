use Rattle.std.proofs.Common.{◌≡◌, ◌++◌, take}
use Rattle.std.specs.List.{flat_map}
use Rattle.pliron_opt_cfg.specs.Internal.Contents.{blocks_directly_in}
use Rattle.pliron_opt_cfg.proofs.removal.contents.push_inner_blocks.Given as goal

abbrev pub invariant-loop-op : goal.invariant-loop-op
invariant-loop-op l = l.blocks.items ≡ l.fn.blocks.items ++ flat_map (λ k. blocks_directly_in l.ctx.tree k) (take l.op-index l.ops)
