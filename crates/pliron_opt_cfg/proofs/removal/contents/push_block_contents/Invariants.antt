use Rattle.std.proofs.Common.{◌≡◌, ◌++◌, take}
use Rattle.std.specs.List.{flat_map}
use Rattle.pliron_core.specs.Walks.{preorder}
use Rattle.pliron_opt_cfg.proofs.removal.contents.push_block_contents.Given as goal

abbrev pub invariant-loop-op : goal.invariant-loop-op
invariant-loop-op l = l.ops.items ≡ l.fn.ops.items ++ flat_map (λ k. preorder l.ctx.tree k) (take l.op-index l.op-items)
