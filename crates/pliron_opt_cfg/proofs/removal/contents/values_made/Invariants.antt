use Rattle.std.proofs.Common.{◌≡◌, ◌++◌, take}
use Rattle.std.specs.List.{flat_map}
use Rattle.pliron_core.specs.Tree.{results_of, arguments_of}
use Rattle.pliron_opt_cfg.proofs.removal.contents.values_made.Given as goal

abbrev pub invariant-loop-op : goal.invariant-loop-op
invariant-loop-op l = l.values.items ≡ flat_map (λ k. results_of l.ctx.tree k) (take l.op-index l.ops)

abbrev pub invariant-loop-block : goal.invariant-loop-block
invariant-loop-block l = l.values.items ≡ flat_map (λ k. results_of l.ctx.tree k) l.ops ++ flat_map (λ b. arguments_of l.ctx.tree b) (take l.block-index l.blocks)
