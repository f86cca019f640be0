use Rattle.std.proofs.Common.{◌-◌, suc, length}
use Rattle.std.specs.Option.{ForSome, option_map_or}
use Rattle.pliron_core.specs.Tree.{IsLive}
use Rattle.pliron_core.specs.Walks.{contents}
use Rattle.pliron_opt_dce.proofs.around.find_top.Given as goal

abbrev pub invariant-loop-above : goal.invariant-loop-above
invariant-loop-above l = ForSome l.above (λ k. IsLive l.ctx.tree k)

abbrev pub decreases-loop-above : goal.decreases-loop-above
decreases-loop-above l = option_map_or (λ k. suc (length l.ctx.tree.operations - length (contents l.ctx.tree k))) l.above 0
