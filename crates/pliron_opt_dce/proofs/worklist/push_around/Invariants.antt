use Rattle.std.proofs.Common.{◌-◌, suc, length}
use Rattle.std.specs.Option.{ForSome, option_map_or}
use Rattle.pliron_core.specs.Tree.{IsLive}
use Rattle.pliron_core.specs.Walks.{contents}
use Rattle.pliron_opt_dce.proofs.AroundSets.{IsRising}
use Rattle.pliron_opt_dce.proofs.worklist.push_around.Given as goal

abbrev pub invariant-loop-holder : goal.invariant-loop-holder
invariant-loop-holder l = record {
  live : ForSome l.holder (λ k. IsLive l.ctx.tree k);
  rising : IsRising l.ctx.tree l.fn.value l.fn.around.ops.items l.around.ops.items l.holder;
}

abbrev pub decreases-loop-holder : goal.decreases-loop-holder
decreases-loop-holder l = option_map_or (λ k. suc (length l.ctx.tree.operations - length (contents l.ctx.tree k))) l.holder 0
