use Rattle.std.proofs.Common.{◌≡◌, Some, ◌-◌, ℕ, suc, length}
use Rattle.std.specs.Option.{ForSome, option_map_or}
use Rattle.pliron_core.specs.Tree.{IsLive, IsWithin}
use Rattle.pliron_core.specs.Erased.{IsInOperation}
use Rattle.pliron_core.specs.Walks.{contents}
use Rattle.pliron_core.proofs.context.contained.is_in_operation.Given as goal

abbrev pub invariant-loop-at : goal.invariant-loop-at
invariant-loop-at l = record {
  live : ForSome l.at (λ k. IsLive l.ctx.tree k);
  within : ForSome l.at (λ k. IsWithin l.ctx.tree k l.fn.op);
  reached : IsInOperation l.ctx.tree l.block l.fn.op → (k : ℕ) × (l.at ≡ Some k) × IsInOperation l.ctx.tree l.block k;
}

abbrev pub decreases-loop-at : goal.decreases-loop-at
decreases-loop-at l = option_map_or (λ k. suc (length l.ctx.tree.operations - length (contents l.ctx.tree k))) l.at 0
