use Rattle.std.proofs.Common.{◌≡◌, Some, ◌-◌, ℕ, suc, length}
use Rattle.std.specs.Option.{ForSome, option_map_or}
use Rattle.pliron_core.specs.Tree.{IsLive, IsInside, IsWithin}
use Rattle.pliron_core.specs.Walks.{contents}
use Rattle.pliron_core.proofs.context.walk.Ptr+Operation.is_inside.Given as goal

abbrev pub invariant-loop-above : goal.invariant-loop-above
invariant-loop-above l = record {
  live : ForSome l.above (λ k. IsLive l.ctx.tree k);
  inside : ForSome l.above (λ k. IsInside l.ctx.tree k l.fn.self);
  reached : IsInside l.ctx.tree l.op l.fn.self → (k : ℕ) × (l.above ≡ Some k) × IsWithin l.ctx.tree l.op k;
}

abbrev pub decreases-loop-above : goal.decreases-loop-above
decreases-loop-above l = option_map_or (λ k. suc (length l.ctx.tree.operations - length (contents l.ctx.tree k))) l.above 0
