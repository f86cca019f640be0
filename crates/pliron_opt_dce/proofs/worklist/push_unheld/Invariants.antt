use Rattle.std.proofs.Common.{ℕ, ◌++◌, map, take, IfSome}
use Rattle.pliron_opt_dce.specs.declared.worklist.DeadCandidate.TheVariants.{Operation}
use Rattle.pliron_opt_dce.specs.Readiness.{IsHeldUpTo}
use Rattle.pliron_opt_dce.specs.Worklist.{KeepsReady}
use Rattle.pliron_opt_dce.proofs.worklist.push_unheld.Given as goal

abbrev pub invariant-loop-op : goal.invariant-loop-op
invariant-loop-op g l = record {
  reach : IfSome l.held (λ reach. IsHeldUpTo l.ctx.tree reach.at reach.top);
  kept : (root : ℕ) → KeepsReady g.D.HasMeaning.meaning g.D.SideEffects.side_effects g.D.BlockArgRemoval.removable l.ctx.tree root (map (λ k. Operation k) (take l.op-index l.ops) ++ l.fn.round.items) l.round.items;
}
