use Rattle.std.proofs.Common.{◌≡◌, ℕ, ◌+◌, ◌<◌, ◌≤◌, length, Some, slice_get}
use Rattle.pliron_core.specs.Invariant.{IsTree}
use Rattle.pliron_core.specs.Tree.{IsLive}
use Rattle.pliron_rewrite_rotation.specs.HeaderSteps.{IsLeadingIn}
use Rattle.pliron_rewrite_rotation.proofs.header.lead_all_in.Given as goal

abbrev pub ghost-lead_in : goal.ghost-lead_in
ghost-lead_in g a = g.x

abbrev pub invariant-loop-i : goal.invariant-loop-i
invariant-loop-i g l = record {
  tree : IsTree l.ctx.tree;
  leading : IsLeadingIn g.x l.ctx.tree;
  gone : (n k : ℕ) → n < l.i → slice_get l.entering n ≡ Some k → IsLive l.ctx.tree k → ⊥;
  bound : length l.ctx.tree.operations ≤ length l.fn.ctx.tree.operations + l.i;
}
