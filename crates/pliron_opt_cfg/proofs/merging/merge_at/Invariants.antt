use Rattle.std.proofs.Common.{◌≡◌, ◌∷◌, [], ℕ, length, Some}
use Rattle.pliron_core.specs.Edges.{blocks_in}
use Rattle.pliron_core.specs.Tree.{IsBlock, block_parent_of, block_parent_operation_of}
use Rattle.pliron_laws.specs.Linked.{IsWellLinked}
use Rattle.pliron_opt_cfg.specs.Internal.Chains.{MergesAmong, ReportsMerged}
use Rattle.pliron_opt_cfg.proofs.merging.merge_at.Given as goal

abbrev pub invariant-loop-pair : goal.invariant-loop-pair
invariant-loop-pair g l = record {
  way : MergesAmong g.D.HasMeaning.meaning (l.first ∷ []) l.fn.ctx.tree l.ctx.tree;
  accurate : ReportsMerged g.D.HasMeaning.meaning (l.first ∷ []) l.fn.ctx.tree l.ctx.tree l.status;
  block : IsBlock l.ctx.tree l.first;
  linked : (holder : ℕ) → block_parent_operation_of l.ctx.tree l.first ≡ Some holder → IsWellLinked g.D.HasMeaning.meaning l.ctx.tree holder;
}

abbrev pub decreases-loop-pair : goal.decreases-loop-pair
decreases-loop-pair g l = length (blocks_in l.ctx.tree (block_parent_of l.ctx.tree l.first))
