use Rattle.std.proofs.Common.{◌≡◌, length}
use Rattle.pliron_core.specs.Tree.{IsBlock, block_parent_of, body_of}
use Rattle.pliron_rewrite_blocks.specs.Pairs.{all_moved_last}
use Rattle.pliron_opt_cfg.proofs.merging.joining.move_operations.Given as goal

abbrev pub invariant-loop-op : goal.invariant-loop-op
invariant-loop-op g l = record {
  whole : all_moved_last l.ctx.tree (body_of l.ctx.tree l.second) l.first ≡ all_moved_last l.fn.ctx.tree (body_of l.fn.ctx.tree l.second) l.first;
  block : IsBlock l.ctx.tree l.first;
  beside : block_parent_of l.ctx.tree l.second ≡ block_parent_of l.ctx.tree l.first;
}

abbrev pub decreases-loop-op : goal.decreases-loop-op
decreases-loop-op g l = length (body_of l.ctx.tree l.second)
