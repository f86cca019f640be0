use Rattle.std.proofs.Common.{◌≡◌, take, drop}
use Rattle.pliron_opt_cfg.proofs.EraseSteps.{AreErased}
use Rattle.pliron_opt_cfg.proofs.removal.erasing.erase_each.Given as goal

abbrev pub invariant-loop-block : goal.invariant-loop-block
invariant-loop-block g l = record {
  erased : AreErased l.fn.ctx.tree l.ctx.tree l.fn.region l.blocks (take l.block-index l.blocks) (drop l.block-index l.blocks);
  point : g.R.Rewriter.point l.rewriter ≡ g.R.Rewriter.point l.fn.rewriter;
}
