use Rattle.std.proofs.Common.{take}
use Rattle.pliron_opt_cfg.specs.Internal.Chains.{MergesAmong, HasNoPairAmong, ReportsMerged}
use Rattle.pliron_opt_cfg.proofs.merging.merge_among.Given as goal

abbrev pub invariant-loop-block : goal.invariant-loop-block
invariant-loop-block g l = record {
  way : MergesAmong g.D.HasMeaning.meaning l.blocks l.fn.ctx.tree l.ctx.tree;
  accurate : ReportsMerged g.D.HasMeaning.meaning l.blocks l.fn.ctx.tree l.ctx.tree l.status;
  none : HasNoPairAmong g.D.HasMeaning.meaning (take l.block-index l.blocks) l.ctx.tree;
}
