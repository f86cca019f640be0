use Rattle.std.proofs.Common.{◌≡◌, take}
use Rattle.pliron_laws.specs.MaterialisedConstants.{all_replaced, status_of}
use Rattle.pliron_laws.proofs.materialised_constants.hand_over_all.Given as goal

abbrev pub invariant-loop-i : goal.invariant-loop-i
invariant-loop-i g l = record {
  status : l.status ≡ status_of (take l.i l.made);
  tree : l.ctx.tree ≡ all_replaced (take l.i l.made) l.fn.ctx.tree;
  point : g.R.Rewriter.point l.rewriter ≡ g.R.Rewriter.point l.fn.rewriter;
}
