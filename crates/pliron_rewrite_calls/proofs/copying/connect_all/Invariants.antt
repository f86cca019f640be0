use Rattle.pliron_rewrite_calls.specs.CopySteps.{IsCopying, AreConnected}
use Rattle.pliron_rewrite_calls.proofs.copying.connect_all.Given as goal

abbrev pub ghost-connect : goal.ghost-connect
ghost-connect g a = g.x

abbrev pub invariant-loop-i : goal.invariant-loop-i
invariant-loop-i g l = record {
  copying : IsCopying g.x l.ctx.tree g.x.blocks l.operations l.copies;
  connected : AreConnected g.x l.ctx.tree l.copies l.i;
}
