use Rattle.std.proofs.Common.{◌≡◌, take}
use Rattle.pliron_core.specs.Tree.{uses_of}
use Rattle.pliron_opt_dce.specs.Incoming.{edges_of, AreCounted}
use Rattle.pliron_opt_dce.proofs.incoming.count_edges.Given as goal

abbrev pub invariant-loop-i : goal.invariant-loop-i
invariant-loop-i g l = record {
  edges : edges_of l.edges.items ≡ take l.i (uses_of l.ctx.block_uses l.block);
  counted : AreCounted g.D.HasMeaning.meaning l.ctx.tree l.edges.items;
}
