use Rattle.std.proofs.Common.{take}
use Rattle.pliron_opt_dce.specs.Incoming.{edges_of}
use Rattle.pliron_theory.specs.Dropping.{EdgesLose}
use Rattle.pliron_opt_dce.proofs.erase.lose_operands.Given as goal

abbrev pub invariant-loop-i : goal.invariant-loop-i
invariant-loop-i g l = EdgesLose g.D.HasMeaning.meaning g.D.Dialect.shortened l.index (take l.i (edges_of l.edges)) l.fn.ctx.tree l.ctx.tree
