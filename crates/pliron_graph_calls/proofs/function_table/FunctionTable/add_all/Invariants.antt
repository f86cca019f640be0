use Rattle.std.proofs.Common.{take}
use Rattle.pliron_graph_calls.specs.FunctionNames.{AreNamedFunctions}
use Rattle.pliron_graph_calls.proofs.function_table.FunctionTable.add_all.Given as goal

abbrev pub invariant-loop-op : goal.invariant-loop-op
invariant-loop-op g l = AreNamedFunctions g.D.InliningDialect.convention l.ctx.tree (take l.op-index l.ops) l.self
