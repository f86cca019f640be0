use Rattle.std.proofs.Common.{take}
use Rattle.pliron_graph_calls.specs.Names.{names_of}
use Rattle.pliron_graph_calls.specs.CallSites.{AreCallSites}
use Rattle.pliron_graph_calls.proofs.function_table.FunctionTable.call_sites_among.Given as goal

abbrev pub invariant-loop-op : goal.invariant-loop-op
invariant-loop-op g l = AreCallSites g.D.InliningDialect.callee l.ctx.tree (names_of l.self.names) (take l.op-index l.ops) l.sites.items
