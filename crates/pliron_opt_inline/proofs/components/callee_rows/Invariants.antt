use Rattle.std.proofs.Common.{map, take}
use Rattle.pliron_graph_calls.specs.Names.{names_of}
use Rattle.pliron_opt_inline.specs.CallGraph.{AreCalleeRows}
use Rattle.pliron_opt_inline.proofs.components.callee_rows.Given as goal

abbrev pub invariant-loop-function : goal.invariant-loop-function
invariant-loop-function g l = AreCalleeRows g.D.InliningDialect.callee l.ctx.tree (names_of l.table.names) (take l.function-index l.table.functions) (map (λ r. r.items) l.rows.items)
