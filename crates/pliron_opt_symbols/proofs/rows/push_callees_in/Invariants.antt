use Rattle.std.proofs.Common.{take}
use Rattle.pliron_graph_calls.specs.Names.{names_of}
use Rattle.pliron_opt_symbols.specs.Rows.{IsCalleeNode, Gets, OfOne}
use Rattle.pliron_opt_symbols.proofs.rows.push_callees_in.Given as goal

abbrev pub invariant-loop-inner : goal.invariant-loop-inner
invariant-loop-inner g l = Gets l.fn.row.items l.row.items (OfOne (take l.inner-index l.inner-items) (IsCalleeNode g.D.InliningDialect.callee l.ctx.tree (names_of l.table.names)))
