use Rattle.std.proofs.Common.{take}
use Rattle.pliron_graph_calls.specs.Names.{names_of}
use Rattle.pliron_opt_symbols.specs.Rows.{IsNodeCalledBeside, Gets, OfOne}
use Rattle.pliron_opt_symbols.proofs.rows.push_callees_beside.Given as goal

abbrev pub invariant-loop-item : goal.invariant-loop-item
invariant-loop-item g l = Gets l.fn.row.items l.row.items (OfOne (take l.item-index l.item-items) (IsNodeCalledBeside g.D.InliningDialect.convention g.D.InliningDialect.callee l.ctx.tree (names_of l.table.names)))
