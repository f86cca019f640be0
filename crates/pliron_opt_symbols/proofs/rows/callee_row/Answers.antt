use Rattle.std.proofs.Common.{subst}
use Rattle.pliron_graph_calls.specs.Names.{names_of}
use Rattle.pliron_opt_symbols.specs.Rows.{IsNodeCalledIn, Gets}
use Rattle.pliron_opt_symbols.proofs.RowLemmas.{gets_all}
use Rattle.pliron_opt_symbols.proofs.rows.callee_row.Goals as goal

pub returns-clause-row : goal.returns-clause-row
returns-clause-row g c =
    let P = IsNodeCalledIn g.D.InliningDialect.callee c.args.ctx.now.tree (names_of c.args.table.now.names) c.args.function in
    gets_all c.push_callees_in.new.row.items P (subst (λ xs. Gets xs c.push_callees_in.new.row.items P) c.new-row.ensures.items c.in_ok-push_callees_in.ensures.row)
