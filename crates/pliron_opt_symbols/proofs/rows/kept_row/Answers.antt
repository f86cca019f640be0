use Rattle.std.proofs.Common.{◌⊎◌, subst}
use Rattle.pliron_core.specs.Walks.{children}
use Rattle.pliron_graph_calls.specs.Names.{names_of}
use Rattle.pliron_opt_symbols.specs.Kept.{symbol_reads}
use Rattle.pliron_opt_symbols.specs.Rows.{IsNodeCalledBeside, IsStayingNode, Gets, OfOne}
use Rattle.pliron_opt_symbols.proofs.RowLemmas.{gets_all, gets_then}
use Rattle.pliron_opt_symbols.proofs.rows.kept_row.Goals as goal

pub returns-clause-row : goal.returns-clause-row
returns-clause-row g c =
    let t = c.args.ctx.now.tree in
    let P = OfOne (children t c.args.holder) (IsNodeCalledBeside g.D.InliningDialect.convention g.D.InliningDialect.callee t (names_of c.args.table.now.names)) in
    let Q = IsStayingNode (symbol_reads g.D.InliningDialect.callee (g.P.SymbolPolicy.is_private c.args.policy.now) (g.P.SymbolPolicy.is_traced c.args.policy.now)) t c.args.table.now.functions in
    let a = c.push_callees_beside.new.row.items in
    let b = c.push_staying.new.row.items in
    gets_all b (λ v. P v ⊎ Q v) (subst (λ xs. Gets xs b (λ v. P v ⊎ Q v)) c.new-row.ensures.items (gets_then c.new-row.result.items a b P Q c.in_ok-push_callees_beside.ensures.row c.in_ok-push_staying.ensures.row))
