use Rattle.std.proofs.Common.{◌≡◌, None, Some, ◌∙◌}
use Rattle.std.specs.Prelude.{OnOk}
use Rattle.pliron_core.specs.Tree.{head_of}
use Rattle.pliron_graph_calls.specs.Names.{names_of}
use Rattle.pliron_graph_calls.specs.FunctionNames.{symbol_at}
use Rattle.pliron_graph_calls.proofs.AmongLemmas.{read_of}
use Rattle.pliron_opt_symbols.specs.Rows.{IsNodeCalledIn, IsNodeCalledBeside, Gets}
use Rattle.pliron_opt_symbols.proofs.RowLemmas.{gets_by}
use Rattle.pliron_opt_symbols.proofs.rows.push_callees_of_other.Goals as goal

pub returns-clause-row : goal.returns-clause-row
returns-clause-row g c =
    let t = c.args.ctx.now.tree in
    let callee = g.D.InliningDialect.callee in
    let names = names_of c.args.table.now.names in
    let none : symbol_at g.D.InliningDialect.convention t c.args.op ≡ None = read_of g.D.InliningDialect.convention.symbol_of t c.args.op None c.in-None.ensures.reads c.requires.live in
    gets_by c.args.row.now.items c.push_callees_in.new.row.items (IsNodeCalledIn callee t names c.args.op) (IsNodeCalledBeside g.D.InliningDialect.convention callee t names c.args.op) c.in_ok-push_callees_in-in-None.ensures.row (λ v x. (none, x)) (λ v x. x.1)
