use Rattle.std.proofs.Common.{◌≡◌, ℕ, suc, Some, sym, ap, ◌∙◌, subst}
use Rattle.std.proofs.lemmas.Option.{MatchOption-at_some, same_Some}
use Rattle.pliron_laws.specs.Datum.{datum_of}
use Rattle.pliron_graph_calls.specs.CallSites.{callee_at}
use Rattle.pliron_graph_calls.specs.Names.{names_of}
use Rattle.pliron_graph_calls.proofs.AmongLemmas.{read_of}
use Rattle.pliron_opt_symbols.specs.Rows.{IsCalleeNode, Gets}
use Rattle.pliron_opt_symbols.proofs.RowLemmas.{gets_push}
use Rattle.pliron_opt_symbols.proofs.FunctionLemmas.{one_place}
use Rattle.pliron_opt_symbols.proofs.rows.push_callee.Goals as goal

pub returns-clause-row : goal.returns-clause-row
returns-clause-row g c =
    let callee = g.D.InliningDialect.callee in
    let t = c.args.ctx.now.tree in
    let names = names_of c.args.table.now.names in
    let name = datum_of c.in-Some.name.now in
    let place = c.in-Some-2.place in
    let node = c.in_ok-node_of.field-0 in
    let at : callee_at callee t c.args.op ≡ Some name = read_of callee t c.args.op (Some name) c.in-Some.ensures.reads c.requires.live in
    let found = MatchOption-at_some _ _ place c.in-Some-2.is c.in_ok-place.ensures in
    subst (λ xs. Gets c.args.row.now.items xs (IsCalleeNode callee t names c.args.op)) (sym c.in_ok-push.ensures.items)
    (gets_push c.args.row.now.items node (IsCalleeNode callee t names c.args.op)
    (record { place = place; node = c.in_ok-node_of.ensures.node; name = name; calls = at; named = found })
    (λ v (p : IsCalleeNode callee t names c.args.op v).
    let same : p.name ≡ name = same_Some p.name name (sym p.calls ∙ at) in
    p.node ∙ ap suc (one_place names c.requires.no_namesakes p.place place name (p.named ∙ ap Some same) found) ∙ sym c.in_ok-node_of.ensures.node))
