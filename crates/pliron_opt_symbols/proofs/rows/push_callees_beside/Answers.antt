use Rattle.std.proofs.Common.{◌≡◌, ◌++◌, ◌∷◌, [], ◌≤◌, length, take, arith, sym, ap, ◌∙◌, subst}
use Rattle.std.proofs.lemmas.List.{take_more, take_all}
use Rattle.pliron_core.specs.Tree.{IsLive}
use Rattle.pliron_graph_calls.specs.Names.{names_of}
use Rattle.pliron_opt_symbols.specs.Rows.{IsNodeCalledBeside, Gets, OfOne}
use Rattle.pliron_opt_symbols.proofs.RowLemmas.{gets_more}
use Rattle.pliron_opt_symbols.proofs.rows.push_callees_beside.Goals as goal

pub loop-item-preserved : goal.loop-item-preserved
loop-item-preserved g c =
    let ks = c.deref-item-items.result.now in
    let i = c.loop-item.item-index in
    let x = c.item-item.result in
    let more = take_more ks i x c.loop-item-test.true ∙ ap (λ z. take i ks ++ z ∷ []) (sym c.item-item.is) in
    gets_more c.args.row.now.items c.loop-item.row.items c.push_callees_of_other.new.row.items ks i x (IsNodeCalledBeside g.D.InliningDialect.convention g.D.InliningDialect.callee c.args.ctx.now.tree (names_of c.args.table.now.names)) more c.loop-item.invariant c.in_ok-push_callees_of_other.ensures.row

pub returns-clause-row : goal.returns-clause-row
returns-clause-row g c =
    let P = IsNodeCalledBeside g.D.InliningDialect.convention g.D.InliningDialect.callee c.args.ctx.now.tree (names_of c.args.table.now.names) in
    let ks = c.deref-item-items.result.now in
    let all : length ks ≤ c.loop-item.item-index = omega (arith, c.loop-item-test.false) in
    subst (λ xs. Gets c.args.row.now.items c.loop-item.row.items (OfOne xs P)) (take_all c.loop-item.item-index ks all ∙ c.deref-item-items.ensures.value ∙ c.in_ok-items.ensures.inside) c.loop-item.invariant
