use Rattle.std.proofs.Common.{◌≡◌, ◌++◌, ◌∷◌, [], ◌≤◌, length, take, arith, sym, ap, ◌∙◌, subst}
use Rattle.std.proofs.lemmas.List.{take_more, take_all}
use Rattle.pliron_graph_calls.specs.Names.{names_of}
use Rattle.pliron_opt_symbols.specs.Rows.{IsCalleeNode, IsNodeCalledIn, Gets, OfOne}
use Rattle.pliron_opt_symbols.proofs.RowLemmas.{gets_more, gets_by}
use Rattle.pliron_opt_symbols.proofs.rows.push_callees_in.Goals as goal

pub loop-inner-preserved : goal.loop-inner-preserved
loop-inner-preserved g c =
    let ks = c.deref-inner-items.result.now in
    let i = c.loop-inner.inner-index in
    let x = c.inner-item.result in
    let more = take_more ks i x c.loop-inner-test.true ∙ ap (λ z. take i ks ++ z ∷ []) (sym c.inner-item.is) in
    gets_more c.args.row.now.items c.loop-inner.row.items c.push_callee.new.row.items ks i x (IsCalleeNode g.D.InliningDialect.callee c.args.ctx.now.tree (names_of c.args.table.now.names)) more c.loop-inner.invariant c.in_ok-push_callee.ensures.row

pub returns-clause-row : goal.returns-clause-row
returns-clause-row g c =
    let P = IsCalleeNode g.D.InliningDialect.callee c.args.ctx.now.tree (names_of c.args.table.now.names) in
    let ks = c.deref-inner-items.result.now in
    let all : length ks ≤ c.loop-inner.inner-index = omega (arith, c.loop-inner-test.false) in
    let whole = subst (λ xs. Gets c.args.row.now.items c.loop-inner.row.items (OfOne xs P)) (take_all c.loop-inner.inner-index ks all ∙ c.deref-inner-items.ensures.value) c.loop-inner.invariant in
    gets_by c.args.row.now.items c.loop-inner.row.items (OfOne c.in_ok-ops.ops.items P) (IsNodeCalledIn g.D.InliningDialect.callee c.args.ctx.now.tree (names_of c.args.table.now.names) c.args.op) whole
    (λ v x. (x.0, (c.in_ok-ops.ensures.within x.0).0 x.1, x.2))
    (λ v x. (x.0, (c.in_ok-ops.ensures.within x.0).1 x.1, x.2))
