use Rattle.std.proofs.Common.{◌≡◌, ◌+◌, [], ◌∷◌, ◌++◌, map, take, sym, ap, ◌∙◌, subst}
use Rattle.std.proofs.lemmas.List.{take_more}
use Rattle.pliron_graph_calls.specs.Names.{names_of}
use Rattle.pliron_opt_inline.specs.CallGraph.{AreCalleeRows}
use Rattle.pliron_opt_inline.proofs.RowLemmas.{map_last, row_added}
use Rattle.pliron_opt_inline.proofs.components.callee_rows.Goals as goal

pub loop-function-preserved : goal.loop-function-preserved
loop-function-preserved g c =
    let callee = g.D.InliningDialect.callee in
    let t = c.args.ctx.now.tree in
    let names = names_of c.args.table.now.names in
    let fs = c.args.table.now.functions in
    let i = c.loop-function.function-index in
    let f = c.function-item.result in
    let items = c.functions-function-items.result.now in
    let step = take_more items i f c.loop-function-test.true ∙ ap (λ z. take i items ++ z ∷ []) (sym c.function-item.is) in
    let more = subst (λ ys. take (i + 1) ys ≡ take i ys ++ f ∷ []) c.functions-function-items.ensures step in
    let rows = map (λ r. r.items) c.loop-function.rows.items in
    let added = row_added callee t names (take i fs) rows f c.in_ok-callees_of.field-0.items c.loop-function.invariant c.in_ok-callees_of.ensures.callees in
    let long = ap (map (λ r. r.items)) c.in_ok-push.ensures.items ∙ map_last (λ r. r.items) c.loop-function.rows.items c.in_ok-callees_of.field-0 in
    subst (λ ks. AreCalleeRows callee t names ks (map (λ r. r.items) c.push.new.self.items)) (sym more) (subst (AreCalleeRows callee t names (take i fs ++ f ∷ [])) (sym long) added)
