use Rattle.std.proofs.Common.{◌≡◌, ◌+◌, ◌≤◌, ◌++◌, ◌∷◌, [], List, length, map, Some, refl, arith, sym, ap, ◌∙◌, subst}
use Rattle.std.specs.Prelude.{slice_get}
use Rattle.std.proofs.lemmas.Option.{slice_get_read}
use Rattle.pliron_graph_calls.specs.Names.{names_of}
use Rattle.pliron_opt_symbols.specs.Kept.{symbol_reads}
use Rattle.pliron_opt_symbols.proofs.LoopLemmas.{RowsSoFar, rows_begin, rows_more, rows_end, map_last}
use Rattle.pliron_opt_symbols.proofs.rows.symbol_rows.Goals as goal

pub loop-function-init : goal.loop-function-init
loop-function-init g c =
    let s = symbol_reads g.D.InliningDialect.callee (g.P.SymbolPolicy.is_private c.args.policy.now) (g.P.SymbolPolicy.is_traced c.args.policy.now) in
    let all = ap (map (λ r. r.items)) (c.in_ok-push.ensures.items ∙ ap (λ xs. xs ++ c.in_ok-kept_row.field-0 ∷ []) c.new-rows.ensures.items) in
    subst (RowsSoFar g.D.InliningDialect.convention s c.args.ctx.now.tree c.args.holder c.args.table.now.functions (names_of c.args.table.now.names) 0) (sym all)
    (rows_begin g.D.InliningDialect.convention s c.args.ctx.now.tree c.args.holder c.args.table.now.functions (names_of c.args.table.now.names) c.in_ok-kept_row.field-0.items c.in_ok-kept_row.ensures.row c.in_ok-kept_row.ensures.sorted)

pub loop-function-preserved : goal.loop-function-preserved
loop-function-preserved g c =
    let s = symbol_reads g.D.InliningDialect.callee (g.P.SymbolPolicy.is_private c.args.policy.now) (g.P.SymbolPolicy.is_traced c.args.policy.now) in
    let fs = c.functions-function-items.result.now in
    let i = c.loop-function.function-index in
    let f = c.function-item.result in
    let at : slice_get c.args.table.now.functions i ≡ Some f = subst (λ xs. slice_get xs i ≡ Some f) c.functions-function-items.ensures (slice_get_read fs (length fs) i f refl c.loop-function-test.true c.function-item.is) in
    let long = ap (map (λ r. r.items)) c.in_ok-push-2.ensures.items ∙ map_last (λ r. r.items) c.loop-function.rows.items c.in_ok-callee_row.field-0 in
    subst (RowsSoFar g.D.InliningDialect.convention s c.args.ctx.now.tree c.args.holder c.args.table.now.functions (names_of c.args.table.now.names) (i + 1)) (sym long)
    (rows_more g.D.InliningDialect.convention s c.args.ctx.now.tree c.args.holder c.args.table.now.functions (names_of c.args.table.now.names) i f (map (λ r. r.items) c.loop-function.rows.items) c.in_ok-callee_row.field-0.items at c.in_ok-callee_row.ensures.row c.loop-function.invariant)

pub returns-clause-rows : goal.returns-clause-rows
returns-clause-rows g c =
    let s = symbol_reads g.D.InliningDialect.callee (g.P.SymbolPolicy.is_private c.args.policy.now) (g.P.SymbolPolicy.is_traced c.args.policy.now) in
    let fs = c.functions-function-items.result.now in
    let end : c.loop-function.function-index ≡ length fs = omega (arith, c.loop-function-test.false, c.loop-function.auto.function-index-end) in
    rows_end g.D.InliningDialect.convention s c.args.ctx.now.tree c.args.holder c.args.table.now.functions (names_of c.args.table.now.names) (map (λ r. r.items) c.loop-function.rows.items)
    (subst (λ n. RowsSoFar g.D.InliningDialect.convention s c.args.ctx.now.tree c.args.holder c.args.table.now.functions (names_of c.args.table.now.names) n (map (λ r. r.items) c.loop-function.rows.items)) (end ∙ ap length c.functions-function-items.ensures) c.loop-function.invariant)
