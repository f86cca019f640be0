use Rattle.std.proofs.Common.{◌≡◌, ◌+◌, ◌≤◌, length, Some, ⊎_elim, refl, arith, sym, ap, ◌∙◌, subst}
use Rattle.std.specs.Prelude.{slice_get}
use Rattle.std.proofs.lemmas.Option.{slice_get_read}
use Rattle.pliron_opt_symbols.specs.Kept.{symbol_reads}
use Rattle.pliron_opt_symbols.proofs.LoopLemmas.{StayingSoFar, staying_more, staying_same, staying_all, staying_none}
use Rattle.pliron_opt_symbols.proofs.rows.push_staying.Goals as goal

pub loop-place-preserved : goal.loop-place-preserved
loop-place-preserved g c =
    let s = symbol_reads g.D.InliningDialect.callee (g.P.SymbolPolicy.is_private c.args.policy.now) (g.P.SymbolPolicy.is_traced c.args.policy.now) in
    let t = c.args.ctx.now.tree in
    let fs = c.functions-functions.result.now in
    let all = c.args.table.now.functions in
    let old = c.args.row.now.items in
    let row = c.loop-place.row.items in
    let i = c.loop-place.place in
    let f = c.index-functions-place.result in
    let at : slice_get all i ≡ Some f = subst (λ xs. slice_get xs i ≡ Some f) c.functions-functions.ensures (slice_get_read fs (length fs) i f refl c.loop-place-test.true c.index-functions-place.is) in
    ⊎_elim
    (λ x. subst (λ xs. StayingSoFar s t all old xs (i + 1)) (sym x.1) (staying_more s t all old row i f at x.0 c.loop-place.invariant))
    (λ x. subst (λ xs. StayingSoFar s t all old xs (i + 1)) (sym x.1) (staying_same s t all old row i f at x.0 c.loop-place.invariant))
    c.in_ok-push_if_staying.ensures.row

pub returns-clause-row : goal.returns-clause-row
returns-clause-row g c =
    let s = symbol_reads g.D.InliningDialect.callee (g.P.SymbolPolicy.is_private c.args.policy.now) (g.P.SymbolPolicy.is_traced c.args.policy.now) in
    let t = c.args.ctx.now.tree in
    let fs = c.functions-functions.result.now in
    let all = c.args.table.now.functions in
    let end : c.loop-place.place ≡ length fs = omega (arith, c.loop-place-test.false, c.loop-place.auto.place-end) in
    staying_all s t all c.args.row.now.items c.loop-place.row.items (subst (StayingSoFar s t all c.args.row.now.items c.loop-place.row.items) (end ∙ ap length c.functions-functions.ensures) c.loop-place.invariant)

pub returns-clause-sorted : goal.returns-clause-sorted
returns-clause-sorted g c =
    let s = symbol_reads g.D.InliningDialect.callee (g.P.SymbolPolicy.is_private c.args.policy.now) (g.P.SymbolPolicy.is_traced c.args.policy.now) in
    let t = c.args.ctx.now.tree in
    let fs = c.functions-functions.result.now in
    let all = c.args.table.now.functions in
    let end : c.loop-place.place ≡ length fs = omega (arith, c.loop-place-test.false, c.loop-place.auto.place-end) in
    (subst (StayingSoFar s t all c.args.row.now.items c.loop-place.row.items) (end ∙ ap length c.functions-functions.ensures) c.loop-place.invariant).sorted

pub loop-place-init : goal.loop-place-init
loop-place-init g c = staying_none (symbol_reads g.D.InliningDialect.callee (g.P.SymbolPolicy.is_private c.args.policy.now) (g.P.SymbolPolicy.is_traced c.args.policy.now)) c.args.ctx.now.tree c.args.table.now.functions c.args.row.now.items
