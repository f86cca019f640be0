use Rattle.std.proofs.Common.{◌≡◌, sym, ap, ◌∙◌, refl}
use Rattle.std.specs.Option.{option_and_then}
use Rattle.pliron_core.specs.Tree.{IsLive, head_of}
use Rattle.pliron_opt_inline.proofs.OneCallLemmas.{unchanged, by_runs, by_same, both_keep, then_linked, named_keeps, fit_kept, live_by, on_err_of, match_none, match_some, prepared_rows, prepared_heads, still_longer, both_heads, both_symbols}
use Rattle.pliron_opt_inline.proofs.one_call.inline_one.Goals as goal

pub returns-then-not-is_plain_call-clause-inlined : goal.returns-then-not-is_plain_call-clause-inlined
returns-then-not-is_plain_call-clause-inlined g c = unchanged g.D.HasMeaning.meaning c.args.ctx.now.tree

pub returns-then-not-may_be_inlined-clause-inlined : goal.returns-then-not-may_be_inlined-clause-inlined
returns-then-not-may_be_inlined-clause-inlined g c = unchanged g.D.HasMeaning.meaning c.args.ctx.now.tree

-- ---- the call is prepared, and no more

pub returns-in_err-prepare_call-clause-refused : goal.returns-in_err-prepare_call-clause-refused
returns-in_err-prepare_call-clause-refused g c =
    let m = g.D.HasMeaning.meaning in
    let t = c.args.ctx.now.tree in
    let u = c.prepare_call.new.ctx.tree in
    on_err_of c.from_residual.result (named_keeps m g.D.InliningDialect.convention (record { symbol = g.symbol; callee = c.args.callee }) t u (by_runs m t u c.prepare_call.ensures.runs))

pub returns-in_err-note_results-clause-refused : goal.returns-in_err-note_results-clause-refused
returns-in_err-note_results-clause-refused g c =
    let m = g.D.HasMeaning.meaning in
    let t = c.args.ctx.now.tree in
    let u = c.prepare_call.new.ctx.tree in
    on_err_of c.from_residual-in_err-note_results.result (named_keeps m g.D.InliningDialect.convention (record { symbol = g.symbol; callee = c.args.callee }) t u (by_runs m t u c.prepare_call.ensures.runs))

pub returns-in_err-note_results-clause-heads : goal.returns-in_err-note_results-clause-heads
returns-in_err-note_results-clause-heads g c = λ k live ne.
    prepared_heads g.D.HasMeaning.meaning c.args.ctx.now.tree c.prepare_call.new.ctx.tree c.args.call c.well_formed-3.ensures.tree c.in_ok-prepare_call.ensures.led c.in_ok-prepare_call.ensures.prepared k live

pub returns-in_err-note_results-clause-symbols : goal.returns-in_err-note_results-clause-symbols
returns-in_err-note_results-clause-symbols g c = λ k name e.
    prepared_heads g.D.HasMeaning.meaning c.args.ctx.now.tree c.prepare_call.new.ctx.tree c.args.call c.well_formed-3.ensures.tree c.in_ok-prepare_call.ensures.led c.in_ok-prepare_call.ensures.prepared k (live_by g.D.InliningDialect.convention.symbol_of c.args.ctx.now.tree k name e)

-- ---- the prepared call may be inlined

pub inline_prepared-copies-requires : goal.inline_prepared-copies-requires
inline_prepared-copies-requires g c =
    let m = g.D.HasMeaning.meaning in
    let t = c.args.ctx.now.tree in
    let u = c.prepare_call.new.ctx.tree in
    let wu = c.well_formed-3.ensures.tree in
    let led = c.in_ok-prepare_call.ensures.led in
    let prepared = c.in_ok-prepare_call.ensures.prepared in
    let calls = c.requires.1.1.1.0 in
    let fit = c.requires.1.1.1.1 in
    let live = live_by g.D.InliningDialect.callee t c.args.call g.symbol calls in
    let called = ap (option_and_then g.D.InliningDialect.callee) (prepared_heads m t u c.args.call wu led prepared c.args.call live) ∙ calls in
    let childless = ap (λ r. r.regions) (prepared_rows m t u c.args.call wu led prepared c.args.call live) ∙ c.if-not-is_plain_call.ensures.childless refl in
    let still = fit_kept m t u c.prepare_call.ensures.runs c.args.callee fit (prepared_heads m t u c.args.call wu led prepared c.args.callee fit.live) in
    λ κs l. (l.0, (l.1, (called, (childless, (prepared, still)))))

-- ---- and is, or is not

pub returns-in_err-copies-clause-refused : goal.returns-in_err-copies-clause-refused
returns-in_err-copies-clause-refused g c =
    let m = g.D.HasMeaning.meaning in
    let t = c.args.ctx.now.tree in
    let u = c.prepare_call.new.ctx.tree in
    let v = c.inline_prepared-copies.new.ctx.tree in
    let wu = c.well_formed-3.ensures.tree in
    let same = c.in_err-copies.ensures.refused in
    let longer = still_longer m t u c.args.call wu c.in_ok-prepare_call.ensures.led c.in_ok-prepare_call.ensures.prepared v same in
    on_err_of c.from_residual-in_err-copies.result
    (named_keeps m g.D.InliningDialect.convention (record { symbol = g.symbol; callee = c.args.callee }) t v (both_keep m t u v (by_runs m t u c.prepare_call.ensures.runs) (by_same m u v wu c.well_formed-4.ensures.tree same longer)))

pub returns-in_err-copies-clause-heads : goal.returns-in_err-copies-clause-heads
returns-in_err-copies-clause-heads g c = both_heads g.D.HasMeaning.meaning c.args.ctx.now.tree c.prepare_call.new.ctx.tree c.args.call c.well_formed-3.ensures.tree c.in_ok-prepare_call.ensures.led c.in_ok-prepare_call.ensures.prepared c.inline_prepared-copies.new.ctx.tree c.inline_prepared-copies.ensures.heads

pub returns-in_err-copies-clause-symbols : goal.returns-in_err-copies-clause-symbols
returns-in_err-copies-clause-symbols g c = both_symbols g.D.HasMeaning.meaning c.args.ctx.now.tree c.prepare_call.new.ctx.tree c.args.call c.well_formed-3.ensures.tree c.in_ok-prepare_call.ensures.led c.in_ok-prepare_call.ensures.prepared c.inline_prepared-copies.new.ctx.tree c.inline_prepared-copies.ensures.heads g.D.InliningDialect.convention (c.if-not-is_plain_call.ensures.no_function refl)

pub returns-in_default-clause-heads : goal.returns-in_default-clause-heads
returns-in_default-clause-heads g c = both_heads g.D.HasMeaning.meaning c.args.ctx.now.tree c.prepare_call.new.ctx.tree c.args.call c.well_formed-3.ensures.tree c.in_ok-prepare_call.ensures.led c.in_ok-prepare_call.ensures.prepared c.inline_prepared-copies.new.ctx.tree c.inline_prepared-copies.ensures.heads

pub returns-in_default-clause-symbols : goal.returns-in_default-clause-symbols
returns-in_default-clause-symbols g c = both_symbols g.D.HasMeaning.meaning c.args.ctx.now.tree c.prepare_call.new.ctx.tree c.args.call c.well_formed-3.ensures.tree c.in_ok-prepare_call.ensures.led c.in_ok-prepare_call.ensures.prepared c.inline_prepared-copies.new.ctx.tree c.inline_prepared-copies.ensures.heads g.D.InliningDialect.convention (c.if-not-is_plain_call.ensures.no_function refl)

pub returns-in_err-note_copies-clause-heads : goal.returns-in_err-note_copies-clause-heads
returns-in_err-note_copies-clause-heads g c = both_heads g.D.HasMeaning.meaning c.args.ctx.now.tree c.prepare_call.new.ctx.tree c.args.call c.well_formed-3.ensures.tree c.in_ok-prepare_call.ensures.led c.in_ok-prepare_call.ensures.prepared c.inline_prepared-copies.new.ctx.tree c.inline_prepared-copies.ensures.heads

pub returns-in_err-note_copies-clause-symbols : goal.returns-in_err-note_copies-clause-symbols
returns-in_err-note_copies-clause-symbols g c = both_symbols g.D.HasMeaning.meaning c.args.ctx.now.tree c.prepare_call.new.ctx.tree c.args.call c.well_formed-3.ensures.tree c.in_ok-prepare_call.ensures.led c.in_ok-prepare_call.ensures.prepared c.inline_prepared-copies.new.ctx.tree c.inline_prepared-copies.ensures.heads g.D.InliningDialect.convention (c.if-not-is_plain_call.ensures.no_function refl)

pub returns-clause-heads : goal.returns-clause-heads
returns-clause-heads g c = both_heads g.D.HasMeaning.meaning c.args.ctx.now.tree c.prepare_call.new.ctx.tree c.args.call c.well_formed-3.ensures.tree c.in_ok-prepare_call.ensures.led c.in_ok-prepare_call.ensures.prepared c.inline_prepared-copies.new.ctx.tree c.inline_prepared-copies.ensures.heads

pub returns-clause-symbols : goal.returns-clause-symbols
returns-clause-symbols g c = both_symbols g.D.HasMeaning.meaning c.args.ctx.now.tree c.prepare_call.new.ctx.tree c.args.call c.well_formed-3.ensures.tree c.in_ok-prepare_call.ensures.led c.in_ok-prepare_call.ensures.prepared c.inline_prepared-copies.new.ctx.tree c.inline_prepared-copies.ensures.heads g.D.InliningDialect.convention (c.if-not-is_plain_call.ensures.no_function refl)

pub returns-in_default-clause-inlined : goal.returns-in_default-clause-inlined
returns-in_default-clause-inlined g c =
    let m = g.D.HasMeaning.meaning in
    let t = c.args.ctx.now.tree in
    let u = c.prepare_call.new.ctx.tree in
    let v = c.inline_prepared-copies.new.ctx.tree in
    both_keep m t u v (by_runs m t u c.prepare_call.ensures.runs) (match_none _ _ c.in_ok-copies.field-0 c.in_default.is c.in_ok-copies.ensures.keeps)

pub returns-in_err-note_copies-clause-refused : goal.returns-in_err-note_copies-clause-refused
returns-in_err-note_copies-clause-refused g c =
    let m = g.D.HasMeaning.meaning in
    let t = c.args.ctx.now.tree in
    let u = c.prepare_call.new.ctx.tree in
    let v = c.inline_prepared-copies.new.ctx.tree in
    let kept = then_linked m g.D.InliningDialect.convention (record { symbol = g.symbol; callee = c.args.callee }) t u v (by_runs m t u c.prepare_call.ensures.runs) (match_some _ _ c.in_ok-copies.field-0 c.in-Some.copies c.in-Some.is c.in_ok-copies.ensures.keeps) in
    on_err_of c.from_residual-in_err-note_copies.result kept

pub returns-clause-inlined : goal.returns-clause-inlined
returns-clause-inlined g c =
    let m = g.D.HasMeaning.meaning in
    let t = c.args.ctx.now.tree in
    let u = c.prepare_call.new.ctx.tree in
    let v = c.inline_prepared-copies.new.ctx.tree in
    let kept = then_linked m g.D.InliningDialect.convention (record { symbol = g.symbol; callee = c.args.callee }) t u v (by_runs m t u c.prepare_call.ensures.runs) (match_some _ _ c.in_ok-copies.field-0 c.in-Some.copies c.in-Some.is c.in_ok-copies.ensures.keeps) in
    kept
