use Rattle.std.proofs.Common.{◌≡◌, ◌<◌, ◌∷◌, ◌++◌, [], ℕ, List, Some, false, true, length, sym, subst, arith, rules}
use Rattle.std.proofs.lemmas.Result.{on_ok_weaker}
use Rattle.pliron_core.proofs.HoldingLemmas.{in_slice}
use Rattle.pliron_graph_calls.specs.CallSites.{callee_at}
use Rattle.pliron_graph_calls.specs.Names.{names_of}
use Rattle.pliron_opt_inline.specs.Module.{callees_in}
use Rattle.pliron_opt_inline.specs.Turns.{IsUnderWay}
use Rattle.pliron_opt_inline.proofs.OneCallLemmas.{on_err_of}
use Rattle.pliron_opt_inline.proofs.ModuleLemmas.{called_name, called_by, called_there, read_at, match_true, match_false, site_within, first_fit, callee_fit, function_live, next_way, one_more, as_many}
use Rattle.pliron_opt_inline.proofs.inlining.inline_site.Goals as goal

pub admits-requires-clause-caller : goal.admits-requires-clause-caller
admits-requires-clause-caller g c =
    let m = g.D.HasMeaning.meaning in
    let conv = g.D.InliningDialect.convention in
    let u = c.args.ctx.now.tree in
    let fs = c.args.plan.now.table.now.functions in
    let names = names_of c.args.plan.now.table.now.names in
    let facts = c.args.plan.now.facts.now in
    let callees = callees_in c.args.progress.now.done.calls.items in
    let planned = c.requires.1.1.1.1.0 in
    let way = c.requires.1.1.1.1.1.0 in
    let place = c.requires.1.1.1.1.1.1.1.0 in
    let site = c.requires.1.1.1.1.1.1.1.1 in
    let same = c.functions-functions.ensures in
    let f = c.index-functions-site.result in
    let i = c.args.site.callee in
    let within = site_within m conv g.t fs names facts planned i (called_name (callee_at g.D.InliningDialect.callee u c.args.site.call)) (called_there g.D.InliningDialect.callee u names c.args.site site) in
    let at_f = read_at c.functions-functions.result.now fs i f same within c.index-functions-site.is in
    let k = c.index-functions-place.result in
    let at_k = read_at c.functions-functions.result.now fs c.args.place k same place c.index-functions-place.is in
    function_live m conv g.t fs names facts planned u callees way k (in_slice fs c.args.place k at_k)

pub admits-requires-clause-callee : goal.admits-requires-clause-callee
admits-requires-clause-callee g c =
    let m = g.D.HasMeaning.meaning in
    let conv = g.D.InliningDialect.convention in
    let u = c.args.ctx.now.tree in
    let fs = c.args.plan.now.table.now.functions in
    let names = names_of c.args.plan.now.table.now.names in
    let facts = c.args.plan.now.facts.now in
    let callees = callees_in c.args.progress.now.done.calls.items in
    let planned = c.requires.1.1.1.1.0 in
    let way = c.requires.1.1.1.1.1.0 in
    let place = c.requires.1.1.1.1.1.1.1.0 in
    let site = c.requires.1.1.1.1.1.1.1.1 in
    let same = c.functions-functions.ensures in
    let f = c.index-functions-site.result in
    let i = c.args.site.callee in
    let within = site_within m conv g.t fs names facts planned i (called_name (callee_at g.D.InliningDialect.callee u c.args.site.call)) (called_there g.D.InliningDialect.callee u names c.args.site site) in
    let at_f = read_at c.functions-functions.result.now fs i f same within c.index-functions-site.is in
    function_live m conv g.t fs names facts planned u callees way f (in_slice fs i f at_f)

pub inline_one-requires : goal.inline_one-requires
inline_one-requires g c =
    let m = g.D.HasMeaning.meaning in
    let conv = g.D.InliningDialect.convention in
    let u = c.args.ctx.now.tree in
    let fs = c.args.plan.now.table.now.functions in
    let names = names_of c.args.plan.now.table.now.names in
    let facts = c.args.plan.now.facts.now in
    let callees = callees_in c.args.progress.now.done.calls.items in
    let planned = c.requires.1.1.1.1.0 in
    let way = c.requires.1.1.1.1.1.0 in
    let place = c.requires.1.1.1.1.1.1.1.0 in
    let site = c.requires.1.1.1.1.1.1.1.1 in
    let same = c.functions-functions.ensures in
    let f = c.index-functions-site.result in
    let i = c.args.site.callee in
    let within = site_within m conv g.t fs names facts planned i (called_name (callee_at g.D.InliningDialect.callee u c.args.site.call)) (called_there g.D.InliningDialect.callee u names c.args.site site) in
    let at_f = read_at c.functions-functions.result.now fs i f same within c.index-functions-site.is in
    let called = called_by g.D.InliningDialect.callee u names c.args.site site in
    let fit = callee_fit m conv g.t fs names facts planned u callees way i f at_f c.in-Some.ensures in
    search rules

pub returns-in_err-inline_one-clause-refused : goal.returns-in_err-inline_one-clause-refused
returns-in_err-inline_one-clause-refused g c =
    let m = g.D.HasMeaning.meaning in
    let conv = g.D.InliningDialect.convention in
    let u = c.args.ctx.now.tree in
    let fs = c.args.plan.now.table.now.functions in
    let names = names_of c.args.plan.now.table.now.names in
    let facts = c.args.plan.now.facts.now in
    let callees = callees_in c.args.progress.now.done.calls.items in
    let planned = c.requires.1.1.1.1.0 in
    let way = c.requires.1.1.1.1.1.0 in
    let place = c.requires.1.1.1.1.1.1.1.0 in
    let site = c.requires.1.1.1.1.1.1.1.1 in
    let same = c.functions-functions.ensures in
    let f = c.index-functions-site.result in
    let i = c.args.site.callee in
    let within = site_within m conv g.t fs names facts planned i (called_name (callee_at g.D.InliningDialect.callee u c.args.site.call)) (called_there g.D.InliningDialect.callee u names c.args.site site) in
    let at_f = read_at c.functions-functions.result.now fs i f same within c.index-functions-site.is in
    let v = c.inline_one.new.ctx.tree in
    let symbol = called_name (callee_at g.D.InliningDialect.callee u c.args.site.call) in
    let fit = first_fit m conv g.t fs names facts planned i f at_f c.in-Some.ensures in
    let named = planned.named i f symbol at_f (called_there g.D.InliningDialect.callee u names c.args.site site) in
    on_err_of c.from_residual.result (callees ++ f ∷ [], one_more m conv g.t u v callees way.inlined f symbol fit named c.in_err-inline_one.ensures.refused)

pub returns-then-not-branch-clause-under_way : goal.returns-then-not-branch-clause-under_way
returns-then-not-branch-clause-under_way g c =
    let m = g.D.HasMeaning.meaning in
    let conv = g.D.InliningDialect.convention in
    let u = c.args.ctx.now.tree in
    let fs = c.args.plan.now.table.now.functions in
    let names = names_of c.args.plan.now.table.now.names in
    let facts = c.args.plan.now.facts.now in
    let callees = callees_in c.args.progress.now.done.calls.items in
    let planned = c.requires.1.1.1.1.0 in
    let way = c.requires.1.1.1.1.1.0 in
    let place = c.requires.1.1.1.1.1.1.1.0 in
    let site = c.requires.1.1.1.1.1.1.1.1 in
    let same = c.functions-functions.ensures in
    let f = c.index-functions-site.result in
    let i = c.args.site.callee in
    let within = site_within m conv g.t fs names facts planned i (called_name (callee_at g.D.InliningDialect.callee u c.args.site.call)) (called_there g.D.InliningDialect.callee u names c.args.site site) in
    let at_f = read_at c.functions-functions.result.now fs i f same within c.index-functions-site.is in
    let v = c.inline_one.new.ctx.tree in
    let kept = match_false _ _ c.in_ok-inline_one.field-0 c.if-not-branch.true c.in_ok-inline_one.ensures.inlined in
    next_way m conv g.t fs names facts planned u callees way v callees (as_many m conv g.t u v callees way.inlined kept) c.inline_one.ensures.symbols

pub note-requires-clause-callee : goal.note-requires-clause-callee
note-requires-clause-callee g c =
    let m = g.D.HasMeaning.meaning in
    let conv = g.D.InliningDialect.convention in
    let u = c.args.ctx.now.tree in
    let fs = c.args.plan.now.table.now.functions in
    let names = names_of c.args.plan.now.table.now.names in
    let facts = c.args.plan.now.facts.now in
    let callees = callees_in c.args.progress.now.done.calls.items in
    let planned = c.requires.1.1.1.1.0 in
    let way = c.requires.1.1.1.1.1.0 in
    let place = c.requires.1.1.1.1.1.1.1.0 in
    let site = c.requires.1.1.1.1.1.1.1.1 in
    let same = c.functions-functions.ensures in
    let f = c.index-functions-site.result in
    let i = c.args.site.callee in
    let within = site_within m conv g.t fs names facts planned i (called_name (callee_at g.D.InliningDialect.callee u c.args.site.call)) (called_there g.D.InliningDialect.callee u names c.args.site site) in
    let at_f = read_at c.functions-functions.result.now fs i f same within c.index-functions-site.is in
    let sizes = c.requires.1.1.1.1.1.1.0 in
    omega (arith, within, sizes)

pub returns-clause-under_way : goal.returns-clause-under_way
returns-clause-under_way g c =
    let m = g.D.HasMeaning.meaning in
    let conv = g.D.InliningDialect.convention in
    let u = c.args.ctx.now.tree in
    let fs = c.args.plan.now.table.now.functions in
    let names = names_of c.args.plan.now.table.now.names in
    let facts = c.args.plan.now.facts.now in
    let callees = callees_in c.args.progress.now.done.calls.items in
    let planned = c.requires.1.1.1.1.0 in
    let way = c.requires.1.1.1.1.1.0 in
    let place = c.requires.1.1.1.1.1.1.1.0 in
    let site = c.requires.1.1.1.1.1.1.1.1 in
    let same = c.functions-functions.ensures in
    let f = c.index-functions-site.result in
    let i = c.args.site.callee in
    let within = site_within m conv g.t fs names facts planned i (called_name (callee_at g.D.InliningDialect.callee u c.args.site.call)) (called_there g.D.InliningDialect.callee u names c.args.site site) in
    let at_f = read_at c.functions-functions.result.now fs i f same within c.index-functions-site.is in
    let v = c.inline_one.new.ctx.tree in
    let symbol = called_name (callee_at g.D.InliningDialect.callee u c.args.site.call) in
    let fit = first_fit m conv g.t fs names facts planned i f at_f c.in-Some.ensures in
    let named = planned.named i f symbol at_f (called_there g.D.InliningDialect.callee u names c.args.site site) in
    let kept = match_true _ _ c.in_ok-inline_one.field-0 c.if-not-branch.false c.in_ok-inline_one.ensures.inlined in
    let inlined = one_more m conv g.t u v callees way.inlined f symbol fit named kept in
    let next = next_way m conv g.t fs names facts planned u callees way v (callees ++ f ∷ []) inlined c.inline_one.ensures.symbols in
    on_ok_weaker c.note.result (λ e. subst (IsUnderWay m conv g.t v fs) (sym e) next) c.note.ensures.done

pub returns-clause-refused : goal.returns-clause-refused
returns-clause-refused g c =
    let m = g.D.HasMeaning.meaning in
    let conv = g.D.InliningDialect.convention in
    let u = c.args.ctx.now.tree in
    let fs = c.args.plan.now.table.now.functions in
    let names = names_of c.args.plan.now.table.now.names in
    let facts = c.args.plan.now.facts.now in
    let callees = callees_in c.args.progress.now.done.calls.items in
    let planned = c.requires.1.1.1.1.0 in
    let way = c.requires.1.1.1.1.1.0 in
    let place = c.requires.1.1.1.1.1.1.1.0 in
    let site = c.requires.1.1.1.1.1.1.1.1 in
    let same = c.functions-functions.ensures in
    let f = c.index-functions-site.result in
    let i = c.args.site.callee in
    let within = site_within m conv g.t fs names facts planned i (called_name (callee_at g.D.InliningDialect.callee u c.args.site.call)) (called_there g.D.InliningDialect.callee u names c.args.site site) in
    let at_f = read_at c.functions-functions.result.now fs i f same within c.index-functions-site.is in
    let v = c.inline_one.new.ctx.tree in
    let symbol = called_name (callee_at g.D.InliningDialect.callee u c.args.site.call) in
    let fit = first_fit m conv g.t fs names facts planned i f at_f c.in-Some.ensures in
    let named = planned.named i f symbol at_f (called_there g.D.InliningDialect.callee u names c.args.site site) in
    let kept = match_true _ _ c.in_ok-inline_one.field-0 c.if-not-branch.false c.in_ok-inline_one.ensures.inlined in
    let inlined = one_more m conv g.t u v callees way.inlined f symbol fit named kept in
    on_err_of c.note.result (callees ++ f ∷ [], inlined)
