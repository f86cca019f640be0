use Rattle.std.proofs.Common.{[], MatchOption, sym, subst}
use Rattle.std.specs.List.{All}
use Rattle.pliron_core.specs.Tree.{IsLive}
use Rattle.pliron_core.specs.Walks.{children}
use Rattle.pliron_core.proofs.WalkLemmas.{held_live, In-children}
use Rattle.pliron_graph_calls.specs.FunctionNames.{names_among, AreNamedFunctions}
use Rattle.pliron_graph_calls.specs.Namesakes.{HasNamesakes}
use Rattle.pliron_opt_inline.specs.Module.{AreInlined, callees_in}
use Rattle.pliron_opt_inline.proofs.OneCallLemmas.{on_err_of}
use Rattle.pliron_opt_inline.proofs.ModuleLemmas.{all_live, none_inlined}
use Rattle.pliron_opt_inline.proofs.inlining.inline_calls.Goals as goal

pub returns-in_err-table-clause-refused : goal.returns-in_err-table-clause-refused
returns-in_err-table-clause-refused g c = on_err_of c.from_residual.result ([], none_inlined g.D.HasMeaning.meaning g.D.InliningDialect.convention c.args.ctx.now.tree)

pub inline_among-requires-clause-live : goal.inline_among-requires-clause-live
inline_among-requires-clause-live g c =
    let conv = g.D.InliningDialect.convention in
    let t = c.args.ctx.now.tree in
    let w = c.well_formed-2.ensures.tree in
    let ks = children t c.args.holder in
    let named = subst (λ o. MatchOption o (HasNamesakes (names_among conv t ks)) (λ table. AreNamedFunctions conv t ks table)) c.in-Some.is c.in_ok-table.ensures.functions in
    subst (λ fs. All (λ f. IsLive t f) fs) (sym named.functions) (all_live conv t ks (λ k i. held_live t w k c.args.holder ((In-children t w k c.args.holder).0 i)))

pub returns-in-Some-clause-namesakes : goal.returns-in-Some-clause-namesakes
returns-in-Some-clause-namesakes g c = λ h.
    let conv = g.D.InliningDialect.convention in
    let t = c.args.ctx.now.tree in
    let ks = children t c.args.holder in
    let named = subst (λ o. MatchOption o (HasNamesakes (names_among conv t ks)) (λ table. AreNamedFunctions conv t ks table)) c.in-Some.is c.in_ok-table.ensures.functions in
    absurd (named.apart (subst HasNamesakes (sym named.names) h))

pub returns-in-None-clause-inlined : goal.returns-in-None-clause-inlined
returns-in-None-clause-inlined g c =
    let conv = g.D.InliningDialect.convention in
    let t = c.args.ctx.now.tree in
    subst (λ xs. AreInlined g.D.HasMeaning.meaning conv t t (callees_in xs)) (sym c.new.ensures.items) (none_inlined g.D.HasMeaning.meaning conv t)
