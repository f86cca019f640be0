use Rattle.std.proofs.Common.{◌≡◌, length, map, sym, ◌∙◌, subst}
use Rattle.std.specs.Prelude.{IfSome}
use Rattle.pliron_graph_traversal.specs.Adjacency.{Adjacency}
use Rattle.pliron_opt_symbols.specs.Kept.{symbol_reads}
use Rattle.pliron_opt_symbols.specs.Rows.{AreAtOnePlace, AreUnlisted}
use Rattle.pliron_opt_symbols.proofs.UnkeptLemmas.{table_once, table_unkept, table_erasable}
use Rattle.pliron_opt_symbols.proofs.erasing.unkept_among.Goals as goal

pub unreached_functions-requires : goal.unreached_functions-requires
unreached_functions-requires g c = subst AreAtOnePlace (sym c.functions.ensures)
    (table_once g.D.InliningDialect.convention (symbol_reads g.D.InliningDialect.callee (g.P.SymbolPolicy.is_private c.args.policy.now) (g.P.SymbolPolicy.is_traced c.args.policy.now)) c.args.ctx.now.tree c.well_formed-2.ensures.tree c.args.holder c.args.table.now c.requires.functions)

pub returns-clause-unkept : goal.returns-clause-unkept
returns-clause-unkept g c =
    let s = symbol_reads g.D.InliningDialect.callee (g.P.SymbolPolicy.is_private c.args.policy.now) (g.P.SymbolPolicy.is_traced c.args.policy.now) in
    let rows = map (λ r. r.items) c.in_ok-rows.rows.items in
    let edges : c.in-Some.graph.succ ≡ rows = subst (λ o. IfSome o (λ (z : Adjacency). z.succ ≡ rows)) c.in-Some.is c.in_ok-graph.ensures.edges in
    let u = subst (λ xs. AreUnlisted xs c.in_ok-search.search.pre (length xs) c.in_ok-gone.gone.items) c.functions.ensures c.in_ok-gone.ensures.gone in
    table_unkept g.D.InliningDialect.convention s c.args.ctx.now.tree c.well_formed-2.ensures.tree c.args.holder c.args.table.now c.requires.functions rows c.in_ok-rows.ensures.rows c.in-Some.graph edges c.in_ok-search.search.pre c.in_ok-gone.gone.items c.in_ok-search.ensures.search.pre_listed u

pub returns-clause-erasable : goal.returns-clause-erasable
returns-clause-erasable g c =
    let s = symbol_reads g.D.InliningDialect.callee (g.P.SymbolPolicy.is_private c.args.policy.now) (g.P.SymbolPolicy.is_traced c.args.policy.now) in
    let rows = map (λ r. r.items) c.in_ok-rows.rows.items in
    let edges : c.in-Some.graph.succ ≡ rows = subst (λ o. IfSome o (λ (z : Adjacency). z.succ ≡ rows)) c.in-Some.is c.in_ok-graph.ensures.edges in
    let u = subst (λ xs. AreUnlisted xs c.in_ok-search.search.pre (length xs) c.in_ok-gone.gone.items) c.functions.ensures c.in_ok-gone.ensures.gone in
    table_erasable g.D.InliningDialect.convention s c.args.ctx.now.tree c.well_formed-2.ensures.tree c.args.holder c.args.table.now c.requires.functions rows c.in_ok-rows.ensures.rows c.in-Some.graph edges c.in_ok-search.search.pre c.in_ok-gone.gone.items c.in_ok-search.ensures.search.pre_listed u
