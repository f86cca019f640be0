use Rattle.std.proofs.Common.{◌≡◌, Some, length, refl, subst, arith}
use Rattle.std.specs.List.{slice_get}
use Rattle.std.proofs.lemmas.List.{length-map}
use Rattle.std.proofs.lemmas.Option.{slice_get_read}
use Rattle.pliron_core.specs.Walks.{children}
use Rattle.pliron_laws.specs.Datum.{datum_of}
use Rattle.pliron_graph_calls.specs.Names.{names_of}
use Rattle.pliron_opt_inline.proofs.ModuleLemmas.{site_places}
use Rattle.pliron_opt_inline.proofs.facts.call_counts.Goals as goal

pub index-requires : goal.index-requires
index-requires g c =
    let t = c.args.ctx.now.tree in
    let table = c.args.table.now in
    let items = c.deref-site-items.result.now in
    let i = c.loop-site.site-index in
    let s = c.site-item.result in
    let at = subst (λ xs. slice_get xs i ≡ Some s) c.deref-site-items.ensures.value (slice_get_read items (length items) i s refl c.loop-site-test.true c.site-item.is) in
    let lt = site_places g.D.InliningDialect.callee t (names_of table.names) (children t c.function-item.result) c.in_ok-sites.sites.items c.in_ok-sites.ensures.calls i s at in
    let names = length-map table.names datum_of in
    let functions = c.requires.names in
    let long = c.loop-site.invariant in
    omega (arith, lt, names, functions, long)

pub index_mut-requires : goal.index_mut-requires
index_mut-requires g c =
    let t = c.args.ctx.now.tree in
    let table = c.args.table.now in
    let items = c.deref-site-items.result.now in
    let i = c.loop-site.site-index in
    let s = c.site-item.result in
    let at = subst (λ xs. slice_get xs i ≡ Some s) c.deref-site-items.ensures.value (slice_get_read items (length items) i s refl c.loop-site-test.true c.site-item.is) in
    let lt = site_places g.D.InliningDialect.callee t (names_of table.names) (children t c.function-item.result) c.in_ok-sites.sites.items c.in_ok-sites.ensures.calls i s at in
    let names = length-map table.names datum_of in
    let functions = c.requires.names in
    let long = c.loop-site.invariant in
    omega (arith, lt, names, functions, long)
