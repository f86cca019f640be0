use Rattle.std.proofs.Common.{◌≡◌, ◌<◌, ◌∷◌, ◌++◌, [], ℕ, List, Some, length, refl, sym, ap, ◌∙◌, subst, arith, rules}
use Rattle.pliron_core.specs.Walks.{children}
use Rattle.pliron_core.proofs.HoldingLemmas.{in_slice}
use Rattle.pliron_core.proofs.WalkLemmas.{distinct-children}
use Rattle.pliron_graph_calls.specs.Names.{names_of}
use Rattle.pliron_opt_inline.specs.Module.{callees_in}
use Rattle.pliron_opt_inline.specs.Turns.{AreApartSites}
use Rattle.pliron_opt_inline.proofs.ModuleLemmas.{read_at, function_live, apart_sites, last_site, sites_left}
use Rattle.pliron_opt_inline.proofs.inlining.inline_in.Goals as goal

pub call_sites-requires : goal.call_sites-requires
call_sites-requires g c =
    let fs = c.args.plan.now.table.now.functions in
    let k = c.index-functions-place.result in
    let at_k = read_at c.functions.result.now fs c.args.place k c.functions.ensures c.requires.1.1.1.1.1.1.1 c.index-functions-place.is in
    function_live g.D.HasMeaning.meaning g.D.InliningDialect.convention g.t fs (names_of c.args.plan.now.table.now.names) c.args.plan.now.facts.now c.requires.1.1.1.1.0 c.args.ctx.now.tree (callees_in c.args.progress.now.done.calls.items) c.requires.1.1.1.1.1.0 k (in_slice fs c.args.place k at_k)

pub loop-site-init : goal.loop-site-init
loop-site-init g c = record {
  under_way = c.requires.1.1.1.1.1.0;
  sizes = c.requires.1.1.1.1.1.1.0;
  sites = apart_sites g.D.InliningDialect.callee c.args.ctx.now.tree (names_of c.args.plan.now.table.now.names) (children c.args.ctx.now.tree c.index-functions-place.result) c.in_ok-sites.sites.items c.in_ok-sites.ensures.calls (distinct-children c.args.ctx.now.tree c.well_formed-2.ensures.tree c.index-functions-place.result);
  point = refl;
}

pub inline_site-requires : goal.inline_site-requires
inline_site-requires g c =
    let callee = g.D.InliningDialect.callee in
    let u = c.loop-site.ctx.tree in
    let names = names_of c.args.plan.now.table.now.names in
    let e : c.loop-site.sites.items ≡ c.pop.new.self.items ++ c.in-Some.site ∷ [] = search (rules, c.in-Some.ensures) in
    let planned = c.requires.1.1.1.1.0 in
    let place = c.requires.1.1.1.1.1.1.1 in
    let way = c.loop-site.invariant.under_way in
    let sizes = c.loop-site.invariant.sizes in
    let site = last_site callee u names c.pop.new.self.items c.in-Some.site (subst (AreApartSites callee u names) e c.loop-site.invariant.sites) in
    search rules

pub loop-site-preserved : goal.loop-site-preserved
loop-site-preserved g c =
    let callee = g.D.InliningDialect.callee in
    let u = c.loop-site.ctx.tree in
    let names = names_of c.args.plan.now.table.now.names in
    let e : c.loop-site.sites.items ≡ c.pop.new.self.items ++ c.in-Some.site ∷ [] = search (rules, c.in-Some.ensures) in
    record {
      under_way = c.in_ok-inline_site.ensures.under_way;
      sizes = c.inline_site.ensures.sizes;
      sites = sites_left callee u names c.pop.new.self.items c.in-Some.site (subst (AreApartSites callee u names) e c.loop-site.invariant.sites) c.inline_site.new.ctx.tree c.inline_site.ensures.heads;
      point = c.inline_site.ensures.point ∙ c.loop-site.invariant.point;
    }
