use Rattle.std.proofs.Common.{◌≡◌, length, vec_len}
use Rattle.pliron_graph_calls.specs.Names.{names_of}
use Rattle.pliron_opt_inline.specs.Module.{callees_in}
use Rattle.pliron_opt_inline.specs.Turns.{IsUnderWay, AreApartSites}
use Rattle.pliron_opt_inline.proofs.inlining.inline_in.Given as goal

abbrev pub ghost-inline_site : goal.ghost-inline_site
ghost-inline_site g a = g.t

abbrev pub invariant-loop-site : goal.invariant-loop-site
invariant-loop-site g l = record {
  under_way : IsUnderWay g.D.HasMeaning.meaning g.D.InliningDialect.convention g.t l.ctx.tree l.plan.table.now.functions (callees_in l.progress.done.calls.items);
  sizes : vec_len l.progress.sizes ≡ length l.plan.table.now.functions;
  sites : AreApartSites g.D.InliningDialect.callee l.ctx.tree (names_of l.plan.table.now.names) l.sites.items;
  point : g.R.Rewriter.point l.rewriter ≡ g.R.Rewriter.point l.fn.rewriter;
}

abbrev pub decreases-loop-site : goal.decreases-loop-site
decreases-loop-site g l = vec_len l.sites
