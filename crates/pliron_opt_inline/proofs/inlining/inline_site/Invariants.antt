use Rattle.pliron_graph_calls.specs.CallSites.{callee_at}
use Rattle.pliron_opt_inline.proofs.ModuleLemmas.{called_name}
use Rattle.pliron_opt_inline.proofs.inlining.inline_site.Given as goal

abbrev pub ghost-inline_one : goal.ghost-inline_one
ghost-inline_one g a = called_name (callee_at g.D.InliningDialect.callee a.ctx.now.tree a.call)
