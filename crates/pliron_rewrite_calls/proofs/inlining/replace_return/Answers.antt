use Rattle.std.proofs.Common.{refl}
use Rattle.pliron_rewrite_calls.proofs.ReturnsLed.{end_bare}
use Rattle.pliron_rewrite_calls.proofs.inlining.replace_return.Goals as goal

pub replace_last-requires-clause-no_results : goal.replace_last-requires-clause-no_results
replace_last-requires-clause-no_results g c = (end_bare g.D.InliningDialect.returns c.args.ctx.now.tree c.args.block c.in-Some.last _ c.requires.bare c.in-Some.ensures.last c.in-Some.ensures.liveness c.if-not-is_return.ensures.reads refl).0

pub replace_last-requires-clause-no_regions : goal.replace_last-requires-clause-no_regions
replace_last-requires-clause-no_regions g c = (end_bare g.D.InliningDialect.returns c.args.ctx.now.tree c.args.block c.in-Some.last _ c.requires.bare c.in-Some.ensures.last c.in-Some.ensures.liveness c.if-not-is_return.ensures.reads refl).1
