use Rattle.std.proofs.Common.{◌≡◌, length, vec_len}
use Rattle.pliron_opt_inline.specs.Module.{callees_in}
use Rattle.pliron_opt_inline.specs.Turns.{IsUnderWay}
use Rattle.pliron_opt_inline.proofs.inlining.inline_in_all.Given as goal

abbrev pub ghost-inline_in : goal.ghost-inline_in
ghost-inline_in g a = g.t

abbrev pub invariant-loop-place : goal.invariant-loop-place
invariant-loop-place g l = record {
  under_way : IsUnderWay g.D.HasMeaning.meaning g.D.InliningDialect.convention g.t l.ctx.tree l.plan.table.now.functions (callees_in l.progress.done.calls.items);
  sizes : vec_len l.progress.sizes ≡ length l.plan.table.now.functions;
  point : g.R.Rewriter.point l.rewriter ≡ g.R.Rewriter.point l.fn.rewriter;
}
