use Rattle.std.proofs.Common.{◌≡◌, ◌<◌, ℕ, length, vec_len}
use Rattle.std.specs.List.{Contains}
use Rattle.pliron_graph_components.specs.declared.components.Scc.{Scc}
use Rattle.pliron_opt_inline.specs.Module.{callees_in}
use Rattle.pliron_opt_inline.specs.Turns.{IsUnderWay}
use Rattle.pliron_opt_inline.proofs.inlining.inline_bottom_up.Given as goal

abbrev pub ghost-inline_in_all : goal.ghost-inline_in_all
ghost-inline_in_all g a = g.t

abbrev pub invariant-loop-component : goal.invariant-loop-component
invariant-loop-component g l = record {
  under_way : IsUnderWay g.D.HasMeaning.meaning g.D.InliningDialect.convention g.t l.ctx.tree l.plan.table.now.functions (callees_in l.progress.done.calls.items);
  sizes : vec_len l.progress.sizes ≡ length l.plan.table.now.functions;
  nodes : (c : Scc ℕ) (v : ℕ) → Contains l.components.items c → Contains c.nodes.items v → v < length l.plan.table.now.functions;
  point : g.R.Rewriter.point l.rewriter ≡ g.R.Rewriter.point l.fn.rewriter;
}

abbrev pub decreases-loop-component : goal.decreases-loop-component
decreases-loop-component g l = vec_len l.components
