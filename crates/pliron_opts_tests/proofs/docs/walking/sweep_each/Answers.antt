use Rattle.std.proofs.Common.{sym, ◌∙◌}
use Rattle.pliron_dialect_bench.specs.BenchMoves.{bench}
use Rattle.pliron_theory.proofs.ChangeLemmas.{change_trans}
use Rattle.pliron_pass_rewrites.proofs.StatusLemmas.{unchanged_by_both}
use Rattle.pliron_opts_tests.proofs.docs.walking.sweep_each.Goals as goal

pub returns-in_err-sweep_held-clause-change : goal.returns-in_err-sweep_held-clause-change
returns-in_err-sweep_held-clause-change c =
    change_trans bench c.args.ctx.now.tree c.loop-inner.ctx.tree c.sweep_held.new.ctx.tree c.args.op c.loop-inner.invariant.change c.in_err-sweep_held.ensures.change

pub loop-inner-preserved : goal.loop-inner-preserved
loop-inner-preserved c = record {
  change = change_trans bench c.args.ctx.now.tree c.loop-inner.ctx.tree c.sweep_held.new.ctx.tree c.args.op c.loop-inner.invariant.change c.in_ok-sweep_held.ensures.change;
  same = λ e.
      let both = unchanged_by_both c.loop-inner.changed c.in_ok-sweep_held.field-0 (sym c.bitor_assign.ensures.after ∙ e) in
      c.in_ok-sweep_held.ensures.same both.1 ∙ c.loop-inner.invariant.same both.0;
}
