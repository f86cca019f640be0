use Rattle.std.proofs.Common.{ℕ}
use Rattle.pliron_core.specs.Tree.{In, results_of}
use Rattle.pliron_core.proofs.ContainedLemmas.{ArePassed}
use Rattle.pliron_opt_rotate.proofs.covering.add_results.Given as goal

abbrev pub invariant-loop-i : goal.invariant-loop-i
invariant-loop-i l = record {
  kept : (v : ℕ) → In v l.fn.values.items → In v l.values.items;
  done : ArePassed (λ v. In v l.values.items) (results_of l.ctx.tree l.op) l.i;
}
