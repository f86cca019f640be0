use Rattle.std.proofs.Common.{◌≡◌}
use Rattle.pliron_dialect_bench.specs.BenchMoves.{bench}
use Rattle.pliron_core.specs.declared.attrs.IRStatus.TheVariants.{Unchanged}
use Rattle.pliron_theory.specs.Change.{IsPassChange}
use Rattle.pliron_opts_tests.proofs.docs.walking.sweep_each.Given as goal

abbrev pub invariant-loop-inner : goal.invariant-loop-inner
invariant-loop-inner l = record {
  change : IsPassChange bench l.fn.ctx.tree l.ctx.tree l.op;
  same : l.changed ≡ Unchanged → l.ctx.tree ≡ l.fn.ctx.tree;
}
