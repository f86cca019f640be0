use Rattle.std.proofs.Common.{◌≡◌, ℕ, ◌<◌, take, Some, slice_get}
use Rattle.pliron_core.specs.Tree.{In, IsDefined, operands_of}
use Rattle.pliron_core.specs.Invariant.{IsTree}
use Rattle.pliron_theory.specs.Keeps.{KeepsAllRuns}
use Rattle.pliron_rewrite_loops.specs.Passing.{AreValuesPassed, KeepsPassing, KeepsBesides}
use Rattle.pliron_rewrite_loops.proofs.passing.pass_values.Given as goal

abbrev pub invariant-loop-i : goal.invariant-loop-i
invariant-loop-i g l = record {
  tree : IsTree l.ctx.tree;
  keeps : KeepsPassing g.D.HasMeaning.meaning l.fn.ctx.tree l.ctx.tree l.block l.values;
  besides : KeepsBesides g.D.HasMeaning.meaning l.fn.ctx.tree l.ctx.tree l.block l.users;
  defined : (v : ℕ) → IsDefined l.fn.ctx.tree v → IsDefined l.ctx.tree v;
  forth : KeepsAllRuns g.D.HasMeaning.meaning l.fn.ctx.tree l.ctx.tree;
  back : KeepsAllRuns g.D.HasMeaning.meaning l.ctx.tree l.fn.ctx.tree;
  passed : AreValuesPassed g.D.HasMeaning.meaning g.D.Dialect.shortened l.fn.ctx.tree l.ctx.tree l.block (take l.i l.values) l.users;
  unused : (k v j : ℕ) → j < l.i → slice_get l.values j ≡ Some v → In k l.users → In v (operands_of l.ctx.tree k) → ⊥;
}
