use Rattle.std.proofs.Common.{◌≡◌, vec_len}
use Rattle.pliron_core.specs.declared.attrs.IRStatus.TheVariants.{Unchanged}
use Rattle.pliron_theory.specs.Change.{IsPassChange}
use Rattle.pliron_opts_tests.proofs.docs.erasing.erase_each.Given as goal

abbrev pub invariant-loop-last : goal.invariant-loop-last
invariant-loop-last g l = record {
  change : IsPassChange g.D.HasMeaning.meaning l.fn.ctx.tree l.ctx.tree l.root;
  same : l.changed ≡ Unchanged → l.ctx.tree ≡ l.fn.ctx.tree;
}

abbrev pub decreases-loop-last : goal.decreases-loop-last
decreases-loop-last g l = vec_len l.inside
