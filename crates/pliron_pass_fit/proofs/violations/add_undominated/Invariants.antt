use Rattle.indexmap.specs.IndexMap.{get}
use Rattle.pliron_laws.specs.Tree.{is_one_key}
use Rattle.pliron_pass_fit.specs.Found.{AreViolations}
use Rattle.pliron_pass_fit.specs.Uses.{GiveRegions}
use Rattle.pliron_pass_fit.proofs.violations.add_undominated.Given as goal

abbrev pub invariant-loop-index : goal.invariant-loop-index
invariant-loop-index g l = record {
  gives : GiveRegions l.ctx.tree (λ r. get is_one_key l.search.trees.of_regions r);
  found : AreViolations g.D.HasMeaning.meaning l.ctx.tree l.root l.search.found.items;
}
