use Rattle.std.proofs.Common.{◌≡◌, ◌∷◌, ℕ, Some, slice_get}
use Rattle.indexmap.specs.IndexMap.{get}
use Rattle.pliron_laws.specs.Tree.{is_one_key}
use Rattle.pliron_pass_fit.specs.Found.{AreViolations}
use Rattle.pliron_pass_fit.specs.Nesting.{IsWay}
use Rattle.pliron_pass_fit.specs.Uses.{GiveRegions}
use Rattle.pliron_pass_fit.proofs.violations.with_undominated.Given as goal

abbrev pub invariant-loop-op : goal.invariant-loop-op
invariant-loop-op g l = record {
  led : (x : ℕ) → slice_get (l.root ∷ l.inside) l.op-index ≡ Some x → IsWay l.ctx.tree l.root x l.way.keys;
  gives : GiveRegions l.ctx.tree (λ r. get is_one_key l.search.trees.of_regions r);
  found : AreViolations g.D.HasMeaning.meaning l.ctx.tree l.root l.search.found.items;
}
