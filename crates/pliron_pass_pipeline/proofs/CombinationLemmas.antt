-- What the pass of rules makes of a tree, from what the call tells.
use Rattle.std.proofs.Common.{◌≡◌, ◌↔◌, ◌⊎◌, ℕ, zero, suc, List, length, Option, inl, inr, refl, sym, ap, ◌∙◌, subst}
use Rattle.pliron_core.specs.Tree.{Tree}
use Rattle.pliron_core.specs.Changes.{IsSameTree}
use Rattle.pliron_core.specs.declared.attrs.IRStatus.TheVariants.{Changed, Unchanged}
use Rattle.pliron_core.proofs.SameTreeLemmas.{same_refl}
use Rattle.pliron_opt_combine.specs.Rewrites.{Rewrite, RewriteInTurn, AreRewritten, HasRewrites}
use Rattle.pliron_opt_combine.specs.declared.CombineOutcome.{CombineOutcome}
use Rattle.pliron_opt_combine.specs.declared.Ending.{Ending}
use Rattle.pliron_opt_combine.specs.declared.Ending.TheVariants.{Finished, LimitReached}
use Rattle.pliron_rewrite_rules.specs.Tables.{RuleTables}
use Rattle.pliron_rewrite_rules.specs.declared.term.Term.{Term}
use Rattle.pliron_rewrite_rules.specs.declared.view.View.{View}
use Rattle.pliron_theory.specs.Edges.{KeepsEdges}
use Rattle.pliron_pass_pipeline.specs.Combination.{AppliesRules, IsCombined, effect_of_count, most_rewrites}
use Rattle.pliron_pass_pipeline.specs.Optimising.{IsAccurateAnswer}

-- what is made of the tree
pub applied : (x : RuleTables) (rules : View → Option Term) (root : ℕ) (t u : Tree) (c : CombineOutcome) (rs : List Rewrite) → RewriteInTurn x rules root rs t u → c.count ≡ length rs → (c.ending ≡ Finished → HasRewrites x rules u root → ⊥) → (c.ending ≡ LimitReached → c.count ≡ most_rewrites t root) → IsCombined x rules root t u (effect_of_count c.count)
applied x rules root t u c rs turn e none limit = record { rewrites = rs; in_turn = turn; reported = ap effect_of_count e; finished = go c.ending refl }
  where
    go : (ending : Ending) → c.ending ≡ ending → (length rs ≡ most_rewrites t root) ⊎ (HasRewrites x rules u root → ⊥)
    go Finished is = inr (none is)
    go LimitReached is = inl (sym e ∙ limit is)

-- what is reported is so
pub reported : (t u : Tree) (count : ℕ) → (count ≡ 0) ↔ (u ≡ t) → KeepsEdges t u → IsAccurateAnswer t u (effect_of_count count)
reported t u zero exact edges = record { same = λ e. subst (λ z. IsSameTree t z) (sym (exact.0 refl)) (same_refl t); edges = λ e. edges }
reported t u (suc n) exact edges = record { same = λ e. absurd (cc); edges = λ e. edges }
