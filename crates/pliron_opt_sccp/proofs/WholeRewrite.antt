-- A tree is rewritten by what was found of it.
use Rattle.std.proofs.Common.{◌≡◌, inl, inr, ℕ, Bool, List, Some, map, sym, ap, ◌∙◌, subst}
use Rattle.pliron_core.specs.declared.attrs.AttrObj.{AttrObj}
use Rattle.pliron_core.specs.declared.attrs.IRStatus.{IRStatus}
use Rattle.pliron_core.specs.declared.attrs.IRStatus.TheVariants.{Changed, Unchanged}
use Rattle.pliron_core.specs.Tree.{Tree}
use Rattle.pliron_core.specs.Invariant.{IsTree}
use Rattle.pliron_core.proofs.TreeLemmas.{live_dead}
use Rattle.pliron_laws.specs.Datum.{Head}
use Rattle.pliron_laws.specs.InPlace.{Outcome, ReportsChange}
use Rattle.pliron_opt_sccp.specs.declared.rewrite.Folds.{Folds}
use Rattle.pliron_opt_sccp.specs.declared.rewrite.ConstantArgument.{ConstantArgument}
use Rattle.pliron_opt_sccp.specs.declared.rewrite.Replacements.{Replacements}
use Rattle.pliron_theory.specs.LatticeValues.{LatticeValues, Says}
use Rattle.pliron_theory.specs.Following.{Follows}
use Rattle.pliron_opt_sccp.specs.RewriteSteps.{AreFoldSteps, AreArgumentSteps, IsFound, ReportsCreated, AreKnownArguments}
use Rattle.pliron_opt_sccp.specs.Chain.{FoldsInTurn, FoldsPartly, KnownArgument, folding_operations, known_arguments, all_put, IsPartlyPut, IsRewrittenByConstants, IsPartlyRewritten}
use Rattle.pliron_theory.proofs.FollowedFacts.{started}

pub told_change : (t u : Tree) (status : IRStatus) → ReportsCreated status t u → ReportsChange (Some status) t u
told_change t u Unchanged same = same
told_change t u Changed (k, none, live) = λ same. live_dead u k live (ap (λ z. z.head) (same.operations k) ∙ none)

module _ (x : Says) (can_fold : Head → Bool) (t : Tree) (root : ℕ) (f : LatticeValues) (found : Replacements) (w : IsTree t) (i : IsFound x can_fold t root f found) where
  pub found_folds : (folds : Folds) → folds ≡ found.folds → AreFoldSteps x t root f t folds
  found_folds folds e = subst (AreFoldSteps x t root f t) (sym e) (record { first = w; follows = started x t root f w i.closed i.held; each = i.each_fold })

  pub found_arguments : (u : Tree) → Follows x t root f u → (arguments : List ConstantArgument) → arguments ≡ found.arguments.items → AreArgumentSteps x t root f u arguments
  found_arguments u g arguments e = subst (AreArgumentSteps x t root f u) (sym e) (record { first = w; follows = g; each = i.each_argument })

  ops_are : (folds : Folds) → folds ≡ found.folds → map (λ fold. fold.op) folds.rows.items ≡ folding_operations can_fold t root f
  ops_are folds e = ap (λ z. map (λ fold. fold.op) z.rows.items) e ∙ i.folds

  stand_for : (arguments : List ConstantArgument) → arguments ≡ found.arguments.items → AreKnownArguments t arguments (known_arguments t root f)
  stand_for arguments e = subst (λ z. AreKnownArguments t z (known_arguments t root f)) (sym e) i.arguments

  module _ (accepts : AttrObj → Bool) (head : AttrObj → Head) (outcome : Outcome) (folds : Folds) (same : folds ≡ found.folds) where
    pub broken_folding : (u : Tree) → FoldsPartly outcome t f (map (λ fold. fold.op) folds.rows.items) t u → IsPartlyRewritten can_fold accepts head outcome t root f u
    broken_folding u p = inl (subst (λ ks. FoldsPartly outcome t f ks t u) (ops_are folds same) p)

    module _ (folded : Tree) (turns : FoldsInTurn outcome t f (map (λ fold. fold.op) folds.rows.items) t folded) (arguments : List ConstantArgument) (also : arguments ≡ found.arguments.items) where
      pub broken_putting : (u : Tree) → ((known : List KnownArgument) → AreKnownArguments t arguments known → IsPartlyPut accepts head known folded u) → IsPartlyRewritten can_fold accepts head outcome t root f u
      broken_putting u p = inr (folded, subst (λ ks. FoldsInTurn outcome t f ks t folded) (ops_are folds same) turns, p (known_arguments t root f) (stand_for arguments also))

      pub all_rewritten : (u : Tree) → ((known : List KnownArgument) → AreKnownArguments t arguments known → u ≡ all_put accepts head known folded) → IsRewrittenByConstants can_fold accepts head outcome t root f u
      all_rewritten u p = record { folded = folded; folds = subst (λ ks. FoldsInTurn outcome t f ks t folded) (ops_are folds same) turns; arguments = p (known_arguments t root f) (stand_for arguments also) }
