-- What has no regions, and no result in use, is used nowhere.
use Rattle.std.proofs.Common.{◌≡◌, inl, inr, ℕ, List, [], ◌∷◌, length, Option, Some, None, slice_get, refl, sym, ◌∙◌, subst, arith}
use Rattle.pliron_core.specs.declared.context.Def.{Def}
use Rattle.pliron_core.specs.declared.context.Def.TheVariants.{Result, Argument}
use Rattle.pliron_core.specs.Tree.{Tree, In, IsMadeBy, IsDefinedWithin, definition_of, operands_of, regions_of, results_of}
use Rattle.pliron_core.specs.Invariant.{IsTree}
use Rattle.pliron_core.specs.Erased.{IsSelfContained}
use Rattle.pliron_core.proofs.HoldingLemmas.{maker_is, some_is, in_slice}
use Rattle.pliron_laws.proofs.ConstantLemmas.{insideless, blockless}
use Rattle.pliron_opt_dce.specs.Readiness.{HaveNoUse, AreOperandsWithin, AddsOperands}

pub none_there : (xs : List ℕ) → length xs ≡ 0 → xs ≡ []
none_there [] e = refl
none_there (x ∷ xs) e = absurd (omega (arith, e))

-- the operands of what has no regions are all those within it
pub leaf_operands : (t : Tree) → IsTree t → (k : ℕ) → length (regions_of t k) ≡ 0 → (old new : List ℕ) → AddsOperands t k old new → AreOperandsWithin t k new
leaf_operands t w k few old new adds user v (inl e) i = adds.added v (subst (λ c. In v (operands_of t c)) e i)
leaf_operands t w k few old new adds user v (inr inside) i = absurd (insideless t w k user (none_there (regions_of t k) few) inside)

pub leaf_contained : (t : Tree) → IsTree t → (k : ℕ) → length (regions_of t k) ≡ 0 → HaveNoUse t k → IsSelfContained t k
leaf_contained t w k few unused = record {
  values = λ x v i j. absurd (made x v i (definition_of t v) refl j);
  blocks = λ x b i q. absurd (blockless t w k b none q);
}
  where
    none : regions_of t k ≡ []
    none = none_there (regions_of t k) few

    made : (x v : ℕ) → In v (operands_of t x) → (d : Option Def) → definition_of t v ≡ d → IsDefinedWithin t k d → ⊥
    made x v i None e j = j
    made x v i (Some (Result q n)) e (inl s) =
        let y = maker_is t v (w.joined.operands x v i) in
        let f : y.0 ≡ Result q n = some_is (sym y.1 ∙ e) in
        let z : slice_get (results_of t q) n ≡ Some v = subst (λ c. IsMadeBy t v (Some c)) f y.2 in
        unused v x (subst (λ c. In v (results_of t c)) s (in_slice (results_of t q) n v z)) i
    made x v i (Some (Result q n)) e (inr y) = insideless t w k q none y
    made x v i (Some (Argument b n)) e j = blockless t w k b none j
