-- What an operation without regions uses is live after the operation was erased.
use Rattle.std.proofs.Common.{◌≡◌, ◌↔◌, ⊎_elim, ℕ, Bool, true, false, not, true≢false, IsTrue, List, [], ◌∷◌, length, Option, Some, None, slice_get, refl, sym, ap, ◌∙◌, subst}
use Rattle.pliron_core.specs.declared.context.Def.{Def}
use Rattle.pliron_core.specs.declared.context.Def.TheVariants.{Result, Argument}
use Rattle.pliron_core.specs.Erased.{after_erasing, IsSelfContained}
use Rattle.pliron_core.specs.Invariant.{IsTree}
use Rattle.pliron_core.specs.Tree.{Tree, In, IsLive, IsMadeBy, IsDefined, arguments_of, block_parent_operation_of, definition_of, operands_of, regions_of, results_of}
use Rattle.pliron_core.proofs.ClearedLemmas.{met_above}
use Rattle.pliron_core.proofs.HoldingLemmas.{in_slice}
use Rattle.pliron_core.proofs.WithinLemmas.{within_is}
use Rattle.pliron_laws.proofs.ConstantLemmas.{insideless, blockless}
use Rattle.pliron_theory.specs.Edges.{has_entries, has_regions}
use Rattle.pliron_theory.proofs.ErasedKeeps.{op_erased, block_erased_with, erased_swept}
use Rattle.pliron_opt_dce.proofs.LeafLemmas.{none_there}
use Rattle.pliron_opt_dce.specs.Readiness.{HaveNoUse}

-- what was told to have no regions has none
pub regionless : (t : Tree) (op : ℕ) (had : Bool) → (IsTrue had ↔ IsTrue (has_regions t op)) → IsTrue (not had) → length (regions_of t op) ≡ 0
regionless t op had reported lacks = go (regions_of t op) had reported lacks
  where
    go : (rs : List ℕ) (had : Bool) → (IsTrue had ↔ IsTrue (has_entries rs)) → IsTrue (not had) → length rs ≡ 0
    go [] had reported lacks = refl
    go (r ∷ rs) true reported lacks = absurd (true≢false (sym lacks))
    go (r ∷ rs) false reported lacks = absurd (true≢false (sym (reported.1 refl)))

module _ (t : Tree) (w : IsTree t) (op : ℕ) (w' : IsTree (after_erasing t op)) (live : IsLive t op) (contained : IsSelfContained t op) (unused : HaveNoUse t op) (few : length (regions_of t op) ≡ 0) where
  none : regions_of t op ≡ []
  none = none_there (regions_of t op) few

  pub operand_lives : (v : ℕ) → In v (operands_of t op) → IsDefined (after_erasing t op) v
  operand_lives v i = go (definition_of t v) (w.joined.operands op v i)
    where
      result : (q n : ℕ) → slice_get (results_of t q) n ≡ Some v → (b : Bool) → op_erased t op q ≡ b → IsDefined (after_erasing t op) v
      result q n m true dead = absurd (⊎_elim (λ s. unused v op (subst (λ z. In v (results_of t z)) s (in_slice (results_of t q) n v m)) i) (λ y. insideless t w op q none y) (within_is t op q dead))
      result q n m false alive =
          let at : slice_get (results_of (after_erasing t op) q) n ≡ Some v = ap (λ r. slice_get r.results n) ((erased_swept t op w live contained).rows q alive) ∙ m in
          subst (IsMadeBy (after_erasing t op) v) (sym (w'.joined.results q n v at)) at

      argument : (b n : ℕ) → slice_get (arguments_of t b) n ≡ Some v → (e : Bool) → block_erased_with t op b ≡ e → IsDefined (after_erasing t op) v
      argument b n m true dead = absurd (blockless t w op b none (met_above t op (block_parent_operation_of t b) dead))
      argument b n m false alive =
          let at : slice_get (arguments_of (after_erasing t op) b) n ≡ Some v = ap (λ xs. slice_get xs n) ((erased_swept t op w live contained).arguments b alive) ∙ m in
          subst (IsMadeBy (after_erasing t op) v) (sym (w'.joined.arguments b n v at)) at

      go : (d : Option Def) → IsMadeBy t v d → IsDefined (after_erasing t op) v
      go None m = absurd m
      go (Some (Result q n)) m = result q n m (op_erased t op q) refl
      go (Some (Argument b n)) m = argument b n m (block_erased_with t op b) refl
