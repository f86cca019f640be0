-- What is left of a walk.
use Rattle.std.proofs.Common.{◌≡◌, ℕ, List, [], ◌∷◌, Option, Some, None, refl, sym, ap, ◌∙◌, inl, inr}
use Rattle.pliron_core.specs.Lists.{first_of, next_in}
use Rattle.pliron_core.specs.Tree.{Tree, IsInside, parent_operation_of}
use Rattle.pliron_core.specs.Invariant.{IsTree}
use Rattle.pliron_core.specs.Walks.{children, contents, preorder}
use Rattle.pliron_core.specs.WalkSteps.{rest_from}
use Rattle.pliron_core.proofs.NextLemmas.{rest_from-step, rest_from-first}
use Rattle.pliron_core.proofs.ReadLemmas.{In-first, In-next}
use Rattle.pliron_core.proofs.WalkLemmas.{In-children, distinct-children, In-preorder, distinct-preorder}

abbrev tail : List ℕ → List ℕ
tail [] = []
tail (x ∷ xs) = xs

module _ (t : Tree) (w : IsTree t) (op : ℕ) where
  -- from the operation after op on
  pub contents_left : (o : Option ℕ) → o ≡ next_in op (preorder t op) → rest_from o (preorder t op) ≡ contents t op
  contents_left o e =
      sym (ap tail (sym (rest_from-first op (contents t op)) ∙ rest_from-step (preorder t op) op o (distinct-preorder t w op) (inl refl) e))

  pub contents_step : (y : ℕ) (o : Option ℕ) → IsInside t op y → o ≡ next_in y (preorder t op) → rest_from (Some y) (preorder t op) ≡ y ∷ rest_from o (preorder t op)
  contents_step y o i e = rest_from-step (preorder t op) y o (distinct-preorder t w op) ((In-preorder t w op y).1 (inr i)) e

  pub children_left : (xs : List ℕ) (o : Option ℕ) → o ≡ first_of xs None → rest_from o xs ≡ xs
  children_left [] o e = ap (λ z. rest_from z []) e
  children_left (x ∷ xs) o e = ap (λ z. rest_from z (x ∷ xs)) e ∙ rest_from-first x xs

  pub children_step : (y : ℕ) (o : Option ℕ) → parent_operation_of t y ≡ Some op → o ≡ next_in y (children t op) → rest_from (Some y) (children t op) ≡ y ∷ rest_from o (children t op)
  children_step y o h e = rest_from-step (children t op) y o (distinct-children t w op) ((In-children t w y op).1 h) e

  pub first_held : (o : Option ℕ) → o ≡ first_of (children t op) None → (k : ℕ) → o ≡ Some k → parent_operation_of t k ≡ Some op
  first_held o e k s = (In-children t w k op).0 (In-first (children t op) k (sym e ∙ s))

  pub next_held : (y : ℕ) (o : Option ℕ) → o ≡ next_in y (children t op) → (k : ℕ) → o ≡ Some k → parent_operation_of t k ≡ Some op
  next_held y o e k s = (In-children t w k op).0 (In-next y (children t op) k (sym e ∙ s))
