-- Lists that are copied item by item, by what comes next.
use Rattle.std.proofs.Common.{◌≡◌, ℕ, List, [], ◌∷◌, ◌++◌, Option, Some, None, sym, ap, ◌∙◌, append_assoc, append-nil}
use Rattle.pliron_core.specs.Tree.{Tree, In, IsDistinct, IsWithin, next_in, first_of}
use Rattle.pliron_core.specs.Invariant.{IsTree}
use Rattle.pliron_core.specs.Walks.{preorder}
use Rattle.pliron_core.specs.WalkSteps.{rest_from}
use Rattle.pliron_core.proofs.NextLemmas.{rest_from-first, rest_from-step}
use Rattle.pliron_core.proofs.WalkLemmas.{In-preorder, distinct-preorder}

pub copied_next : (xs before old new : List ℕ) (y : ℕ) (o : Option ℕ) → IsDistinct xs → In y xs → o ≡ next_in y xs → old ++ rest_from (Some y) xs ≡ before ++ xs → new ≡ old ++ y ∷ [] → new ++ rest_from o xs ≡ before ++ xs
copied_next xs before old new y o d i e is push =
    ap (λ z. z ++ rest_from o xs) push ∙ append_assoc old (y ∷ []) (rest_from o xs) ∙ ap (λ z. old ++ z) (sym (rest_from-step xs y o d i e)) ∙ is

pub copied_first : (xs before : List ℕ) (o : Option ℕ) → o ≡ first_of xs None → before ++ rest_from o xs ≡ before ++ xs
copied_first [] before o e = ap (λ z. before ++ rest_from z []) e
copied_first (x ∷ xs) before o e = ap (λ z. before ++ rest_from z (x ∷ xs)) e ∙ ap (λ z. before ++ z) (rest_from-first x xs)

pub copied_all : (xs before old : List ℕ) (o : Option ℕ) → o ≡ None → old ++ rest_from o xs ≡ before ++ xs → old ≡ before ++ xs
copied_all xs before old o e is = sym (append-nil old) ∙ ap (λ z. old ++ rest_from z xs) (sym e) ∙ is

module _ (t : Tree) (w : IsTree t) (root : ℕ) where
  pub contents_next : (before old new : List ℕ) (y : ℕ) (o : Option ℕ) → IsWithin t root y → o ≡ next_in y (preorder t root) → old ++ rest_from (Some y) (preorder t root) ≡ before ++ preorder t root → new ≡ old ++ y ∷ [] → new ++ rest_from o (preorder t root) ≡ before ++ preorder t root
  contents_next before old new y o within e is push = copied_next (preorder t root) before old new y o (distinct-preorder t w root) ((In-preorder t w root y).1 within) e is push
