-- Walks over the operations inside an operation.
use Rattle.std.proofs.Common.{◌≡◌, ℕ, ◌+◌, ◌<◌, arith, length-append, List, [], ◌∷◌, ◌++◌, length, Option, Some, None, refl, sym, ap, ◌∙◌, subst, inl, inr, append_assoc, append-nil}
use Rattle.std.specs.Option.{ForSome}
use Rattle.pliron_core.specs.Lists.{next_in}
use Rattle.pliron_core.specs.Tree.{Tree, IsWithin}
use Rattle.pliron_core.specs.Invariant.{IsTree}
use Rattle.pliron_core.specs.Walks.{contents, preorder}
use Rattle.pliron_core.specs.WalkSteps.{rest_from}
use Rattle.pliron_core.proofs.NextLemmas.{rest_from-step, rest_from-first}
use Rattle.pliron_core.proofs.WalkLemmas.{In-preorder, distinct-preorder}
use Rattle.pliron_core.proofs.WalkStepLemmas.{next_inside}
use Rattle.pliron_pass.proofs.VerifyLemmas.{rest_smaller}

-- P holds of what the walk passed, and it goes on at `at`
pub record HasWalked (t : Tree) (op : ℕ) (P : List ℕ → Type 0) (at : Option ℕ) : Type 0 where
  pub passed : List ℕ
  pub split : contents t op ≡ passed ++ rest_from at (preorder t op)
  pub within : ForSome at (λ k. IsWithin t op k)
  pub done : P passed

module _ (t : Tree) (w : IsTree t) (op : ℕ) (P : List ℕ → Type 0) where
  pub walk_begins : (o : Option ℕ) → o ≡ next_in op (preorder t op) → P [] → HasWalked t op P o
  walk_begins o e p = record {
    passed = [];
    split = ap tail (sym (rest_from-first op (contents t op)) ∙ rest_from-step (preorder t op) op o (distinct-preorder t w op) (inl refl) e);
    within = λ k s. inr (next_inside t w op op k (sym e ∙ s));
    done = p;
  }
    where
      tail : List ℕ → List ℕ
      tail [] = []
      tail (x ∷ xs) = xs

  -- Q holds with one more passed
  pub walk_steps : (Q : List ℕ → Type 0) (y : ℕ) (o : Option ℕ) → o ≡ next_in y (preorder t op) → (h : HasWalked t op P (Some y)) → Q (h.passed ++ y ∷ []) → HasWalked t op Q o
  walk_steps Q y o e h p =
      let member = (In-preorder t w op y).1 (h.within y refl) in
      record {
        passed = h.passed ++ y ∷ [];
        split = h.split ∙ ap (λ z. h.passed ++ z) (rest_from-step (preorder t op) y o (distinct-preorder t w op) member e) ∙ sym (append_assoc h.passed (y ∷ []) (rest_from o (preorder t op)));
        within = λ k s. inr (next_inside t w op y k (sym e ∙ s));
        done = p;
      }

  pub walk_ends : HasWalked t op P None → P (contents t op)
  walk_ends h = subst P (sym (h.split ∙ append-nil h.passed)) h.done

  pub walk_shrinks : (y : ℕ) (o : Option ℕ) → o ≡ next_in y (preorder t op) → HasWalked t op P (Some y) → length (rest_from o (preorder t op)) < length (rest_from (Some y) (preorder t op))
  walk_shrinks y o e h = rest_smaller (preorder t op) y o (distinct-preorder t w op) ((In-preorder t w op y).1 (h.within y refl)) e

-- counting what is passed
module _ (t : Tree) (w : IsTree t) (op n y : ℕ) where
  pub counted_within : HasWalked t op (λ passed. n ≡ length passed) (Some y) → n < length (contents t op)
  counted_within h = let split = ap length h.split ∙ length-append h.passed (rest_from (Some y) (preorder t op)) in omega (arith, split, h.done)

  pub counted_more : (o : Option ℕ) → o ≡ next_in y (preorder t op) → HasWalked t op (λ passed. n ≡ length passed) (Some y) → HasWalked t op (λ passed. n + 1 ≡ length passed) o
  counted_more o e h =
      walk_steps t w op (λ passed. n ≡ length passed) (λ passed. n + 1 ≡ length passed) y o e h (let more = length-append h.passed (y ∷ []) in omega (arith, more, h.done))
