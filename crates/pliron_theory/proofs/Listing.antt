-- What is listed by going through a list from its first item on, or through what stands inside an operation.
use Rattle.std.proofs.Common.{◌≡◌, ℕ, ◌<◌, Bool, true, false, cond, List, [], ◌∷◌, ◌++◌, length, filter, Option, Some, None, refl, sym, ap, ◌∙◌, subst, arith, append_assoc, append-nil}
use Rattle.std.specs.List.{flat_map}
use Rattle.pliron_core.specs.Lists.{In, IsDistinct, first_of, next_in}
use Rattle.pliron_core.specs.Tree.{Tree, IsInside}
use Rattle.pliron_core.specs.Invariant.{IsTree}
use Rattle.pliron_core.specs.Walks.{contents, preorder}
use Rattle.pliron_core.specs.WalkSteps.{rest_from}
use Rattle.pliron_core.proofs.NeighbourLemmas.{next_in-In, first_of-In, next_in-first, next_in-other}
use Rattle.pliron_core.proofs.NextLemmas.{rest_from-step, rest_from-first}
use Rattle.pliron_core.proofs.WalkLemmas.{contents-inside, distinct-contents, not_inside-itself}

-- what each item of `whole` lists was added to `before`, but for the items from `at` on
pub record IsListing (f : ℕ → List ℕ) (whole before now : List ℕ) (at : Option ℕ) : Type 0 where
  pub items : now ++ flat_map f (rest_from at whole) ≡ before ++ flat_map f whole
  pub within : (x : ℕ) → at ≡ Some x → In x whole

module _ (f : ℕ → List ℕ) (whole before : List ℕ) where
  pub listing_start : (at : Option ℕ) → at ≡ first_of whole None → IsListing f whole before before at
  listing_start at e = record {
    items = ap (λ xs. before ++ flat_map f xs) (ap (λ o. rest_from o whole) e ∙ all whole);
    within = λ x g. first_of-In x whole (sym e ∙ g);
  }
    where
      all : (xs : List ℕ) → rest_from (first_of xs None) xs ≡ xs
      all [] = refl
      all (x ∷ xs) = rest_from-first x xs

  pub listing_step : (now more : List ℕ) (at o : Option ℕ) (x : ℕ) → IsDistinct whole → IsListing f whole before now at → at ≡ Some x → o ≡ next_in x whole → more ≡ now ++ f x → IsListing f whole before more o
  listing_step now more at o x d l e g m = record {
    items =
        ap (λ xs. xs ++ flat_map f (rest_from o whole)) m
        ∙ append_assoc now (f x) (flat_map f (rest_from o whole))
        ∙ ap (λ xs. now ++ flat_map f xs) (sym (rest_from-step whole x o d (l.within x e) g))
        ∙ ap (λ q. now ++ flat_map f (rest_from q whole)) (sym e)
        ∙ l.items;
    within = λ y h. next_in-In y x whole (sym g ∙ h);
  }

  pub listing_end : (now : List ℕ) (at : Option ℕ) → IsListing f whole before now at → at ≡ None → now ≡ before ++ flat_map f whole
  listing_end now at l e = sym (append-nil now) ∙ ap (λ o. now ++ flat_map f (rest_from o whole)) (sym e) ∙ l.items

  pub listing_smaller : (now : List ℕ) (at o : Option ℕ) (x : ℕ) → IsDistinct whole → IsListing f whole before now at → at ≡ Some x → o ≡ next_in x whole → length (rest_from o whole) < length (rest_from at whole)
  listing_smaller now at o x d l e g =
      let here : rest_from at whole ≡ x ∷ rest_from o whole = ap (λ q. rest_from q whole) e ∙ rest_from-step whole x o d (l.within x e) g in
      omega (arith, ap length here)

-- the walk through what stands inside an operation
module _ (f : ℕ → List ℕ) (t : Tree) (root : ℕ) (w : IsTree t) where
  abbrev pub IsWalked : List ℕ → Option ℕ → Type 0
  IsWalked now at = IsListing f (contents t root) [] now at

  pub walk_start : (at : Option ℕ) → at ≡ next_in root (preorder t root) → IsWalked [] at
  walk_start at e = listing_start f (contents t root) [] at (e ∙ next_in-first root root (contents t root) refl)

  pub walk_inside : (now : List ℕ) (at : Option ℕ) (k : ℕ) → IsWalked now at → at ≡ Some k → IsInside t root k
  walk_inside now at k l e = contents-inside t w root k (l.within k e)

  next_is : (k : ℕ) (o : Option ℕ) → IsInside t root k → o ≡ next_in k (preorder t root) → o ≡ next_in k (contents t root)
  next_is k o i e = e ∙ next_in-other k root (contents t root) (λ s. not_inside-itself t w root (subst (IsInside t root) s i))

  pub walk_step : (now more : List ℕ) (at o : Option ℕ) (k : ℕ) → IsWalked now at → at ≡ Some k → o ≡ next_in k (preorder t root) → more ≡ now ++ f k → IsWalked more o
  walk_step now more at o k l e n a = listing_step f (contents t root) [] now more at o k (distinct-contents t w root) l e (next_is k o (walk_inside now at k l e) n) a

  pub walk_smaller : (now : List ℕ) (at o : Option ℕ) (k : ℕ) → IsWalked now at → at ≡ Some k → o ≡ next_in k (preorder t root) → length (rest_from o (contents t root)) < length (rest_from at (contents t root))
  walk_smaller now at o k l e n = listing_smaller f (contents t root) [] now at o k (distinct-contents t w root) l e (next_is k o (walk_inside now at k l e) n)

  pub walk_end : (now : List ℕ) (at : Option ℕ) → IsWalked now at → at ≡ None → now ≡ flat_map f (contents t root)
  walk_end now at l e = listing_end f (contents t root) [] now at l e

-- each item alone, where it passes the test
pub filter_each : (p : ℕ → Bool) (xs : List ℕ) → flat_map (λ k. filter p (k ∷ [])) xs ≡ filter p xs
filter_each p [] = refl
filter_each p (x ∷ xs) = go (filter_each p xs) (p x)
  where
    go : flat_map (λ k. filter p (k ∷ [])) xs ≡ filter p xs → (b : Bool) → cond b (x ∷ []) [] ++ flat_map (λ k. filter p (k ∷ [])) xs ≡ cond b (x ∷ filter p xs) (filter p xs)
    go rest true = ap (λ ys. x ∷ ys) rest
    go rest false = rest
