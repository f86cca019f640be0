-- What is read of an operation or a block, item by item.
use Rattle.std.proofs.Common.{◌≡◌, ℕ, ◌<◌, List, [], ◌∷◌, ◌++◌, length, take, ◌+◌, add-one, Option, Some, None, sym, ap, ◌∙◌, inl, inr, arith, append_assoc}
use Rattle.std.specs.List.{slice_get}
use Rattle.pliron_core.proofs.ArgumentLemmas.{take_more}
use Rattle.pliron_core.specs.Lists.{In, first_of, next_in}
use Rattle.pliron_core.specs.Reads.{next_of}
use Rattle.pliron_core.specs.WalkSteps.{rest_from}
use Rattle.pliron_core.specs.Tree.{Tree, parent_of, body_of, up_from}
use Rattle.pliron_core.specs.Invariant.{IsTree}
use Rattle.pliron_core.proofs.NextLemmas.{next_in-member, rest_from-first, rest_from-step}

-- one item more of a list
pub read_more : (xs before after : List ℕ) (j x : ℕ) → slice_get xs j ≡ Some x → before ≡ take j xs → after ≡ before ++ x ∷ [] → after ≡ take (j + 1) xs
read_more xs before after j x e so_far grown =
    grown ∙ ap (λ z. z ++ x ∷ []) so_far ∙ sym (take_more xs j x e) ∙ ap (λ n. take n xs) (sym (add-one j))

whole_from : (xs : List ℕ) (o : Option ℕ) → o ≡ first_of xs None → rest_from o xs ≡ xs
whole_from [] o e = ap (λ z. rest_from z []) e
whole_from (x ∷ xs) o e = ap (λ z. rest_from z (x ∷ xs)) e ∙ rest_from-first x xs

member_of_first : (xs : List ℕ) (o : Option ℕ) (x : ℕ) → o ≡ first_of xs None → o ≡ Some x → In x xs
member_of_first [] o x e f = absurd (cc)
member_of_first (y ∷ ys) o x e f = inl (cc)

member_of_next : (x z : ℕ) (xs : List ℕ) → next_in x xs ≡ Some z → In z xs
member_of_next x z [] e = absurd (cc)
member_of_next x z (y ∷ ys) e = inr (next_in-member x y z ys e)

module _ (t : Tree) (w : IsTree t) (b : ℕ) where
  next_in_body : (x : ℕ) (o : Option ℕ) → parent_of t x ≡ Some b → o ≡ next_of t x → o ≡ next_in x (body_of t b)
  next_in_body x o p e = e ∙ ap (λ z. up_from z (λ c. next_in x (body_of t c))) p

  -- from the first on, a block has all its operations
  pub body_whole : (o : Option ℕ) → o ≡ first_of (body_of t b) None → rest_from o (body_of t b) ≡ body_of t b
  body_whole o e = whole_from (body_of t b) o e

  pub body_first : (o : Option ℕ) → o ≡ first_of (body_of t b) None → (x : ℕ) → o ≡ Some x → parent_of t x ≡ Some b
  body_first o e x f = w.bodies.owned x b (member_of_first (body_of t b) o x e f)

  pub body_placed : (x : ℕ) (o : Option ℕ) → parent_of t x ≡ Some b → o ≡ next_of t x → (z : ℕ) → o ≡ Some z → parent_of t z ≡ Some b
  body_placed x o p e z f = w.bodies.owned z b (member_of_next x z (body_of t b) (sym (next_in_body x o p e) ∙ f))

  pub body_step : (x : ℕ) (o : Option ℕ) → parent_of t x ≡ Some b → o ≡ next_of t x → rest_from (Some x) (body_of t b) ≡ x ∷ rest_from o (body_of t b)
  body_step x o p e = rest_from-step (body_of t b) x o (w.bodies.distinct b) (w.bodies.listed x b p) (next_in_body x o p e)

  pub body_smaller : (x : ℕ) (o : Option ℕ) → parent_of t x ≡ Some b → o ≡ next_of t x → length (rest_from o (body_of t b)) < length (rest_from (Some x) (body_of t b))
  body_smaller x o p e = omega (arith, ap length (body_step x o p e))

  -- one operation more is gone through
  pub body_more : (xs : List ℕ) (x : ℕ) (o : Option ℕ) → parent_of t x ≡ Some b → o ≡ next_of t x → xs ++ rest_from (Some x) (body_of t b) ≡ body_of t b → (xs ++ x ∷ []) ++ rest_from o (body_of t b) ≡ body_of t b
  body_more xs x o p e whole = append_assoc xs (x ∷ []) (rest_from o (body_of t b)) ∙ ap (λ z. xs ++ z) (sym (body_step x o p e)) ∙ whole
