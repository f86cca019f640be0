-- What the functions read of operands in a row and of successors.
use Rattle.pliron_core.proofs.GrownLemmas.{range_more}
use Rattle.pliron_core.proofs.ArgumentLemmas.{take_more}
use Rattle.std.proofs.Common.{◌≡◌, ℕ, zero, suc, ◌+◌, ◌≤◌, List, [], ◌∷◌, ◌++◌, Option, Some, None, length, map, take, refl, ap, sym, ◌∙◌, subst, arith, add-one}
use Rattle.std.specs.List.{slice_get, range_with_len}
use Rattle.std.proofs.lemmas.List.{length-map}
use Rattle.std.proofs.lemmas.Option.{same_Some, slice_get_past}
use Rattle.pliron_core.specs.Tree.{Tree, successors_of, head_of}
use Rattle.pliron_laws.specs.Datum.{Head}
use Rattle.pliron_laws.specs.Tree.{Operation, op_at, op_with}
use Rattle.pliron_laws.specs.Acting.{pick}

-- one more successor
pub block_more : (xs items more : List ℕ) (j block : ℕ) → more ≡ items ++ block ∷ [] → items ≡ take j xs → slice_get xs j ≡ Some block → more ≡ take (j + 1) xs
block_more xs items more j block e f at =
    e ∙ ap (λ z. z ++ block ∷ []) f ∙ sym (take_more xs j block at) ∙ ap (λ n. take n xs) (sym (add-one j))

pub successors_with : (t : Tree) (op : ℕ) (o : Operation) → op_at t op ≡ Some o → o.successors ≡ successors_of t op
unfolding op_at
successors_with t op o at = go (head_of t op) at
  where
    go : (h : Option Head) → op_with t op h ≡ Some o → o.successors ≡ successors_of t op
    go None e = grind arith
    go (Some h) e = sym (ap (λ z. z.successors) (same_Some _ o e))

-- past the last of places in a row there is none
pub picked_past : (xs : List ℕ) (first count j : ℕ) → count ≤ j → slice_get (pick (range_with_len first count) xs) j ≡ None
picked_past xs first count j le = slice_get_past (pick (range_with_len first count) xs) j (subst (λ z. z ≤ j) (sym (length-map (range_with_len first count) (λ i. slice_get xs i) ∙ length-range first count)) le)
  where
    length-range : (a n : ℕ) → length (range_with_len a n) ≡ n
    length-range a zero = refl
    length-range a (suc n) = ap suc (length-range (a + 1) n)

map_last : {A B : Type 0} (f : A → B) (xs : List A) (x : A) → map f (xs ++ x ∷ []) ≡ map f xs ++ f x ∷ []
map_last f [] x = refl
map_last f (y ∷ ys) x = ap (λ z. f y ∷ z) (map_last f ys x)

-- one more place
pub more_picked : (xs items items' : List ℕ) (first j v : ℕ) → items' ≡ items ++ v ∷ [] → map Some items ≡ pick (range_with_len first j) xs → slice_get xs (first + j) ≡ Some v → map Some items' ≡ pick (range_with_len first (j + 1)) xs
more_picked xs items items' first j v e f g =
    ap (map Some) e ∙ map_last Some items v ∙ ap (λ z. z ++ Some v ∷ []) f ∙ ap (λ z. pick (range_with_len first j) xs ++ z ∷ []) (sym g) ∙ sym (map_last (λ i. slice_get xs i) (range_with_len first j) (first + j)) ∙ ap (λ z. pick z xs) (sym (range_more first j))
