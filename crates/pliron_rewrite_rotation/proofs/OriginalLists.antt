-- Lists of originals by the handles of their copies, and lists that are mapped item by item.
use Rattle.std.proofs.Common.{◌≡◌, ℕ, zero, suc, ◌+◌, ◌-◌, ◌<◌, ◌≤◌, if◌then◌else◌, List, [], ◌∷◌, ◌++◌, length, get_or, map, take, Some, slice_get, refl, sym, ap, ◌∙◌, subst, arith}
use Rattle.std.proofs.lemmas.Bool.{lt-ltb, le-ltb}
use Rattle.std.proofs.lemmas.List.{take_more}
use Rattle.std.proofs.lemmas.Option.{slice_get_within, slice_get-get_or, get_or_from_slice_get}
use Rattle.pliron_core.specs.Tree.{In, IsDistinct}
use Rattle.pliron_core.proofs.FlatLemmas.{In-slice_get}
use Rattle.pliron_core.proofs.HoldingLemmas.{some_is}
use Rattle.pliron_rewrite_copies.proofs.Maps.{map_append}
use Rattle.pliron_rewrite_calls.specs.Copying.{original_by}

pub old_itself : (xs : List ℕ) (first k : ℕ) → k < first → original_by xs first k ≡ k
old_itself xs first k lt = ap (λ b. if b then k else get_or xs (k - first) k) (lt-ltb k first lt)

pub new_item : (xs : List ℕ) (first k : ℕ) → first ≤ k → original_by xs first k ≡ get_or xs (k - first) k
new_item xs first k le = ap (λ b. if b then k else get_or xs (k - first) k) (le-ltb k first le)

pub original_in : (xs : List ℕ) (first k : ℕ) → first ≤ k → k < first + length xs → In (original_by xs first k) xs
original_in xs first k le lt =
    let n : k - first < length xs = omega (arith, le, lt) in
    In-slice_get xs (k - first) (original_by xs first k) (slice_get-get_or xs (k - first) k n ∙ ap Some (sym (new_item xs first k le)))

distinct_get : (xs : List ℕ) → IsDistinct xs → (i j x : ℕ) → slice_get xs i ≡ Some x → slice_get xs j ≡ Some x → i ≡ j
distinct_get [] d i j x e f = absurd (let l = slice_get_within {A = ℕ} [] i x e in omega (arith, l))
distinct_get (y ∷ ys) d zero zero x e f = refl
distinct_get (y ∷ ys) d zero (suc j) x e f = absurd (d.0 (subst (λ z. In z ys) (sym (some_is e)) (In-slice_get ys j x f)))
distinct_get (y ∷ ys) d (suc i) zero x e f = absurd (d.0 (subst (λ z. In z ys) (sym (some_is f)) (In-slice_get ys i x e)))
distinct_get (y ∷ ys) d (suc i) (suc j) x e f = ap suc (distinct_get ys d.1 i j x e f)

pub original_apart : (xs : List ℕ) (first k j : ℕ) → IsDistinct xs → first ≤ k → k < first + length xs → first ≤ j → j < first + length xs → original_by xs first k ≡ original_by xs first j → k ≡ j
original_apart xs first k j d le lt le' lt' e =
    let n : k - first < length xs = omega (arith, le, lt) in
    let m : j - first < length xs = omega (arith, le', lt') in
    let at : slice_get xs (k - first) ≡ Some (original_by xs first k) = slice_get-get_or xs (k - first) k n ∙ ap Some (sym (new_item xs first k le)) in
    let at' : slice_get xs (j - first) ≡ Some (original_by xs first k) = slice_get-get_or xs (j - first) j m ∙ ap Some (sym (new_item xs first j le') ∙ sym e) in
    let same = distinct_get xs d (k - first) (j - first) (original_by xs first k) at at' in
    omega (arith, same, le, le')

-- one item more
pub mapped_more : (f : ℕ → ℕ) (xs ys zs : List ℕ) (j x : ℕ) → zs ≡ ys ++ f x ∷ [] → ys ≡ map f (take j xs) → slice_get xs j ≡ Some x → zs ≡ map f (take (j + 1) xs)
mapped_more f xs ys zs j x e at is =
    e ∙ ap (λ l. l ++ f x ∷ []) at ∙ sym (map_append f (take j xs) (x ∷ [])) ∙ ap (map f) (sym (take_more xs j x (slice_get_within xs j x is) ∙ ap (λ y. take j xs ++ y ∷ []) (get_or_from_slice_get xs j x x is)))
