-- Lists of originals, by the handles of their copies.
use Rattle.std.proofs.Common.{◌≡◌, ◌≢◌, inl, inr, ℕ, zero, suc, ◌+◌, ◌-◌, ◌<◌, ◌≤◌, Bool, true, false, if◌then◌else◌, List, [], ◌∷◌, ◌++◌, length, get_or, map, take, drop, filter, Some, slice_get, refl, sym, ap, ◌∙◌, subst, append_assoc, append-nil, arith}
use Rattle.std.specs.List.{flat_map, range_with_len}
use Rattle.std.proofs.lemmas.Bool.{lt-ltb, le-ltb, false_from_ne_true}
use Rattle.std.proofs.lemmas.List.{length-append, take-append-drop, drop_more, take_more}
use Rattle.std.proofs.lemmas.List.Elements.{filter-append}
use Rattle.std.proofs.lemmas.Option.{slice_get_within, get_or_from_slice_get, slice_get-get_or}
use Rattle.std.proofs.lemmas.Grind.{flat_map-append}
use Rattle.pliron_core.specs.Invariant.{IsTree}
use Rattle.pliron_core.specs.Erased.{is_the}
use Rattle.pliron_core.specs.Tree.{Tree, In, IsDistinct, parent_of, body_of}
use Rattle.pliron_core.proofs.FlatLemmas.{flat_map-In, In-slice_get}
use Rattle.pliron_core.proofs.HoldingLemmas.{some_is}
use Rattle.pliron_core.proofs.WithinLemmas.{is_listed_from, stands_met}
use Rattle.pliron_rewrite_calls.specs.Copying.{original_by}

-- ---- originals

pub old_itself : (xs : List ℕ) (first k : ℕ) → k < first → original_by xs first k ≡ k
old_itself xs first k lt = ap (λ b. if b then k else get_or xs (k - first) k) (lt-ltb k first lt)

pub new_item : (xs : List ℕ) (first k : ℕ) → first ≤ k → original_by xs first k ≡ get_or xs (k - first) k
new_item xs first k le = ap (λ b. if b then k else get_or xs (k - first) k) (le-ltb k first le)

get_middle : (front back : List ℕ) (x d : ℕ) → get_or (front ++ x ∷ back) (length front) d ≡ x
get_middle [] back x d = refl
get_middle (y ∷ front) back x d = get_middle front back x d

pub original_at : (xs front back : List ℕ) (x first k : ℕ) → xs ≡ front ++ x ∷ back → k ≡ first + length front → original_by xs first k ≡ x
original_at xs front back x first k e at =
    let le : first ≤ k = omega (arith, at) in
    let n : k - first ≡ length front = omega (arith, at) in
    new_item xs first k le ∙ ap (λ j. get_or xs j k) n ∙ ap (λ z. get_or z (length front) k) e ∙ get_middle front back x k

-- so many copies in a row have these originals
pub original_range : (mid xs front back : List ℕ) (first k : ℕ) → xs ≡ front ++ (mid ++ back) → k ≡ first + length front → mid ≡ map (original_by xs first) (range_with_len k (length mid))
original_range [] xs front back first k e at = refl
original_range (x ∷ mid) xs front back first k e at =
    let here : original_by xs first k ≡ x = original_at xs front (mid ++ back) x first k e at in
    let long = length-append front (x ∷ []) in
    let next : k + 1 ≡ first + length (front ++ x ∷ []) = omega (arith, at, long) in
    let rest = original_range mid xs (front ++ x ∷ []) back first (k + 1) (e ∙ sym (append_assoc front (x ∷ []) (mid ++ back))) next in
    ap (λ z. z ∷ mid) (sym here) ∙ ap (λ z. original_by xs first k ∷ z) rest

pub original_in : (xs : List ℕ) (first k : ℕ) → first ≤ k → k < first + length xs → In (original_by xs first k) xs
original_in xs first k le lt =
    let n : k - first < length xs = omega (arith, le, lt) in
    In-slice_get xs (k - first) (original_by xs first k) (slice_get-get_or xs (k - first) k n ∙ ap Some (sym (new_item xs first k le)))

distinct_get : (xs : List ℕ) → IsDistinct xs → (i j x : ℕ) → slice_get xs i ≡ Some x → slice_get xs j ≡ Some x → i ≡ j
distinct_get [] d i j x e f = absurd (let l = slice_get_within {A = ℕ} [] i x e in omega (arith, l))
distinct_get (y ∷ ys) d zero zero x e f = refl
distinct_get (y ∷ ys) d zero (suc j) x e f = absurd (d.0 (subst (λ z. In z ys) (sym (some_is e)) (In-slice_get ys j x f)))
distinct_get (y ∷ ys) d (suc i) zero x e f = absurd (d.0 (subst (λ z. In z ys) (sym (some_is f)) (In-slice_get ys i x e)))
distinct_get (y ∷ ys) d (suc i) (suc j) x e f = ap suc (distinct_get ys d.1 i j x e f)

pub original_apart : (xs : List ℕ) (first k j : ℕ) → IsDistinct xs → first ≤ k → k < first + length xs → first ≤ j → j < first + length xs → original_by xs first k ≡ original_by xs first j → k ≡ j
original_apart xs first k j d le lt le' lt' e =
    let n : k - first < length xs = omega (arith, le, lt) in
    let m : j - first < length xs = omega (arith, le', lt') in
    let at : slice_get xs (k - first) ≡ Some (original_by xs first k) = slice_get-get_or xs (k - first) k n ∙ ap Some (sym (new_item xs first k le)) in
    let at' : slice_get xs (j - first) ≡ Some (original_by xs first k) = slice_get-get_or xs (j - first) j m ∙ ap Some (sym (new_item xs first j le') ∙ sym e) in
    let same = distinct_get xs d (k - first) (j - first) (original_by xs first k) at at' in
    omega (arith, same, le, le')

-- what a map leads from and back
pub mapped_back : (f g : ℕ → ℕ) (xs : List ℕ) → ((x : ℕ) → In x xs → f (g x) ≡ x) → xs ≡ map f (map g xs)
mapped_back f g [] back = refl
mapped_back f g (x ∷ xs) back = ap (λ z. z ∷ xs) (sym (back x (inl refl))) ∙ ap (λ z. f (g x) ∷ z) (mapped_back f g xs (λ y i. back y (inr i)))

-- ---- one item more

pub split_at : (xs : List ℕ) (i x : ℕ) → i < length xs → x ≡ get_or xs i x → xs ≡ take i xs ++ x ∷ drop (i + 1) xs
split_at xs i x lt at = sym (take-append-drop i xs) ∙ ap (λ z. take i xs ++ z) (drop_more xs i x lt ∙ ap (λ z. z ∷ drop (i + 1) xs) (sym at))

pub take_next : (xs : List ℕ) (i x : ℕ) → i < length xs → x ≡ get_or xs i x → take (i + 1) xs ≡ take i xs ++ x ∷ []
take_next xs i x lt at = take_more xs i x lt ∙ ap (λ z. take i xs ++ z ∷ []) (sym at)

pub flat_split : (f : ℕ → List ℕ) (xs : List ℕ) (i x : ℕ) → i < length xs → x ≡ get_or xs i x → flat_map f xs ≡ flat_map f (take i xs) ++ (f x ++ flat_map f (drop (i + 1) xs))
flat_split f xs i x lt at = ap (flat_map f) (split_at xs i x lt at) ∙ flat_map-append f (take i xs) (x ∷ drop (i + 1) xs)

pub flat_next : (f : ℕ → List ℕ) (xs : List ℕ) (i x : ℕ) → i < length xs → x ≡ get_or xs i x → flat_map f (take (i + 1) xs) ≡ flat_map f (take i xs) ++ f x
flat_next f xs i x lt at = ap (flat_map f) (take_next xs i x lt at) ∙ flat_map-append f (take i xs) (x ∷ []) ∙ ap (λ z. flat_map f (take i xs) ++ z) (append-nil (f x))

pub there : (xs : List ℕ) (i x : ℕ) → i < length xs → x ≡ get_or xs i x → In x xs
there xs i x lt at = In-slice_get xs i x (slice_get-get_or xs i x lt ∙ ap Some (sym at))

-- ---- the operations of one of these blocks

pub filter_in : (p : ℕ → Bool) (x : ℕ) (xs : List ℕ) → p x ≡ true → filter p (x ∷ xs) ≡ x ∷ filter p xs
filter_in p x xs e = rw e refl

pub filter_out : (p : ℕ → Bool) (x : ℕ) (xs : List ℕ) → p x ≡ false → filter p (x ∷ xs) ≡ filter p xs
filter_out p x xs e = rw e refl

filter_all : (p : ℕ → Bool) (xs : List ℕ) → ((x : ℕ) → In x xs → p x ≡ true) → filter p xs ≡ xs
filter_all p [] all = refl
filter_all p (x ∷ xs) all = filter_in p x xs (all x (inl refl)) ∙ ap (λ z. x ∷ z) (filter_all p xs (λ y i. all y (inr i)))

filter_none : (p : ℕ → Bool) (xs : List ℕ) → ((x : ℕ) → In x xs → p x ≡ false) → filter p xs ≡ []
filter_none p [] none = refl
filter_none p (x ∷ xs) none = filter_out p x xs (none x (inl refl)) ∙ filter_none p xs (λ y i. none y (inr i))

module _ (t : Tree) (w : IsTree t) (b : ℕ) where
  abbrev pub own : ℕ → Bool
  own k = is_the b (parent_of t k)

  pub is_own : (k : ℕ) → parent_of t k ≡ Some b → own k ≡ true
  is_own k e = stands_met t b k e

  pub not_own : (k c : ℕ) → parent_of t k ≡ Some c → c ≢ b → own k ≡ false
  not_own k c e ne = false_from_ne_true _ (λ f. ne (some_is (sym e ∙ is_listed_from t b k f)))

  none_own : (cs : List ℕ) → (In b cs → ⊥) → filter own (flat_map (λ c. body_of t c) cs) ≡ []
  none_own cs out = filter_none own (flat_map (λ c. body_of t c) cs) (λ k i.
      let s = flat_map-In (λ c. body_of t c) cs k i in
      not_own k s.0 (w.bodies.owned k s.0 s.2) (λ e. out (subst (λ z. In z cs) e s.1)))

  pub own_part : (bs : List ℕ) → IsDistinct bs → In b bs → filter own (flat_map (λ c. body_of t c) bs) ≡ body_of t b
  own_part [] d i = absurd i
  own_part (c ∷ cs) d (inl e) =
      filter-append own (body_of t c) (flat_map (λ x. body_of t x) cs) ∙ ap (λ z. z ++ filter own (flat_map (λ x. body_of t x) cs)) (filter_all own (body_of t c) (λ k j. is_own k (w.bodies.owned k c j ∙ ap Some (sym e)))) ∙ ap (λ z. body_of t c ++ z) (none_own cs (λ j. d.0 (subst (λ z. In z cs) e j))) ∙ append-nil (body_of t c) ∙ ap (body_of t) (sym e)
  own_part (c ∷ cs) d (inr i) =
      filter-append own (body_of t c) (flat_map (λ x. body_of t x) cs) ∙ ap (λ z. z ++ filter own (flat_map (λ x. body_of t x) cs)) (filter_none own (body_of t c) (λ k j. not_own k c (w.bodies.owned k c j) (λ e. d.0 (subst (λ z. In z cs) (sym e) i)))) ∙ own_part cs d.1 i

-- a list that is copied item by item
pub item_more : {A : Type 0} (xs before after : List A) (i : ℕ) (x y : A) → after ≡ before ++ x ∷ [] → before ≡ take i xs → x ≡ y → slice_get xs i ≡ Some y → after ≡ take (i + 1) xs
item_more xs before after i x y push is e at =
    push ∙ ap (λ z. z ++ x ∷ []) is ∙ ap (λ z. take i xs ++ z ∷ []) (e ∙ sym (get_or_from_slice_get xs i y y at)) ∙ sym (take_more xs i y (slice_get_within xs i y at))
