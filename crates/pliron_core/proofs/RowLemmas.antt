-- Lemmas on rows of linked nodes.
use Rattle.std.proofs.Common.{◌≡◌, ◌≢◌, ℕ, zero, suc, ◌<◌, ◌≤◌, List, [], ◌∷◌, ◌++◌, length, set, Option, Some, None, refl, sym, ap, ◌∙◌, subst, inl, inr, arith}
use Rattle.std.proofs.lemmas.List.{get_or-set_same, get_or-set_other, length-set}
use Rattle.pliron_core.specs.declared.links.Node.{Node}
use Rattle.pliron_core.proofs.ListLemmas.{AreApart}
use Rattle.pliron_core.specs.Lists.{first_of, last_of}
use Rattle.pliron_core.specs.Nodes.{no_node, node_at, walk, with_next, with_prev, In, IsDistinct, IsRow}

-- a write to another node
pub row-frame : (nodes : List Node) (l y : ℕ) (n : Node) (b : Option ℕ) (xs : List ℕ) (a : Option ℕ) → (In y xs → ⊥) → IsRow nodes l b xs a → IsRow (set nodes y n) l b xs a
row-frame nodes l y n b [] a out row = tt
row-frame nodes l y n b (x ∷ xs) a out row =
    let ne : x ≢ y = λ e. out (inl (sym e)) in (
      rw length-set row.0,
      rw (get_or-set_other nodes y x n no_node ne) row.1,
      row-frame nodes l y n (Some x) xs a (λ i. out (inr i)) row.2,
    )

pub first_of-append : (xs ys : List ℕ) (a : Option ℕ) → first_of (xs ++ ys) a ≡ first_of xs (first_of ys a)
first_of-append [] ys a = refl
first_of-append (x ∷ xs) ys a = refl

pub last_of-append : (b : Option ℕ) (xs ys : List ℕ) → last_of b (xs ++ ys) ≡ last_of (last_of b xs) ys
last_of-append b [] ys = refl
last_of-append b (x ∷ xs) ys = last_of-append (Some x) xs ys

pub row-append : (nodes : List Node) (l : ℕ) (b : Option ℕ) (xs ys : List ℕ) (a : Option ℕ) → IsRow nodes l b xs (first_of ys a) → IsRow nodes l (last_of b xs) ys a → IsRow nodes l b (xs ++ ys) a
row-append nodes l b [] ys a front back = back
row-append nodes l b (x ∷ xs) ys a front back =
    (front.0, rw (first_of-append xs ys a) front.1, row-append nodes l (Some x) xs ys a front.2 back)

pub row-front : (nodes : List Node) (l : ℕ) (b : Option ℕ) (xs ys : List ℕ) (a : Option ℕ) → IsRow nodes l b (xs ++ ys) a → IsRow nodes l b xs (first_of ys a)
row-front nodes l b [] ys a row = tt
row-front nodes l b (x ∷ xs) ys a row =
    (row.0, rw (first_of-append xs ys a) at row.1, row-front nodes l (Some x) xs ys a row.2)

pub row-back : (nodes : List Node) (l : ℕ) (b : Option ℕ) (xs ys : List ℕ) (a : Option ℕ) → IsRow nodes l b (xs ++ ys) a → IsRow nodes l (last_of b xs) ys a
row-back nodes l b [] ys a row = row
row-back nodes l b (x ∷ xs) ys a row = row-back nodes l (Some x) xs ys a row.2

-- the last of a list that begins with `x`
abbrev pub final : ℕ → List ℕ → ℕ
final x [] = x
final x (y ∷ ys) = final y ys

pub last_of-final : (b : Option ℕ) (x : ℕ) (xs : List ℕ) → last_of b (x ∷ xs) ≡ Some (final x xs)
last_of-final b x [] = refl
last_of-final b x (y ∷ ys) = last_of-final (Some x) y ys

pub In-final : (x : ℕ) (xs : List ℕ) → In (final x xs) (x ∷ xs)
In-final x [] = inl refl
In-final x (y ∷ ys) = inr (In-final y ys)

row-next_at : (nodes : List Node) (l : ℕ) (b : Option ℕ) (x : ℕ) (xs : List ℕ) (a v : Option ℕ) → IsDistinct (x ∷ xs) → IsRow nodes l b (x ∷ xs) a → IsRow (set nodes (final x xs) (record (node_at nodes (final x xs)) { next = v })) l b (x ∷ xs) v
row-next_at nodes l b x [] a v distinct row = (
  rw length-set row.0,
  rw (get_or-set_same nodes x _ no_node row.0) (rw row.1 refl),
  tt,
)
row-next_at nodes l b x (y ∷ ys) a v distinct row =
    let ne : x ≢ final y ys = λ e. distinct.0 (subst (λ z. In z (y ∷ ys)) (sym e) (In-final y ys)) in (
      rw length-set row.0,
      rw (get_or-set_other nodes (final y ys) x _ no_node ne) row.1,
      row-next_at nodes l (Some x) y ys a v distinct.1 row.2,
    )

-- the last node of a row gets another successor
pub row-next : (nodes : List Node) (l : ℕ) (b : Option ℕ) (xs : List ℕ) (a v : Option ℕ) → IsDistinct xs → IsRow nodes l b xs a → IsRow (with_next nodes (last_of None xs) v) l b xs v
row-next nodes l b [] a v distinct row = tt
row-next nodes l b (x ∷ xs) a v distinct row =
    subst (λ p. IsRow (with_next nodes p v) l b (x ∷ xs) v) (sym (last_of-final None x xs)) (row-next_at nodes l b x xs a v distinct row)

-- the first node of a row gets another predecessor
pub row-prev : (nodes : List Node) (l : ℕ) (b : Option ℕ) (xs : List ℕ) (a v : Option ℕ) → IsDistinct xs → IsRow nodes l b xs a → IsRow (with_prev nodes (first_of xs None) v) l v xs a
row-prev nodes l b [] a v distinct row = tt
row-prev nodes l b (x ∷ xs) a v distinct row = (
  rw length-set row.0,
  rw (get_or-set_same nodes x _ no_node row.0) (rw row.1 refl),
  row-frame nodes l x _ (Some x) xs a distinct.0 row.2,
)

-- both ends of a gap are linked anew
pub relink : (nodes : List Node) (l : ℕ) (front back : List ℕ) (a b v w : Option ℕ) → IsDistinct front → IsDistinct back → AreApart front back → IsRow nodes l None front a → IsRow nodes l b back None → IsRow (with_prev (with_next nodes (last_of None front) v) (first_of back None) w) l None front v × IsRow (with_prev (with_next nodes (last_of None front) v) (first_of back None) w) l w back None
relink nodes l front back a b v w df db apart rf rb =
    let front1 = row-next nodes l None front a v df rf in
    let back1 = framed front nodes apart rb in
    (framed_prev back _ apart front1, row-prev _ l b back None w db back1)
  where
    framed : (front : List ℕ) (nodes : List Node) → AreApart front back → IsRow nodes l b back None → IsRow (with_next nodes (last_of None front) v) l b back None
    framed [] nodes apart rb = rb
    framed (x ∷ xs) nodes apart rb =
        subst (λ p. IsRow (with_next nodes p v) l b back None) (sym (last_of-final None x xs)) (row-frame nodes l (final x xs) _ b back None (apart _ (In-final x xs)) rb)

    framed_prev : (back : List ℕ) (nodes : List Node) → AreApart front back → IsRow nodes l None front v → IsRow (with_prev nodes (first_of back None) w) l None front v
    framed_prev [] nodes apart rf = rf
    framed_prev (x ∷ xs) nodes apart rf = row-frame nodes l x _ None front v (λ i. apart x i (inl refl)) rf

-- the links give back the row
pub walk-row : (nodes : List Node) (l : ℕ) (b : Option ℕ) (xs : List ℕ) (n : ℕ) → length xs ≤ n → IsRow nodes l b xs None → walk nodes n (first_of xs None) ≡ xs
walk-row nodes l b [] zero short row = refl
walk-row nodes l b [] (suc n) short row = refl
walk-row nodes l b (x ∷ xs) zero short row = absurd (omega arith)
walk-row nodes l b (x ∷ xs) (suc n) short row =
    ap (λ r. x ∷ r) (ap (λ z. walk nodes n z.next) row.1 ∙ walk-row nodes l (Some x) xs n (omega arith) row.2)

pub owner-row : (nodes : List Node) (l : ℕ) (b : Option ℕ) (xs : List ℕ) (a : Option ℕ) (x : ℕ) → IsRow nodes l b xs a → In x xs → (node_at nodes x).owner ≡ Some l
owner-row nodes l b [] a x row i = absurd i
owner-row nodes l b (y ∷ ys) a x row (inl e) = ap (λ z. (node_at nodes z).owner) e ∙ ap (λ z. z.owner) row.1
owner-row nodes l b (y ∷ ys) a x row (inr i) = owner-row nodes l (Some y) ys a x row.2 i

pub within-row : (nodes : List Node) (l : ℕ) (b : Option ℕ) (xs : List ℕ) (a : Option ℕ) (x : ℕ) → IsRow nodes l b xs a → In x xs → x < length nodes
within-row nodes l b [] a x row i = absurd i
within-row nodes l b (y ∷ ys) a x row (inl e) = omega (arith, e, row.0)
within-row nodes l b (y ∷ ys) a x row (inr i) = within-row nodes l (Some y) ys a x row.2 i
