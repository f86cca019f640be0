-- Numbers in pre-order are operations in dominance order.
use Rattle.std.proofs.Common.{◌≡◌, ◌≢◌, ◌⊎◌, ◌↔◌, ℕ, zero, suc, ◌<◌, ◌≤◌, ◌+◌, ◌-◌, false, true≢false, nat_eq, List, [], ◌∷◌, length, get_or, refl, sym, ap, ◌∙◌, subst, inl, inr, ⊎_elim, arith}
use Rattle.std.proofs.Math.Bool.{and-true}
use Rattle.std.proofs.lemmas.Bool.{eq-eqb}
use Rattle.std.specs.List.{AllByRecursion, IsDistinct as IsDistinctBy}
use Rattle.pliron_core.specs.Lists.{IsDistinct}
use Rattle.pliron_core.specs.Tree.{Tree, In}
use Rattle.pliron_core.proofs.ListLemmas.{decide_in, distinct-length}
use Rattle.pliron_graph_dominance.specs.Candidates.{IsOnWayUp, Here, Above}
use Rattle.pliron_graph_dominance.specs.TreeIntervals.{Places, GivesAbove, AreIntervals}
use Rattle.pliron_graph_dominance.specs.ParentTables.{parent_by}
use Rattle.pliron_graph_dominance.proofs.TableLemmas.{decide, within, above_early, up_one, first_above}
use Rattle.pliron_rewrite_equals.specs.OperationDominance.{DominatesOperation}
use Rattle.pliron_graph_order.specs.Numbering.{key_eq, NumberTables, IsNumbering}
use Rattle.pliron_graph_order.specs.Order.{IsOrder}
use Rattle.pliron_graph_order.specs.Preorder.{AreAtPlaces, HaveIndices, ListsInPlace}
use Rattle.pliron_graph_order.specs.Seen.{IsSeen}
use Rattle.pliron_graph_order.proofs.NumberLemmas.{at_in}

-- the keys of a set
pub distinct_keys : (xs : List ℕ) → IsDistinctBy key_eq xs → IsDistinct xs
unfolding IsDistinctBy
distinct_keys [] d = tt
distinct_keys (x ∷ xs) d = (λ i. none xs d.0 i, distinct_keys xs d.1)
  where
    none : (ys : List ℕ) → AllByRecursion (λ y. key_eq x y ≡ false) ys → In x ys → ⊥
    none [] a i = i
    none (y ∷ ys) a (inl e) = true≢false (sym (and-true (nat_eq x y) ∙ eq-eqb x y e) ∙ a.0)
    none (y ∷ ys) a (inr i) = none ys a.1 i

pub in_at : (xs : List ℕ) (x : ℕ) → In x xs → (i : ℕ) × (i < length xs) × (get_or xs i 0 ≡ x)
in_at [] x i = absurd i
in_at (y ∷ ys) x (inl e) = (zero, omega arith, sym e)
in_at (y ∷ ys) x (inr i) = let r = in_at ys x i in (suc r.0, omega (arith, r.1), r.2)

pub distinct_at : (xs : List ℕ) → IsDistinct xs → (i j : ℕ) → i < length xs → j < length xs → get_or xs i 0 ≡ get_or xs j 0 → i ≡ j
distinct_at [] d i j li lj e = absurd (omega (arith, li))
distinct_at (x ∷ xs) d zero zero li lj e = refl
distinct_at (x ∷ xs) d zero (suc j) li lj e = absurd (d.0 (subst (λ z. In z xs) (sym e) (at_in xs j (omega (arith, lj)))))
distinct_at (x ∷ xs) d (suc i) zero li lj e = absurd (d.0 (subst (λ z. In z xs) e (at_in xs i (omega (arith, li)))))
distinct_at (x ∷ xs) d (suc i) (suc j) li lj e = ap suc (distinct_at xs d.1 i j (omega (arith, li)) (omega (arith, lj)) e)

-- a list whose items are apart
pub apart_distinct : (xs : List ℕ) → ((i j : ℕ) → i < length xs → j < length xs → get_or xs i 0 ≡ get_or xs j 0 → i ≡ j) → IsDistinct xs
apart_distinct [] h = tt
apart_distinct (x ∷ xs) h = (
  λ i. let a = in_at xs x i in none (h 0 (suc a.0) (omega arith) (omega (arith, a.1)) (sym a.2)),
  apart_distinct xs (λ i j li lj e. omega (arith, h (suc i) (suc j) (omega (arith, li)) (omega (arith, lj)) e)),
)
  where
    none : {k : ℕ} → 0 ≡ suc k → ⊥
    none e = omega (arith, e)

-- distinct numbers below their count are all of them
pub all_below : (xs : List ℕ) (n : ℕ) → length xs ≡ n → IsDistinct xs → ((x : ℕ) → In x xs → x < n) → (k : ℕ) → k < n → In k xs
all_below xs n size d below k l = ⊎_elim (λ i. i) (λ out. absurd (omega (arith, distinct-length n (k ∷ xs) (out, d) (λ x i. ⊎_elim (λ e. subst (λ z. z < n) (sym e) l) (λ j. below x j) i), size))) (decide_in k xs)

module _ (t : Tree) (n : NumberTables) (h : IsNumbering t n) (all : (k : ℕ) → IsSeen t n.root k → In k n.ops) (distinct : IsDistinct n.ops) (p : Places) (gives : GivesAbove n.parents p) (intervals : AreIntervals n.parents p) (numbers : List ℕ) (at : AreAtPlaces (length n.parents) p.places numbers) where
  abbrev place : ℕ → ℕ
  place v = get_or p.places v 0

  abbrev size : ℕ → ℕ
  size v = get_or p.sizes v 0

  abbrev number : ℕ → ℕ
  number k = get_or numbers k 0

  abbrev count : ℕ
  count = length n.parents

  places_low : (x : ℕ) → In x p.places → x < count
  places_low x i =
      let a = in_at p.places x i in
      let l : a.0 < count = omega (arith, a.1, gives.counted) in
      subst (λ z. z < count) a.2 (omega (arith, intervals.within a.0 l, intervals.some a.0 l))

  places_distinct : IsDistinct p.places
  places_distinct = apart_distinct p.places (λ i j li lj e. intervals.apart i j (omega (arith, li, gives.counted)) (omega (arith, lj, gives.counted)) e)

  -- each place is that of a number
  pub number_low : (k : ℕ) → k < count → number k < count
  number_low k l =
      let a = in_at p.places k (all_below p.places count gives.counted places_distinct places_low k l) in
      let la : a.0 < count = omega (arith, a.1, gives.counted) in
      subst (λ z. z < count) (sym (at.at a.0 la) ∙ ap number a.2) la

  pub place_number : (k : ℕ) → k < count → place (number k) ≡ k
  place_number k l =
      let a = in_at p.places k (all_below p.places count gives.counted places_distinct places_low k l) in
      let la : a.0 < count = omega (arith, a.1, gives.counted) in
      let same : number k ≡ a.0 = ap number (sym a.2) ∙ at.at a.0 la in
      ap place same ∙ a.2

  root_place : place 0 ≡ 0
  root_place =
      let l : 0 < count = h.parents.some in
      let v = number 0 in
      let lv = number_low 0 l in
      let up = (gives.above 0 v l lv).0 (first_above n.parents h.parents (suc v) v (omega arith) lv) in
      omega (arith, up.0, place_number 0 l)

  number_other : (k : ℕ) → 0 < k → k < count → 0 < number k
  number_other k some l = ⊎_elim
      (λ e. absurd (omega (arith, some, place_number k l, ap place e, root_place)))
      (λ ne. omega (arith, ne))
      (decide (number k) 0)

  pub have_places : HaveIndices numbers p
  have_places = record {
    counted = gives.counted ∙ sym at.counted;
    other = λ k some l. number_other k some (omega (arith, l, at.counted));
    low = λ k some l. omega (arith, number_low k (omega (arith, l, at.counted)), at.counted);
    ends = λ k some l.
        let l' : k < count = omega (arith, l, at.counted) in
        omega (arith, intervals.within (number k) (number_low k l'), place_number k l', at.counted);
  }

  -- of two numbers
  module _ (u v : ℕ) (lu : suc u < count) (lv : suc v < count) where
    op : ℕ → ℕ
    op k = get_or n.ops k 0

    low_u : u < length n.ops
    low_u = omega (arith, lu, h.counted)

    low_v : v < length n.ops
    low_v = omega (arith, lv, h.counted)

    seen_u : IsSeen t n.root (get_or n.ops u 0)
    seen_u = h.seen (get_or n.ops u 0) (at_in n.ops u low_u)

    stands_up : DominatesOperation t (get_or n.ops u 0) (get_or n.ops v 0) → IsOnWayUp (parent_by n.parents) (suc u) (parent_by n.parents (suc v))
    stands_up s =
        let a = (h.before v low_v (get_or n.ops u 0) seen_u).1 s in
        let same : a.0 ≡ u = distinct_at n.ops distinct a.0 u a.2 low_u a.3 in
        subst (λ z. IsOnWayUp (parent_by n.parents) (suc z) (parent_by n.parents (suc v))) same a.1

    up_stands : IsOnWayUp (parent_by n.parents) (suc u) (parent_by n.parents (suc v)) → DominatesOperation t (get_or n.ops u 0) (get_or n.ops v 0)
    up_stands k = (h.before v low_v (get_or n.ops u 0) seen_u).0 (u, k, low_u, refl)

    early : parent_by n.parents (suc v) < suc v
    early = h.parents.earlier (suc v) lv (λ e. omega (arith, e))

    pub stands_places : ((place (suc u) < place (suc v)) × (place (suc v) < place (suc u) + size (suc u))) ↔ DominatesOperation t (get_or n.ops u 0) (get_or n.ops v 0)
    stands_places = (forth, back)
      where
        forth : (place (suc u) < place (suc v)) × (place (suc v) < place (suc u) + size (suc u)) → DominatesOperation t (get_or n.ops u 0) (get_or n.ops v 0)
        forth b =
            let up : IsOnWayUp (parent_by n.parents) (suc u) (suc v) = (gives.above (suc u) (suc v) lu lv).1 (omega (arith, b.0), b.1) in
            up_stands (up_one (parent_by n.parents) (suc u) (suc v) up (λ e. omega (arith, ap place e, b.0)))

        back : DominatesOperation t (get_or n.ops u 0) (get_or n.ops v 0) → (place (suc u) < place (suc v)) × (place (suc v) < place (suc u) + size (suc u))
        back s =
            let k = stands_up s in
            let low : suc u ≤ parent_by n.parents (suc v) = above_early n.parents h.parents (suc u) (parent_by n.parents (suc v)) (within n.parents h.parents (suc v) lv) k in
            let b = (gives.above (suc u) (suc v) lu lv).0 (Above k) in
            let other : place (suc u) ≢ place (suc v) = λ e. let same : suc u ≡ suc v = intervals.apart (suc u) (suc v) lu lv e in omega (arith, same, low, early) in
            (omega (arith, b.0, other), b.1)

  -- the lists that are made of them
  module _ (ops ends : List ℕ) (lists : ListsInPlace (length numbers) numbers n.ops p ops ends) where
    size_is : suc (length ops) ≡ count
    size_is = lists.ops_counted ∙ at.counted

    -- the place of an operation in its list, by its number
    abbrev behind : ℕ → ℕ
    behind k = number (suc k) - 1

    number_is : (k : ℕ) → k < length ops → number (suc k) ≡ suc (number (suc k) - 1)
    number_is k l = omega (arith, number_other (suc k) (omega arith) (omega (arith, l, size_is)))

    low : (k : ℕ) → k < length ops → suc (number (suc k) - 1) < count
    low k l = omega (arith, number_is k l, number_low (suc k) (omega (arith, l, size_is)))

    op_is : (k : ℕ) → k < length ops → get_or ops k 0 ≡ get_or n.ops (number (suc k) - 1) 0
    op_is k l = lists.op k (omega (arith, l, lists.ops_counted))

    end_is : (k : ℕ) → k < length ops → get_or ends k 0 ≡ suc k + size (number (suc k)) - 1
    end_is k l = lists.end k (omega (arith, l, lists.ops_counted))

    place_is : (k : ℕ) → k < length ops → place (suc (number (suc k) - 1)) ≡ suc k
    place_is k l = ap place (sym (number_is k l)) ∙ place_number (suc k) (omega (arith, l, size_is))

    all_in_place : (i j : ℕ) → i < length ops → j < length ops → ((i < j) × (j < get_or ends i 0)) ↔ DominatesOperation t (get_or ops i 0) (get_or ops j 0)
    all_in_place i j li lj =
        let b = stands_places (number (suc i) - 1) (number (suc j) - 1) (low i li) (low j lj) in
        let some : 0 < size (number (suc i)) = intervals.some (number (suc i)) (number_low (suc i) (omega (arith, li, size_is))) in
        let same : size (suc (number (suc i) - 1)) ≡ size (number (suc i)) = ap size (sym (number_is i li)) in (
          λ q. subst (λ z. DominatesOperation t z (get_or ops j 0)) (sym (op_is i li)) (subst (DominatesOperation t (get_or n.ops (number (suc i) - 1) 0)) (sym (op_is j lj)) (b.0 (omega (arith, q.0, place_is i li, place_is j lj), omega (arith, q.1, end_is i li, place_is i li, place_is j lj, some, same)))),
          λ s.
              let q = b.1 (subst (λ z. DominatesOperation t z (get_or n.ops (number (suc j) - 1) 0)) (op_is i li) (subst (DominatesOperation t (get_or ops i 0)) (op_is j lj) s)) in
              (omega (arith, q.0, place_is i li, place_is j lj), omega (arith, q.1, end_is i li, place_is i li, place_is j lj, some, same)),
        )

    each_op : (k : ℕ) → k < length ops → In (get_or ops k 0) n.ops
    each_op k l = subst (λ z. In z n.ops) (sym (op_is k l)) (at_in n.ops (number (suc k) - 1) (omega (arith, low k l, h.counted)))

    op_at : (v : ℕ) → v < length n.ops → (k : ℕ) × (k < length ops) × (get_or ops k 0 ≡ get_or n.ops v 0)
    op_at v l =
        let lv : suc v < count = omega (arith, l, h.counted) in
        let here : number (place (suc v)) ≡ suc v = at.at (suc v) lv in
        let low_place : place (suc v) < count = omega (arith, intervals.within (suc v) lv, intervals.some (suc v) lv) in
        let some : place (suc v) ≢ 0 = λ e. let same : suc v ≡ 0 = intervals.apart (suc v) 0 lv h.parents.some (e ∙ sym root_place) in omega (arith, same) in
        let k = place (suc v) - 1 in
        let k_is : suc k ≡ place (suc v) = omega (arith, some) in
        let lk : k < length ops = omega (arith, k_is, low_place, size_is) in
        let back : number (suc k) - 1 ≡ v = omega (arith, ap number k_is, here) in
        (k, lk, op_is k lk ∙ ap (λ z. get_or n.ops z 0) back)

    ops_distinct : IsDistinct ops
    ops_distinct = apart_distinct ops (λ i j li lj e.
        let same : number (suc i) - 1 ≡ number (suc j) - 1 = distinct_at n.ops distinct (number (suc i) - 1) (number (suc j) - 1) (omega (arith, low i li, h.counted)) (omega (arith, low j lj, h.counted)) (sym (op_is i li) ∙ e ∙ op_is j lj) in
        omega (arith, place_is i li, place_is j lj, ap (λ z. place (suc z)) same))

    pub order_made : IsOrder t n.root ops ends
    order_made = record {
      counted = omega (arith, lists.ops_counted, lists.ends_counted);
      distinct = ops_distinct;
      each = λ k. (
        λ i. let a = in_at ops k i in subst (IsSeen t n.root) a.2 (h.seen (get_or ops a.0 0) (each_op a.0 a.1)),
        λ s.
            let a = in_at n.ops k (all k s) in
            let b = op_at a.0 a.1 in
            subst (λ z. In z ops) (b.2 ∙ a.2) (at_in ops b.0 b.1),
      );
      all_in_place = all_in_place;
    }
