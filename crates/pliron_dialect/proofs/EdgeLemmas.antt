-- Counts of edges, as the functions compute them.
use Rattle.std.proofs.Common.{◌≡◌, inl, inr, ℕ, suc, ◌+◌, ◌<◌, ◌≤◌, min, nat_eq, nat_lt, Bool, true, false, List, Some, length, slice_get, refl, ap, ap₂, sym, ◌∙◌, arith, tests, add-one}
use Rattle.pliron_core.specs.declared.attrs.AttrObj.{AttrObj}
use Rattle.pliron_dialect.specs.Counted.{start_of, count_of, edge_counts_in, start_next, start_all, total, count_at, count_past}
use Rattle.pliron_dialect.specs.Counts.{counted_by}

min_zero : (m : ℕ) → 0 ≡ min 0 m
min_zero m = omega arith

pub count_there : (c i r most : ℕ) (attrs : List AttrObj) (a : AttrObj) → i < c → slice_get attrs i ≡ Some a → r ≡ min (counted_by a) most → r ≡ min (count_of (edge_counts_in c attrs) i) most
count_there c i r most attrs a lt at e = e ∙ ap (λ x. min x most) (sym (count_at c i attrs a lt at))

pub none_behind : (c i most : ℕ) (attrs : List AttrObj) → c ≤ i → 0 ≡ min (count_of (edge_counts_in c attrs) i) most
none_behind c i most attrs le = min_zero most ∙ ap (λ x. min x most) (sym (count_past c i attrs (inl le)))

pub none_past : (c i most : ℕ) (attrs : List AttrObj) → length attrs ≤ i → 0 ≡ min (count_of (edge_counts_in c attrs) i) most
none_past c i most attrs le = min_zero most ∙ ap (λ x. min x most) (sym (count_past c i attrs (inr le)))

min_sum : (a b m : ℕ) → min (min a m + min b m) m ≡ min (a + b) m
min_sum a b m = omega arith

-- one more edge
pub start_more : (c j most start count sum : ℕ) (attrs : List AttrObj) → start ≡ min (start_of (edge_counts_in c attrs) j) most → count ≡ min (count_of (edge_counts_in c attrs) j) most → sum ≡ min (start + count) most → sum ≡ min (start_of (edge_counts_in c attrs) (j + 1)) most
start_more c j most start count sum attrs e f g =
    g ∙ ap₂ (λ x y. min (x + y) most) e f ∙ min_sum (start_of (edge_counts_in c attrs) j) (count_of (edge_counts_in c attrs) j) most
    ∙ ap (λ x. min x most) (sym (start_next (edge_counts_in c attrs) j) ∙ ap (start_of (edge_counts_in c attrs)) (sym (add-one j)))

-- ---- whether the counts are all operands

pub counts_are : (c all a : ℕ) (attrs : List AttrObj) → all ≡ min (start_of (edge_counts_in c attrs) c) a → all < a → nat_eq (all + 1) a ≡ nat_eq (suc (total (edge_counts_in c attrs))) a
counts_are c all a attrs e lt = ap (λ x. nat_eq x a) (omega (arith, e, lt, start_all c attrs))

pub counts_differ : (c all a : ℕ) (attrs : List AttrObj) → all ≡ min (start_of (edge_counts_in c attrs) c) a → a ≤ all → nat_lt all a ≡ nat_eq (suc (total (edge_counts_in c attrs))) a
counts_differ c all a attrs e le =
    let far : a < suc (total (edge_counts_in c attrs)) = omega (arith, e, le, start_all c attrs) in
    not_below all a le ∙ sym (not_same (suc (total (edge_counts_in c attrs))) a far)
  where
    not_below : (x y : ℕ) → y ≤ x → nat_lt x y ≡ false
    not_below x y h = grind (arith, tests)

    not_same : (x y : ℕ) → y < x → nat_eq x y ≡ false
    not_same x y h = grind (arith, tests)

-- as many as there are, at most, are fewer where so many are
pub first_below : (n a count : ℕ) → count ≡ min n a → nat_lt count a ≡ nat_lt n a
first_below n a count e = by_test (nat_lt n a) refl
  where
    by_test : (b : Bool) → nat_lt n a ≡ b → nat_lt count a ≡ b
    by_test true is = grind (arith, tests, is, e)
    by_test false is = grind (arith, tests, is, e)
