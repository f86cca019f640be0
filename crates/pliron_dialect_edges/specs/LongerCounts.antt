-- Counts of a branch that forwards one value more along an edge.
use Rattle.std.proofs.Common.{◌≡◌, ℕ, zero, suc, ◌+◌, ◌-◌, ◌<◌, List, [], ◌∷◌, Some, slice_get, slice_set, min, nat_eq, IsTrue, refl, ap, ap₂, sym, ◌∙◌, subst, arith}
use Rattle.std.specs.Prelude.{pos}
use Rattle.std.specs.List.{range_with_len}
use Rattle.std.proofs.lemmas.Option.{same_Some}
use Rattle.pliron_core.specs.declared.attrs.AttrObj.{AttrObj}
use Rattle.pliron_core.specs.declared.attrs.AttrObj.TheVariants.{Int}
use Rattle.pliron_core.proofs.TableLemmas.{set-same}
use Rattle.pliron_dialect.specs.declared.form.Counting.{Counting}
use Rattle.pliron_dialect.specs.declared.form.Counting.TheVariants.{OfFirst, OfEach}
use Rattle.pliron_dialect.specs.Parts.{both_parts, below, same}
use Rattle.pliron_dialect.specs.Counted.{start_of, count_of, fewer, fewer_before, fewer_there, edge_counts_in, count_at, counts_by, counts_fit, first_edge_count, fewer_by, fewer_counted_by, start_next, edge_range}

-- the attribute at this index, which is a count, counts one more
abbrev pub CountsOneMore : (attrs attrs' : List AttrObj) → (i : ℕ) → Type 0
CountsOneMore attrs attrs' i = (n : ℕ) × (slice_get attrs i ≡ Some (Int (pos n))) × (attrs' ≡ slice_set attrs i (Int (pos (n + 1))))

-- the attributes of a branch that forwards one value more along edge i
abbrev pub LongerAttributes : Counting → (i : ℕ) → (attrs attrs' : List AttrObj) → Type 0
LongerAttributes OfFirst zero attrs attrs' = CountsOneMore attrs attrs' 0
LongerAttributes OfFirst (suc i) attrs attrs' = attrs' ≡ attrs
LongerAttributes OfEach i attrs attrs' = CountsOneMore attrs attrs' i

-- the place behind the operands of edge i, of a branch whose edges have so many
abbrev pub last_place : List ℕ → (i : ℕ) → ℕ
last_place counts i = suc (start_of counts (suc i))

-- ---- what was counted is counted again where one is lost

set_twice : {A : Type 0} (xs : List A) (i : ℕ) (x y : A) → slice_set (slice_set xs i x) i y ≡ slice_set xs i y
set_twice [] i x y = refl
set_twice (z ∷ xs) zero x y = refl
set_twice (z ∷ xs) (suc i) x y = ap (λ l. z ∷ l) (set_twice xs i x y)

set_there : {A : Type 0} (xs : List A) (i : ℕ) (x : A) → slice_get xs i ≡ Some x → slice_set xs i x ≡ xs
set_there [] i x e = refl
set_there (z ∷ xs) zero x e = ap (λ w. w ∷ xs) (sym (same_Some z x e))
set_there (z ∷ xs) (suc i) x e = ap (λ l. z ∷ l) (set_there xs i x e)

count_set : (c i n : ℕ) (attrs : List AttrObj) (a : AttrObj) → i < c → slice_get attrs i ≡ Some a → count_of (edge_counts_in c (slice_set attrs i (Int (pos n)))) i ≡ n
count_set c i n attrs a lt e = count_at c i (slice_set attrs i (Int (pos n))) (Int (pos n)) lt (set-same attrs i (Int (pos n)) a e)

pub attributes_back : (counting : Counting) (c i : ℕ) (attrs attrs' : List AttrObj) → i < c → LongerAttributes counting i attrs attrs' → fewer_by counting attrs' c i ≡ attrs
attributes_back OfEach c i attrs attrs' lt (n, is, e) =
    ap (λ x. slice_set attrs' i (Int (pos x))) (ap (λ x. count_of (edge_counts_in c x) i - 1) e ∙ ap (λ x. x - 1) (count_set c i (n + 1) attrs (Int (pos n)) lt is) ∙ omega arith)
    ∙ ap (λ x. slice_set x i (Int (pos n))) e
    ∙ set_twice attrs i (Int (pos (n + 1))) (Int (pos n))
    ∙ set_there attrs i (Int (pos n)) is
attributes_back OfFirst c zero [] attrs' lt (n, is, e) = absurd (grind (arith, is))
attributes_back OfFirst c zero (x ∷ attrs) attrs' lt (n, is, e) =
    ap (λ l. slice_set l 0 (Int (pos (first_edge_count l - 1)))) e
    ∙ ap (λ k. Int (pos k) ∷ attrs) (omega arith)
    ∙ ap (λ w. w ∷ attrs) (sym (same_Some x (Int (pos n)) is))
attributes_back OfFirst c (suc i) attrs attrs' lt e = e

-- ---- where the value stands that is forwarded more

some_more : (counting : Counting) (c a i : ℕ) (attrs attrs' : List AttrObj) → i < c → IsTrue (counts_fit counting attrs c a) → LongerAttributes counting i attrs attrs' → 0 < count_of (counts_by counting c (a + 1) attrs') i
some_more OfEach c a i attrs attrs' lt fits (n, is, e) = subst (λ k. 0 < k) (sym (ap (λ l. count_of (edge_counts_in c l) i) e ∙ count_set c i (n + 1) attrs (Int (pos n)) lt is)) (omega arith)
some_more OfFirst c a zero [] attrs' lt fits (n, is, e) = absurd (grind (arith, is))
some_more OfFirst c a zero (x ∷ attrs) attrs' lt fits (n, is, e) =
    let less : first_edge_count (x ∷ attrs) < a = below (first_edge_count (x ∷ attrs)) a (both_parts (nat_eq c 2) _ fits).1 in
    subst (λ l. 0 < min (first_edge_count l) (a + 1 - 1)) (sym e) (omega (arith, less))
some_more OfFirst c a (suc zero) attrs attrs' lt fits e =
    let less : first_edge_count attrs < a = below (first_edge_count attrs) a (both_parts (nat_eq c 2) _ fits).1 in
    subst (λ l. 0 < a + 1 - 1 - first_edge_count l) (sym e) (omega (arith, less))
some_more OfFirst c a (suc (suc i)) attrs attrs' lt fits e = absurd (let two : c ≡ 2 = same c 2 (both_parts (nat_eq c 2) _ fits).0 in omega (arith, lt, two))

pub range_get : (a n k : ℕ) → k < n → slice_get (range_with_len a n) k ≡ Some (a + k)
range_get a zero k lt = absurd (omega (arith, lt))
range_get a (suc n) zero lt = ap Some (omega arith)
range_get a (suc n) (suc k) lt = range_get (a + 1) n k (omega (arith, lt)) ∙ ap Some (omega arith)

-- the edge has one place more, which is the last one
pub last_there : (counting : Counting) (c a i : ℕ) (attrs attrs' : List AttrObj) → i < c → IsTrue (counts_fit counting attrs c a) → LongerAttributes counting i attrs attrs' →
    slice_get (edge_range (counts_by counting c (a + 1) attrs') i) (count_of (counts_by counting c a attrs) i) ≡ Some (last_place (counts_by counting c a attrs) i)
last_there counting c a i attrs attrs' lt fits longer =
    let some = some_more counting c a i attrs attrs' lt fits longer in
    let less : counts_by counting c a attrs ≡ fewer (counts_by counting c (a + 1) attrs') i =
    ap₂ (λ n l. counts_by counting c n l) (omega arith) (sym (attributes_back counting c i attrs attrs' lt longer)) ∙ fewer_counted_by counting c (a + 1) i attrs' lt some in
    let count : count_of (counts_by counting c a attrs) i ≡ count_of (counts_by counting c (a + 1) attrs') i - 1 = ap (λ ns. count_of ns i) less ∙ fewer_there (counts_by counting c (a + 1) attrs') i in
    let start : start_of (counts_by counting c a attrs) i ≡ start_of (counts_by counting c (a + 1) attrs') i = ap (λ ns. start_of ns i) less ∙ fewer_before (counts_by counting c (a + 1) attrs') i i (omega arith) in
    ap (λ k. slice_get (edge_range (counts_by counting c (a + 1) attrs') i) k) count
    ∙ range_get (suc (start_of (counts_by counting c (a + 1) attrs') i)) (count_of (counts_by counting c (a + 1) attrs') i) (count_of (counts_by counting c (a + 1) attrs') i - 1) (omega (arith, some))
    ∙ ap Some (omega (arith, some, count, start, start_next (counts_by counting c a attrs) i))
