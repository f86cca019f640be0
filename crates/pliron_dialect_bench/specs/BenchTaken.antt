-- What it says that there is an operation of a kind with a head and counts.
use Rattle.std.proofs.Common.{◌≡◌, ℕ, zero, suc, ◌-◌, ◌<◌, Bool, true, false, ◌&&◌, nat_eq, nat_lt, List, [], ◌∷◌, Some, option_map, slice_set, IsTrue, refl, ap, sym, ◌∙◌, subst, arith, rules}
use Rattle.std.specs.Prelude.{pos, negsuc}
use Rattle.pliron_core.specs.declared.attrs.Head.{Head}
use Rattle.pliron_core.specs.declared.attrs.AttrObj.{AttrObj}
use Rattle.pliron_core.specs.declared.attrs.AttrObj.TheVariants.{Int, Text as Words}
use Rattle.pliron_dialect_bench.specs.declared.kind.BenchKind.{BenchKind}
use Rattle.pliron_dialect_bench.specs.declared.kind.BenchKind.TheVariants.{Mod, Func, Const, Add, Mul, Div, Read, Print, Pair, Sink, Scope, Box, Br, Cbr, Ret, Fork}
use Rattle.pliron_dialect.specs.declared.form.Counting.TheVariants.{OfFirst}
use Rattle.pliron_dialect.specs.Counted.{counts_by, count_of, fewer_by}
use Rattle.pliron_dialect.specs.Roles.{has_some, takes_by, by_role, by_kind, meaning_by}
use Rattle.pliron_dialect_bench.specs.Bench.{kind_of, number_of_kind, has_number, result_count, successor_count, region_count, takes_operands, takes_attributes, has_count, is_ssa, same_bool, takes, branch_edge_count}
use Rattle.pliron_dialect_bench.specs.BenchMoves.{bench_role, bench_allows, bench}
use Rattle.pliron_dialect.specs.Parts.{below, same, same_true}

both_parts : (x y : Bool) → IsTrue (x && y) → IsTrue x × IsTrue y
both_parts true y h = (refl, h)
both_parts false y h = grind arith

both_true : (x y : Bool) → IsTrue x → IsTrue y → IsTrue (x && y)
both_true true y h k = k
both_true false y h k = grind arith

below_true : (a b : ℕ) → a < b → IsTrue (nat_lt a b)
below_true a b lt = search (rules, arith)

-- the head and the counts are those of the kind
pub record IsTaken (k : BenchKind) (h : Head) (a b c d : ℕ) : Type 0 where
  pub dominance : IsTrue (same_bool h.ssa (is_ssa k))
  pub attributes : IsTrue (takes_attributes k h.attrs a)
  pub operands : IsTrue (takes_operands k a)
  pub results : b ≡ result_count k
  pub successors : c ≡ successor_count k
  pub regions : d ≡ region_count k

pub taken : (k : BenchKind) (h : Head) (a b c d : ℕ) → IsTrue (takes h a b c d k) → IsTaken k h a b c d
taken k h a b c d t =
    let p = both_parts (same_bool h.ssa (is_ssa k) && takes_attributes k h.attrs a && takes_operands k a && nat_eq b (result_count k) && nat_eq c (successor_count k)) (nat_eq d (region_count k)) t in
    let q = both_parts (same_bool h.ssa (is_ssa k) && takes_attributes k h.attrs a && takes_operands k a && nat_eq b (result_count k)) (nat_eq c (successor_count k)) p.0 in
    let r = both_parts (same_bool h.ssa (is_ssa k) && takes_attributes k h.attrs a && takes_operands k a) (nat_eq b (result_count k)) q.0 in
    let u = both_parts (same_bool h.ssa (is_ssa k) && takes_attributes k h.attrs a) (takes_operands k a) r.0 in
    let v = both_parts (same_bool h.ssa (is_ssa k)) (takes_attributes k h.attrs a) u.0 in
    record { dominance = v.0; attributes = v.1; operands = u.1; results = same b (result_count k) r.1; successors = same c (successor_count k) q.1; regions = same d (region_count k) p.1 }

pub takes_again : (k : BenchKind) (h : Head) (a b c d : ℕ) → IsTaken k h a b c d → IsTrue (takes h a b c d k)
takes_again k h a b c d t =
    both_true (same_bool h.ssa (is_ssa k) && takes_attributes k h.attrs a && takes_operands k a && nat_eq b (result_count k) && nat_eq c (successor_count k)) (nat_eq d (region_count k))
    (both_true (same_bool h.ssa (is_ssa k) && takes_attributes k h.attrs a && takes_operands k a && nat_eq b (result_count k)) (nat_eq c (successor_count k))
    (both_true (same_bool h.ssa (is_ssa k) && takes_attributes k h.attrs a && takes_operands k a) (nat_eq b (result_count k))
    (both_true (same_bool h.ssa (is_ssa k) && takes_attributes k h.attrs a) (takes_operands k a)
    (both_true (same_bool h.ssa (is_ssa k)) (takes_attributes k h.attrs a) t.dominance t.attributes)
    t.operands)
    (same_true b (result_count k) t.results))
    (same_true c (successor_count k) t.successors))
    (same_true d (region_count k) t.regions)

-- ---- the count of the first edge

pub first_count_below : (attrs : List AttrObj) (a : ℕ) → IsTrue (has_count attrs a) → branch_edge_count attrs < a
first_count_below [] a h = grind arith
first_count_below (Int (pos n) ∷ []) a h = below n a h
first_count_below (Int (pos n) ∷ x ∷ attrs) a h = grind arith
first_count_below (Int (negsuc n) ∷ []) a h = grind arith
first_count_below (Int (negsuc n) ∷ x ∷ attrs) a h = grind arith
first_count_below (Words w ∷ []) a h = grind arith
first_count_below (Words w ∷ x ∷ attrs) a h = grind arith

pub count_fits : (attrs : List AttrObj) (a b n : ℕ) → IsTrue (has_count attrs a) → n < b → IsTrue (has_count (slice_set attrs 0 (Int (pos n))) b)
count_fits [] a b n h lt = grind arith
count_fits (Int (pos m) ∷ []) a b n h lt = below_true n b lt
count_fits (Int (pos m) ∷ x ∷ attrs) a b n h lt = grind arith
count_fits (Int (negsuc m) ∷ []) a b n h lt = grind arith
count_fits (Int (negsuc m) ∷ x ∷ attrs) a b n h lt = grind arith
count_fits (Words w ∷ []) a b n h lt = grind arith
count_fits (Words w ∷ x ∷ attrs) a b n h lt = grind arith

pub count_kept : (attrs : List AttrObj) (a b : ℕ) → IsTrue (has_count attrs a) → branch_edge_count attrs < b → IsTrue (has_count attrs b)
count_kept [] a b h lt = grind arith
count_kept (Int (pos m) ∷ []) a b h lt = below_true m b lt
count_kept (Int (pos m) ∷ x ∷ attrs) a b h lt = grind arith
count_kept (Int (negsuc m) ∷ []) a b h lt = grind arith
count_kept (Int (negsuc m) ∷ x ∷ attrs) a b h lt = grind arith
count_kept (Words w ∷ []) a b h lt = grind arith
count_kept (Words w ∷ x ∷ attrs) a b h lt = grind arith

-- ---- a branch without an operand of an edge is taken

pub br_loses : (h : Head) (a b c d : ℕ) → IsTaken Br h a b c d → IsTrue (takes h (a - 1) b c d Br)
br_loses h a b c d t = takes_again Br h (a - 1) b c d (record { dominance = t.dominance; attributes = t.attributes; operands = refl; results = t.results; successors = t.successors; regions = t.regions })

pub cbr_loses : (h : Head) (a b c d i : ℕ) → IsTaken Cbr h a b c d → 0 < count_of (counts_by OfFirst c a h.attrs) i → IsTrue (takes (record h { attrs = fewer_by OfFirst h.attrs c i }) (a - 1) b c d Cbr)
cbr_loses h a b c d zero t some =
    let lt = first_count_below h.attrs a t.attributes in
    takes_again Cbr (record h { attrs = slice_set h.attrs 0 (Int (pos (branch_edge_count h.attrs - 1))) }) (a - 1) b c d (record { dominance = t.dominance; attributes = count_fits h.attrs a (a - 1) (branch_edge_count h.attrs - 1) t.attributes (omega (arith, lt, some)); operands = refl; results = t.results; successors = t.successors; regions = t.regions })
cbr_loses h a b c d (suc zero) t some = takes_again Cbr h (a - 1) b c d (record { dominance = t.dominance; attributes = count_kept h.attrs a (a - 1) t.attributes (omega (arith, some)); operands = refl; results = t.results; successors = t.successors; regions = t.regions })
cbr_loses h a b c d (suc (suc i)) t some = absurd (omega (arith, some))

-- ---- what the table of its kind takes is admitted

pub numbered : (k : BenchKind) → kind_of (number_of_kind k) ≡ Some k
unfolding kind_of
numbered Mod = refl
numbered Func = refl
numbered Const = refl
numbered Add = refl
numbered Mul = refl
numbered Div = refl
numbered Read = refl
numbered Print = refl
numbered Pair = refl
numbered Sink = refl
numbered Scope = refl
numbered Box = refl
numbered Br = refl
numbered Cbr = refl
numbered Ret = refl
numbered Fork = refl

some_attribute : (attrs : List AttrObj) → IsTrue (has_number attrs) → IsTrue (has_some attrs)
some_attribute [] h = grind arith
some_attribute (x ∷ attrs) h = refl

folds_taken : (h : Head) (a b c d : ℕ) → a ≡ 2 → b ≡ 1 → c ≡ 0 → d ≡ 0 → IsTrue (nat_eq a 2 && (nat_eq b 1 && (nat_eq c 0 && nat_eq d 0)))
folds_taken h a b c d e f g i = both_true _ _ (same_true a 2 e) (both_true _ _ (same_true b 1 f) (both_true _ _ (same_true c 0 g) (same_true d 0 i)))

role_takes : (k : BenchKind) (h : Head) (a b c d : ℕ) → IsTaken k h a b c d → IsTrue (takes_by h a b c d (bench_role k))
role_takes Mod h a b c d t = both_true _ _ (same_true b 0 t.results) (same_true c 0 t.successors)
role_takes Func h a b c d t = same_true c 0 t.successors
role_takes Const h a b c d t = both_true _ _ (some_attribute h.attrs t.attributes) (both_true _ _ (same_true a 0 (same a 0 t.operands)) (both_true _ _ (same_true b 1 t.results) (both_true _ _ (same_true c 0 t.successors) (same_true d 0 t.regions))))
role_takes Add h a b c d t = folds_taken h a b c d (same a 2 t.operands) t.results t.successors t.regions
role_takes Mul h a b c d t = folds_taken h a b c d (same a 2 t.operands) t.results t.successors t.regions
role_takes Div h a b c d t = folds_taken h a b c d (same a 2 t.operands) t.results t.successors t.regions
role_takes Read h a b c d t = same_true c 0 t.successors
role_takes Print h a b c d t = same_true c 0 t.successors
role_takes Pair h a b c d t = both_true _ _ (same_true c 0 t.successors) (same_true d 0 t.regions)
role_takes Sink h a b c d t = both_true _ _ (same_true c 0 t.successors) (same_true d 0 t.regions)
role_takes Scope h a b c d t = same_true c 0 t.successors
role_takes Box h a b c d t = both_true _ _ (same_true b 0 t.results) (same_true c 0 t.successors)
role_takes Br h a b c d t = both_true _ _ (same_true b 0 t.results) (both_true _ _ (same_true c 1 t.successors) (same_true d 0 t.regions))
role_takes Cbr h a b c d t =
    both_true _ _ (both_true _ _ (same_true c 2 t.successors) (below_true (branch_edge_count h.attrs) a (first_count_below h.attrs a t.attributes)))
    (both_true _ _ (same_true b 0 t.results) (both_true _ _ (below_true 1 c (omega (arith, t.successors))) (same_true d 0 t.regions)))
role_takes Ret h a b c d t = both_true _ _ (same_true b 0 t.results) (both_true _ _ (same_true c 0 t.successors) (same_true d 0 t.regions))
role_takes Fork h a b c d t = below_true 0 c (omega (arith, t.successors))

pub admitted : (k : BenchKind) (h : Head) (a b c d : ℕ) → h.kind ≡ number_of_kind k → IsTrue (takes h a b c d k) → IsTrue (bench.admits h a b c d)
unfolding meaning_by
admitted k h a b c d e t = subst (λ o. IsTrue (by_role false (takes_by h a b c d) (option_map bench_role o) && by_kind bench_allows o h a b c d)) (sym (ap kind_of e ∙ numbered k)) (both_true _ _ (role_takes k h a b c d (taken k h a b c d t)) t)
