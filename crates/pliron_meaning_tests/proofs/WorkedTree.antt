-- The worked tree is the tree of a context.
use Rattle.std.proofs.Common.{◌≡◌, ◌<◌, ℕ, zero, suc, [], ◌∷◌, Some, None, slice_get, refl, sym, subst, inl, inr, arith}
use Rattle.pliron_core.specs.declared.context.Def.TheVariants.{Result, Argument}
use Rattle.pliron_core.specs.Lists.{IsDistinct}
use Rattle.pliron_core.specs.Rising.{IsRising}
use Rattle.pliron_core.specs.Tree.{In, IsLive, IsBlock, IsRegion, IsDefined, IsRooted, no_entry, row_of, head_of, operands_of, successors_of, results_of, regions_of, parent_of, body_of, arguments_of, block_parent_of, layout_of, slot_of, definition_of, parent_operation_of}
use Rattle.pliron_core.specs.Invariant.{HaveSameKeys, IsJoined, IsTree}
use Rattle.pliron_core.proofs.HoldingLemmas.{some_is, not_none}
use Rattle.pliron_meaning_tests.specs.Worked.{worked_example}

only : {x y : ℕ} → In x (y ∷ []) → x ≡ y
only (inl e) = e
only (inr i) = absurd i

all_in_place : (x b : ℕ) → parent_of worked_example x ≡ Some b → IsLive worked_example x × IsBlock worked_example b
all_in_place zero b e = absurd (not_none e)
all_in_place (suc zero) b e = (refl, subst (λ z. IsBlock worked_example z) (some_is e) refl)
all_in_place (suc (suc zero)) b e = (refl, subst (λ z. IsBlock worked_example z) (some_is e) refl)
all_in_place (suc (suc (suc zero))) b e = (refl, subst (λ z. IsBlock worked_example z) (some_is e) refl)
all_in_place (suc (suc (suc (suc x)))) b e = absurd (not_none e)

placed : (b r : ℕ) → block_parent_of worked_example b ≡ Some r → IsRegion worked_example r
placed zero r e = subst (λ z. IsRegion worked_example z) (some_is e) refl
placed (suc zero) r e = subst (λ z. IsRegion worked_example z) (some_is e) refl
placed (suc (suc b)) r e = absurd (not_none e)

regions : (k i r : ℕ) → slice_get (regions_of worked_example k) i ≡ Some r → slot_of worked_example r ≡ Some (record { op = k; index = i })
regions zero zero r e = subst (λ z. slot_of worked_example z ≡ Some (record { op = 0; index = 0 })) (some_is e) refl
regions zero (suc i) r e = absurd (not_none e)
regions (suc zero) i r e = absurd (not_none e)
regions (suc (suc zero)) i r e = absurd (not_none e)
regions (suc (suc (suc zero))) i r e = absurd (not_none e)
regions (suc (suc (suc (suc k)))) i r e = absurd (not_none e)

results : (k i v : ℕ) → slice_get (results_of worked_example k) i ≡ Some v → definition_of worked_example v ≡ Some (Result k i)
results zero i v e = absurd (not_none e)
results (suc zero) zero v e = subst (λ z. definition_of worked_example z ≡ Some (Result 1 0)) (some_is e) refl
results (suc zero) (suc i) v e = absurd (not_none e)
results (suc (suc zero)) i v e = absurd (not_none e)
results (suc (suc (suc zero))) zero v e = subst (λ z. definition_of worked_example z ≡ Some (Result 3 0)) (some_is e) refl
results (suc (suc (suc zero))) (suc i) v e = absurd (not_none e)
results (suc (suc (suc (suc k)))) i v e = absurd (not_none e)

arguments : (b i v : ℕ) → slice_get (arguments_of worked_example b) i ≡ Some v → definition_of worked_example v ≡ Some (Argument b i)
arguments zero i v e = absurd (not_none e)
arguments (suc zero) zero v e = subst (λ z. definition_of worked_example z ≡ Some (Argument 1 0)) (some_is e) refl
arguments (suc zero) (suc i) v e = absurd (not_none e)
arguments (suc (suc b)) i v e = absurd (not_none e)

operands : (k v : ℕ) → In v (operands_of worked_example k) → IsDefined worked_example v
operands zero v i = absurd i
operands (suc zero) v i = absurd i
operands (suc (suc zero)) v i = subst (λ z. IsDefined worked_example z) (sym (only i)) refl
operands (suc (suc (suc zero))) v i = subst (λ z. IsDefined worked_example z) (sym (only i)) refl
operands (suc (suc (suc (suc k)))) v i = absurd i

successors : (k b : ℕ) → In b (successors_of worked_example k) → IsBlock worked_example b
successors zero b i = absurd i
successors (suc zero) b i = absurd i
successors (suc (suc zero)) b i = subst (λ z. IsBlock worked_example z) (sym (only i)) refl
successors (suc (suc (suc zero))) b i = absurd i
successors (suc (suc (suc (suc k)))) b i = absurd i

ordered : (r : ℕ) → IsRising (layout_of worked_example r)
ordered zero = (λ y i. subst (λ z. 0 < z) (sym (only i)) (omega arith), (λ y i. absurd i, tt))
ordered (suc r) = tt

erased : (k : ℕ) → head_of worked_example k ≡ None → (operands_of worked_example k ≡ []) × (successors_of worked_example k ≡ []) × (row_of worked_example k ≡ no_entry)
erased zero e = absurd (not_none (sym e))
erased (suc zero) e = absurd (not_none (sym e))
erased (suc (suc zero)) e = absurd (not_none (sym e))
erased (suc (suc (suc zero))) e = absurd (not_none (sym e))
erased (suc (suc (suc (suc k)))) e = (refl, refl, refl)

unplaced : (b : ℕ) → block_parent_of worked_example b ≡ None → (arguments_of worked_example b ≡ []) × (body_of worked_example b ≡ [])
unplaced zero e = absurd (not_none (sym e))
unplaced (suc zero) e = absurd (not_none (sym e))
unplaced (suc (suc b)) e = (refl, refl)

rooted : IsRooted (parent_operation_of worked_example)
rooted zero = (1, refl)
rooted (suc zero) = (2, refl)
rooted (suc (suc zero)) = (2, refl)
rooted (suc (suc (suc zero))) = (2, refl)
rooted (suc (suc (suc (suc x)))) = (1, refl)

in_body : (x l : ℕ) → parent_of worked_example x ≡ Some l → In x (body_of worked_example l)
in_body zero l e = absurd (not_none e)
in_body (suc zero) l e = subst (λ z. In 1 (body_of worked_example z)) (some_is e) (inl refl)
in_body (suc (suc zero)) l e = subst (λ z. In 2 (body_of worked_example z)) (some_is e) (inr (inl refl))
in_body (suc (suc (suc zero))) l e = subst (λ z. In 3 (body_of worked_example z)) (some_is e) (inl refl)
in_body (suc (suc (suc (suc x)))) l e = absurd (not_none e)

body_owned : (x l : ℕ) → In x (body_of worked_example l) → parent_of worked_example x ≡ Some l
body_owned x zero (inl e) = subst (λ z. parent_of worked_example z ≡ Some 0) (sym e) refl
body_owned x zero (inr i) = subst (λ z. parent_of worked_example z ≡ Some 0) (sym (only i)) refl
body_owned x (suc zero) i = subst (λ z. parent_of worked_example z ≡ Some 1) (sym (only i)) refl
body_owned x (suc (suc l)) i = absurd i

body_once : (l : ℕ) → IsDistinct (body_of worked_example l)
body_once zero = (λ i. let e : 1 ≡ 2 = only i in absurd (omega (arith, e)), (λ i. i, tt))
body_once (suc zero) = (λ i. i, tt)
body_once (suc (suc l)) = tt

in_layout : (x l : ℕ) → block_parent_of worked_example x ≡ Some l → In x (layout_of worked_example l)
in_layout zero l e = subst (λ z. In 0 (layout_of worked_example z)) (some_is e) (inl refl)
in_layout (suc zero) l e = subst (λ z. In 1 (layout_of worked_example z)) (some_is e) (inr (inl refl))
in_layout (suc (suc x)) l e = absurd (not_none e)

layout_owned : (x l : ℕ) → In x (layout_of worked_example l) → block_parent_of worked_example x ≡ Some l
layout_owned x zero (inl e) = subst (λ z. block_parent_of worked_example z ≡ Some 0) (sym e) refl
layout_owned x zero (inr i) = subst (λ z. block_parent_of worked_example z ≡ Some 0) (sym (only i)) refl
layout_owned x (suc l) i = absurd i

layout_once : (l : ℕ) → IsDistinct (layout_of worked_example l)
layout_once zero = (λ i. let e : 0 ≡ 1 = only i in absurd (omega (arith, e)), (λ i. i, tt))
layout_once (suc l) = tt

joined : IsJoined worked_example
joined = record {
  all_in_place = all_in_place;
  placed = placed;
  regions = regions;
  results = results;
  arguments = arguments;
  operands = operands;
  successors = successors;
  ordered = ordered;
  erased = erased;
  unplaced = unplaced;
  rooted = rooted;
}

same_keys : HaveSameKeys worked_example
same_keys = record {
  operands = refl;
  successors = refl;
  parents = refl;
  arguments = refl;
  block_parents = refl;
  slots = refl;
}

pub worked_tree : IsTree worked_example
worked_tree = record {
  keys = same_keys;
  joined = joined;
  bodies = record { listed = in_body; owned = body_owned; distinct = body_once };
  layouts = record { listed = in_layout; owned = layout_owned; distinct = layout_once };
}
