-- What the functions of a dialect of roles read and leave of the edges of a branch.
use Rattle.pliron_core.proofs.GrownLemmas.{range_at, range_get}
use Rattle.std.proofs.Common.{◌≡◌, ℕ, ◌+◌, ◌-◌, ◌<◌, slice_set, Bool, true, false, ◌&&◌, zero, suc, ◌≤◌, List, [], ◌∷◌, Option, Some, None, IsSome, length, map, IsTrue, refl, ap, ap₂, sym, ◌∙◌, subst, arith, tests}
use Rattle.std.specs.List.{slice_get, range_with_len}
use Rattle.std.specs.Option.{option_map}
use Rattle.std.specs.Prelude.{ℤ, pos}
use Rattle.std.proofs.lemmas.List.{nil_from_length, length-map}
use Rattle.std.proofs.lemmas.Option.{same_Some}
use Rattle.pliron_core.specs.declared.attrs.AttrObj.{AttrObj}
use Rattle.pliron_core.specs.declared.attrs.IRStatus.TheVariants.{Changed, Unchanged}
use Rattle.pliron_core.specs.Tree.{Tree, IsLive, row_of, head_of, operands_of, results_of, successors_of, regions_of}
use Rattle.pliron_core.specs.Changes.{IsSameTree}
use Rattle.pliron_core.specs.declared.attrs.AttrObj.TheVariants.{Int}
use Rattle.pliron_core.specs.Writes.{operand_removed, attribute_set, with_attribute}
use Rattle.pliron_laws.specs.Datum.{Head, Shape}
use Rattle.pliron_laws.specs.Tree.{Operation, op_at, op_with, shape_of, count_arguments, entry_block}
use Rattle.pliron_laws.specs.Acting.{pick}
use Rattle.pliron_laws.specs.Answers.{ReadsHead, ReadsCounts, ReadsEdges, HeadPasses, HasPlace, LosesForwarded, AreForwarded, IsForwardedAt, IsForwardedOnce, with_head}
use Rattle.pliron_laws.specs.Replacing.{branch_replaced}
use Rattle.pliron_laws.proofs.ShapeLemmas.{head_at, operands_at, live_at}
use Rattle.pliron_dialect.specs.Counted.{count_at, counts_edge, fewer_by, first_edge_count}
use Rattle.pliron_dialect.specs.Counts.{counted_by}
use Rattle.pliron_dialect.specs.declared.form.Counting.{Counting}
use Rattle.pliron_dialect.specs.declared.form.Counting.TheVariants.{OfFirst, OfEach}
use Rattle.pliron_dialect.specs.declared.form.Form.TheVariants.{Chooses as ChoosesForm}
use Rattle.pliron_dialect.specs.Roles.{Interpretation, Allows, head_of_kind, Role, Constant, Folds, Picks, Opaque, Jumps, Chooses, Leaves, Stops, Acts, Names, Forks, Holds, chosen_edge, edge_by_role, by_role, by_form, form_of, form_at, takes_by, meaning_by, branch_folds_by, feasible_by, folds_branch_of, feasible_of, edges_taken, only_edge, known_number_at, shortened_by, shortened_of, shortened_by_form, no_places, places_by_form, places_by_role}
use Rattle.pliron_dialect.specs.BranchLaws.{is_choice, distinct}
use Rattle.pliron_dialect.specs.Outcomes.{index_below, edge_of_role, admits_shape, edge_under, BecomesJump, JumpsWhereKnown, branch_outcome_by}
use Rattle.pliron_dialect.specs.Parts.{both_parts}
use Rattle.pliron_dialect.proofs.RangeReads.{successors_with}

-- the places of an edge as an answer that is read off the head
abbrev pub ReadsPlaces : (ℕ → Option Role) → Tree → ℕ → ℕ → List ℕ → Type 0
ReadsPlaces roles t op i places = ReadsHead (λ h. by_form no_places places_by_form (form_at roles h.kind) h.attrs (length (operands_of t op)) (length (successors_of t op)) i) t op places

places_are : (value : Interpretation) (roles : ℕ → Option Role) (allows : Allows) (t : Tree) (op i : ℕ) (places : List ℕ) (o : Operation) → ReadsPlaces roles t op i places → op_at t op ≡ Some o → places ≡ (meaning_by value roles allows).forwarded (shape_of (meaning_by value roles allows) t o) i
unfolding meaning_by shape_of
places_are value roles allows t op i places o f at =
    f o.head (head_at t op o at)
    ∙ ap (λ z. by_form no_places places_by_form (form_at roles o.head.kind) o.head.attrs (length z) (length (successors_of t op)) i) (sym (operands_at t op o at))
    ∙ ap (λ z. by_form no_places places_by_form (form_at roles o.head.kind) o.head.attrs (length o.operands) (length z) i) (sym (successors_with t op o at))
    ∙ places_by_role (roles o.head.kind) (shape_of (meaning_by value roles allows) t o) i

picked_same : (value : Interpretation) (roles : ℕ → Option Role) (allows : Allows) (t : Tree) (op i : ℕ) (places : List ℕ) (o : Operation) → ReadsPlaces roles t op i places → op_at t op ≡ Some o → pick places (operands_of t op) ≡ pick ((meaning_by value roles allows).forwarded (shape_of (meaning_by value roles allows) t o) i) o.operands
picked_same value roles allows t op i places o f at = ap (λ z. pick z (operands_of t op)) (places_are value roles allows t op i places o f at) ∙ ap (pick ((meaning_by value roles allows).forwarded (shape_of (meaning_by value roles allows) t o) i)) (sym (operands_at t op o at))

pub forwarded_read : (value : Interpretation) (roles : ℕ → Option Role) (allows : Allows) (t : Tree) (op i : ℕ) (places values : List ℕ) → ReadsPlaces roles t op i places → map Some values ≡ pick places (operands_of t op) → AreForwarded (meaning_by value roles allows) t op i values
forwarded_read value roles allows t op i places values f g = λ o at. g ∙ picked_same value roles allows t op i places o f at

pub forwarded_at_read : (value : Interpretation) (roles : ℕ → Option Role) (allows : Allows) (t : Tree) (op i j : ℕ) (places : List ℕ) (found : Option ℕ) → ReadsPlaces roles t op i places → option_map Some found ≡ slice_get (pick places (operands_of t op)) j → IsForwardedAt (meaning_by value roles allows) t op i j found
forwarded_at_read value roles allows t op i j places found f g = λ o at. g ∙ ap (λ z. slice_get z j) (picked_same value roles allows t op i places o f at)

-- an operand among the places of an edge of a branch is forwarded there alone
pub forwarded_once : (value : Interpretation) (roles : ℕ → Option Role) (allows : Allows) (t : Tree) (op place edge index first count : ℕ) → ReadsPlaces roles t op edge (range_with_len first count) → HeadPasses (meaning_by value roles allows).is_branch t op → edge < length (successors_of t op) → place ≡ first + index → index < count → IsForwardedOnce (meaning_by value roles allows) t op place edge index
unfolding meaning_by shape_of
forwarded_once value roles allows t op place edge index first count f branch within e lt = record {
  edge = within;
  there = there;
  alone = λ o at k l less is. distinct (roles o.head.kind) (shape_of (meaning_by value roles allows) t o) k edge l index place (branch o.head (head_at t op o at)) is (there o at);
}
  where
    there : (o : Operation) → op_at t op ≡ Some o → slice_get ((meaning_by value roles allows).forwarded (shape_of (meaning_by value roles allows) t o) edge) index ≡ Some place
    there o at = ap (λ z. slice_get z index) (sym (places_are value roles allows t op edge (range_with_len first count) o f at)) ∙ range_get first count index lt ∙ ap Some (sym e)

module _ (value : Interpretation) (roles : ℕ → Option Role) (allows : Allows) (n : ℕ) (ssa : Bool) where
  some_head : (o : Option Head) → IsSome o → (h : Head) × (o ≡ Some h)
  some_head None is = grind arith
  some_head (Some h) is = (h, refl)

  -- ---- an edge without one of its operands

  -- the place at index j of an edge with these places
  place_is : (t : Tree) (op i j first count p : ℕ) → ReadsPlaces roles t op i (range_with_len first count) → (o : Operation) → op_at t op ≡ Some o → slice_get ((meaning_by value roles allows).forwarded (shape_of (meaning_by value roles allows) t o) i) j ≡ Some p → (p ≡ first + j) × (j < count)
  place_is t op i j first count p reads o at place = range_at first count j p (ap (λ z. slice_get z j) (places_are value roles allows t op i (range_with_len first count) o reads at) ∙ place)

  pub place_below : (t : Tree) (op i j first count : ℕ) → IsLive t op → ReadsPlaces roles t op i (range_with_len first count) → HasPlace (meaning_by value roles allows) t op i j → j < count
  place_below t op i j first count live reads has =
      let o = live_at t op live in
      let p = has o.0 o.1 in
      (place_is t op i j first count p.0 reads o.0 o.1 p.1).1

  -- ---- a jump in the place of a branch

  pub becomes_jump : (t u : Tree) (op b edge : ℕ) (places values : List ℕ) → slice_get (successors_of t op) edge ≡ Some b → ReadsPlaces roles t op edge places → map Some values ≡ pick places (operands_of t op) → u ≡ branch_replaced t op (head_of_kind n ssa) values (b ∷ []) → (o : Operation) → op_at t op ≡ Some o → BecomesJump value roles allows n ssa t u op o edge
  becomes_jump t u op b edge places values to reads picked e o at = record {
    block = b;
    values = values;
    target = ap (λ z. slice_get z edge) (successors_with t op o at) ∙ to;
    forwarded = forwarded_read value roles allows t op edge places values reads picked o at;
    tree = e;
  }

-- ---- an attribute that counts one fewer

fewer_set : (counting : Counting) (attrs : List AttrObj) (c i : ℕ) (a : AttrObj) → counts_edge counting i ≡ true → i < c → slice_get attrs i ≡ Some a → slice_set attrs i (Int (pos (counted_by a - 1))) ≡ fewer_by counting attrs c i
fewer_set OfEach attrs c i a is lt at = ap (λ n. slice_set attrs i (Int (pos (n - 1)))) (sym (count_at c i attrs a lt at))
fewer_set OfFirst attrs c (suc i) a is lt at = grind arith
fewer_set OfFirst [] c zero a is lt at = grind arith
fewer_set OfFirst (x ∷ attrs) c zero a is lt at = ap (λ y. Int (pos (counted_by y - 1)) ∷ attrs) (sym (same_Some x a at))

fewer_kept : (counting : Counting) (attrs : List AttrObj) (c i : ℕ) → counts_edge counting i ≡ false → fewer_by counting attrs c i ≡ attrs
fewer_kept OfEach attrs c i is = grind arith
fewer_kept OfFirst attrs c zero is = grind arith
fewer_kept OfFirst attrs c (suc i) is = refl

set_past : {A : Type 0} (xs : List A) (i : ℕ) (x : A) → length xs ≤ i → slice_set xs i x ≡ xs
set_past [] i x le = refl
set_past (y ∷ xs) zero x le = absurd (omega (arith, le))
set_past (y ∷ xs) (suc i) x le = ap (λ z. y ∷ z) (set_past xs i x (omega (arith, le)))

fewer_past : (counting : Counting) (attrs : List AttrObj) (c i : ℕ) → length attrs ≤ i → fewer_by counting attrs c i ≡ attrs
fewer_past OfEach attrs c i le = set_past attrs i _ le
fewer_past OfFirst attrs c zero le = set_past attrs 0 _ le
fewer_past OfFirst attrs c (suc i) le = refl

pub shortened_set : (roles : ℕ → Option Role) (counting : Counting) (t u : Tree) (op i : ℕ) (attr a : AttrObj) (h₀ : Head) → u ≡ attribute_set t op i attr → i < length (successors_of t op) → counts_edge counting i ≡ true → attr ≡ Int (pos (counted_by a - 1)) → head_of t op ≡ Some h₀ → slice_get h₀.attrs i ≡ Some a → (h : Head) → head_of t op ≡ Some h → Some (ChoosesForm counting) ≡ form_at roles h.kind → u ≡ with_head t op (by_form h (shortened_by_form h (length (successors_of t op)) i) (form_at roles h.kind))
shortened_set roles counting t u op i attr a h₀ e lt is f here at h head form =
    let same : h₀ ≡ h = same_Some h₀ h (sym here ∙ head) in
    let there : slice_get h.attrs i ≡ Some a = subst (λ z. slice_get z.attrs i ≡ Some a) same at in
    e ∙ ap (λ o. record t { operations = slice_set t.operations op (record (row_of t op) { head = with_attribute o i attr }) }) head
    ∙ ap (λ x. with_head t op (record h { attrs = slice_set h.attrs i x })) f
    ∙ ap (λ x. with_head t op (record h { attrs = x })) (fewer_set counting h.attrs (length (successors_of t op)) i a is lt there)
    ∙ ap (λ o. with_head t op (by_form h (shortened_by_form h (length (successors_of t op)) i) o)) form

-- ---- the edge that is known

edge_told : (o : Option Role) (q : Option ℤ) (s : Shape) → index_below s.successors (edge_by_role o s.head s.successors q) ≡ edge_of_role s true q o
edge_told None None s = refl
edge_told None (Some c) s = refl
edge_told (Some Constant) None s = refl
edge_told (Some Constant) (Some c) s = refl
edge_told (Some (Folds n knows identity otherwise)) None s = refl
edge_told (Some (Folds n knows identity otherwise)) (Some c) s = refl
edge_told (Some (Picks truth)) None s = refl
edge_told (Some (Picks truth)) (Some c) s = refl
edge_told (Some Opaque) None s = refl
edge_told (Some Opaque) (Some c) s = refl
edge_told (Some Jumps) None s = refl
edge_told (Some Jumps) (Some c) s = refl
edge_told (Some (Chooses counting choose)) None s = refl
edge_told (Some (Chooses counting choose)) (Some c) s = refl
edge_told (Some Leaves) None s = refl
edge_told (Some Leaves) (Some c) s = refl
edge_told (Some Stops) None s = refl
edge_told (Some Stops) (Some c) s = refl
edge_told (Some (Acts says removes act)) None s = refl
edge_told (Some (Acts says removes act)) (Some c) s = refl
edge_told (Some (Names act named)) None s = refl
edge_told (Some (Names act named)) (Some c) s = refl
edge_told (Some (Forks says act)) None s = refl
edge_told (Some (Forks says act)) (Some c) s = refl
edge_told (Some (Holds says)) None s = refl
edge_told (Some (Holds says)) (Some c) s = refl

not_admitted : (o : Option Role) (q : Option ℤ) (s : Shape) → None ≡ edge_of_role s false q o
not_admitted o q s = refl

module _ (value : Interpretation) (roles : ℕ → Option Role) (allows : Allows) where
  -- what is read off the counts says whether the shape is admitted
  admits_with : (t : Tree) (op : ℕ) (admitted : Bool) (o : Operation) (h : Option Head) → head_of t op ≡ h → ReadsCounts (meaning_by value roles allows).admits t op admitted → op_with t op h ≡ Some o → admitted ≡ admits_shape roles allows (shape_of (meaning_by value roles allows) t o)
  unfolding meaning_by shape_of
  admits_with t op admitted o None e reads at = grind arith
  admits_with t op admitted o (Some h) e reads at =
      subst (λ z. admitted ≡ admits_shape roles allows (shape_of (meaning_by value roles allows) t z)) (same_Some _ o at)
      (reads h e ∙ ap (λ n. by_role false (takes_by h (length (operands_of t op)) (length (results_of t op)) (length (successors_of t op)) n) (roles h.kind) && allows h (length (operands_of t op)) (length (results_of t op)) (length (successors_of t op)) n) (sym (length-map (regions_of t op) (λ r. count_arguments (entry_block t r)))))

  admits_read : (t : Tree) (op : ℕ) (admitted : Bool) (o : Operation) → ReadsCounts (meaning_by value roles allows).admits t op admitted → op_at t op ≡ Some o → admitted ≡ admits_shape roles allows (shape_of (meaning_by value roles allows) t o)
  unfolding op_at
  admits_read t op admitted o reads at = admits_with t op admitted o (head_of t op) refl reads at

  -- how many successors the shape has
  edges_of : (t : Tree) (op : ℕ) (o : Operation) → op_at t op ≡ Some o → length (successors_of t op) ≡ (shape_of (meaning_by value roles allows) t o).successors
  unfolding shape_of
  edges_of t op o at = ap length (sym (successors_with t op o at))

  pub edge_taken : (t : Tree) (op n : ℕ) (known : List (Option AttrObj)) (edge said : Option ℕ) (admitted : Bool) → n ≡ length (successors_of t op) → ReadsHead (λ h. edge_by_role (roles h.kind) h (length (successors_of t op)) (known_number_at known 0)) t op said → edge ≡ index_below n said → ReadsCounts (meaning_by value roles allows).admits t op admitted → admitted ≡ true → (o : Operation) → op_at t op ≡ Some o → edge ≡ edge_under roles allows (shape_of (meaning_by value roles allows) t o) known
  unfolding shape_of
  edge_taken t op n known edge said admitted e reads f counts is o at =
      f ∙ ap₂ index_below (e ∙ edges_of t op o at) (reads o.head (head_at t op o at) ∙ ap (λ c. edge_by_role (roles o.head.kind) o.head c (known_number_at known 0)) (edges_of t op o at))
      ∙ edge_told (roles o.head.kind) (known_number_at known 0) (shape_of (meaning_by value roles allows) t o)
      ∙ ap (λ a. edge_of_role (shape_of (meaning_by value roles allows) t o) a (known_number_at known 0) (roles o.head.kind)) (sym is ∙ admits_read t op admitted o counts at)

  pub edge_not_taken : (t : Tree) (op : ℕ) (known : List (Option AttrObj)) (admitted : Bool) → ReadsCounts (meaning_by value roles allows).admits t op admitted → admitted ≡ false → (o : Operation) → op_at t op ≡ Some o → None ≡ edge_under roles allows (shape_of (meaning_by value roles allows) t o) known
  unfolding shape_of
  edge_not_taken t op known admitted counts is o at =
      not_admitted (roles o.head.kind) (known_number_at known 0) (shape_of (meaning_by value roles allows) t o)
      ∙ ap (λ a. edge_of_role (shape_of (meaning_by value roles allows) t o) a (known_number_at known 0) (roles o.head.kind)) (sym is ∙ admits_read t op admitted o counts at)

-- ---- what folding a branch answers and leaves

role_feasible : (r : Role) (s : Shape) (targets : List ℕ) (q : Option ℤ) (known : List (Option AttrObj)) → IsTrue (folds_branch_of (form_of r)) → known_number_at known 0 ≡ q → only_edge targets (edge_by_role (Some r) s.head s.successors q) ≡ feasible_of s targets known r
role_feasible (Chooses counting choose) s targets None known f e = ap (edges_taken targets (chosen_edge counting choose s)) (sym e)
role_feasible (Chooses counting choose) s targets (Some c) known f e = ap (edges_taken targets (chosen_edge counting choose s)) (sym e)
role_feasible _ s targets q known f e = grind arith

all_feasible : (o : Option Role) (s : Shape) (targets : List ℕ) (known : List (Option AttrObj)) → IsTrue (by_form false folds_branch_of (option_map form_of o)) → only_edge targets (edge_by_role o s.head s.successors (known_number_at known 0)) ≡ by_role targets (feasible_of s targets known) o
all_feasible None s targets known f = grind arith
all_feasible (Some r) s targets known f = role_feasible r s targets (known_number_at known 0) known f refl

bounded_below : (n e : ℕ) (o : Option ℕ) → index_below n o ≡ Some e → e < n
bounded_below n e None f = grind arith
bounded_below n e (Some i) f = grind (arith, tests, f)

role_facts : (allows : Allows) (s : Shape) (a : Bool) (q : Option ℤ) (r : Option Role) (e : ℕ) → (by_role false (takes_by s.head s.operands s.results s.successors (length s.entry_arguments)) r && allows s.head s.operands s.results s.successors (length s.entry_arguments)) ≡ a → edge_of_role s a q r ≡ Some e → (e < s.successors) × (s.results ≡ 0) × (length s.entry_arguments ≡ 0)
role_facts allows s true (Some c) (Some (Chooses counting choose)) e h f = let k = is_choice counting choose s.head s.operands s.results s.successors (length s.entry_arguments) (both_parts _ _ h).0 in (bounded_below s.successors e (chosen_edge counting choose s c) f, k.results, k.regions)
role_facts allows s _ _ _ e h f = grind arith

results_with : (t : Tree) (op : ℕ) (o : Operation) → op_at t op ≡ Some o → o.results ≡ results_of t op
unfolding op_at
results_with t op o at = go (head_of t op) at
  where
    go : (h : Option Head) → op_with t op h ≡ Some o → o.results ≡ results_of t op
    go None e = grind arith
    go (Some h) e = sym (ap (λ z. z.results) (same_Some _ o e))

regions_with : (t : Tree) (op : ℕ) (o : Operation) → op_at t op ≡ Some o → o.regions ≡ regions_of t op
unfolding op_at
regions_with t op o at = go (head_of t op) at
  where
    go : (h : Option Head) → op_with t op h ≡ Some o → o.regions ≡ regions_of t op
    go None e = grind arith
    go (Some h) e = sym (ap (λ z. z.regions) (same_Some _ o e))

module _ (value : Interpretation) (roles : ℕ → Option Role) (allows : Allows) (n : ℕ) (ssa : Bool) where
  pub taken_read : (t : Tree) (op : ℕ) (known : List (Option AttrObj)) (items : List ℕ) (said : Option ℕ) → HeadPasses (branch_folds_by roles) t op → ReadsHead (λ h. edge_by_role (roles h.kind) h (length (successors_of t op)) (known_number_at known 0)) t op said → items ≡ only_edge (successors_of t op) said → ReadsEdges (meaning_by value roles allows) (λ s targets. feasible_by roles s targets known) t op items
  unfolding branch_folds_by feasible_by shape_of
  taken_read t op known items said passes reads i = λ o at.
      i ∙ ap₂ only_edge (sym (successors_with t op o at)) (reads o.head (head_at t op o at) ∙ ap (λ c. edge_by_role (roles o.head.kind) o.head c (known_number_at known 0)) (ap length (sym (successors_with t op o at))))
      ∙ all_feasible (roles o.head.kind) (shape_of (meaning_by value roles allows) t o) o.successors known (passes o.head (head_at t op o at))

  -- the edge, the results and the regions of a branch whose edge is known
  pub taken_facts : (t : Tree) (op e : ℕ) (known : List (Option AttrObj)) → IsLive t op → ((o : Operation) → op_at t op ≡ Some o → Some e ≡ edge_under roles allows (shape_of (meaning_by value roles allows) t o) known) → (e < length (successors_of t op)) × (results_of t op ≡ []) × (regions_of t op ≡ [])
  unfolding shape_of
  taken_facts t op e known live is =
      let o = live_at t op live in
      let f = role_facts allows (shape_of (meaning_by value roles allows) t o.0) (admits_shape roles allows (shape_of (meaning_by value roles allows) t o.0)) (known_number_at known 0) (roles o.0.head.kind) e refl (sym (is o.0 o.1)) in
      (subst (λ z. e < length z) (successors_with t op o.0 o.1) f.0, nil_from_length (results_of t op) (ap length (sym (results_with t op o.0 o.1)) ∙ f.1), nil_from_length (regions_of t op) (ap length (sym (regions_with t op o.0 o.1)) ∙ sym (length-map o.0.regions (λ r. count_arguments (entry_block t r))) ∙ f.2))

  pub jumps_known : (t u : Tree) (op e : ℕ) (known : List (Option AttrObj)) → IsLive t op → ((o : Operation) → op_at t op ≡ Some o → Some e ≡ edge_under roles allows (shape_of (meaning_by value roles allows) t o) known) → ((o : Operation) → op_at t op ≡ Some o → BecomesJump value roles allows n ssa t u op o e) → branch_outcome_by value roles allows n ssa t u op known (Some Changed)
  unfolding branch_outcome_by
  jumps_known t u op e known live is jumps =
      let o = live_at t op live in
      (o.0, o.1, subst (λ k. JumpsWhereKnown value roles allows n ssa k t u op o.0 (Some Changed)) (is o.0 o.1) (jumps o.0 o.1, refl))

  pub branch_stays : (t : Tree) (op : ℕ) (known : List (Option AttrObj)) → IsLive t op → ((o : Operation) → op_at t op ≡ Some o → None ≡ edge_under roles allows (shape_of (meaning_by value roles allows) t o) known) → branch_outcome_by value roles allows n ssa t t op known (Some Unchanged)
  unfolding branch_outcome_by
  branch_stays t op known live is =
      let o = live_at t op live in (o.0, o.1, subst (λ k. JumpsWhereKnown value roles allows n ssa k t t op o.0 (Some Unchanged)) (is o.0 o.1) (refl, refl))

  pub jump_refused : (t u : Tree) (op : ℕ) (known : List (Option AttrObj)) → IsLive t op → IsSameTree t u → branch_outcome_by value roles allows n ssa t u op known None
  unfolding branch_outcome_by
  jump_refused t u op known live same = let o = live_at t op live in (o.0, o.1, same)

  -- ---- an operand that an edge loses

  pub edge_loses : (t u u' : Tree) (op i j first count v : ℕ) → ReadsPlaces roles t op i (range_with_len first count) → slice_get (operands_of t op) (first + j) ≡ Some v → u ≡ operand_removed t op (first + j) → ((h : Head) → head_of u op ≡ Some h → u' ≡ with_head u op (by_form h (shortened_by_form h (length (successors_of u op)) i) (form_at roles h.kind))) → LosesForwarded (meaning_by value roles allows) (shortened_by roles) t u' op i j v
  unfolding shortened_by shape_of
  edge_loses t u u' op i j first count v reads at e shortened = λ o p is place.
      let here : p ≡ first + j = (place_is value roles allows n ssa t op i j first count p reads o is place).0 in
      let head : head_of u op ≡ Some o.head = ap (λ z. head_of z op) e ∙ head_at t op o is in
      let edges : length (successors_of u op) ≡ length o.successors = ap (λ z. length (successors_of z op)) e ∙ ap length (sym (successors_with t op o is)) in (
        ap (slice_get o.operands) here ∙ ap (λ z. slice_get z (first + j)) (operands_at t op o is) ∙ at,
        shortened o.head head
            ∙ ap (λ c. with_head u op (by_form o.head (shortened_by_form o.head c i) (form_at roles o.head.kind))) edges
            ∙ ap (λ z. with_head u op z) (shortened_same (roles o.head.kind) (shape_of (meaning_by value roles allows) t o) i)
            ∙ ap (λ z. with_head z op (by_role o.head (shortened_of (shape_of (meaning_by value roles allows) t o) i) (roles o.head.kind))) (e ∙ ap (operand_removed t op) (sym here)),
      )
    where
      shortened_same : (o : Option Role) (s : Shape) (k : ℕ) → by_form s.head (shortened_by_form s.head s.successors k) (option_map form_of o) ≡ by_role s.head (shortened_of s k) o
      shortened_same None s k = refl
      shortened_same (Some Constant) s k = refl
      shortened_same (Some (Folds w x y z)) s k = refl
      shortened_same (Some (Picks x)) s k = refl
      shortened_same (Some Opaque) s k = refl
      shortened_same (Some Jumps) s k = refl
      shortened_same (Some (Chooses x y)) s k = refl
      shortened_same (Some Leaves) s k = refl
      shortened_same (Some Stops) s k = refl
      shortened_same (Some (Acts x y z)) s k = refl
      shortened_same (Some (Names x y)) s k = refl
      shortened_same (Some (Forks x y)) s k = refl
      shortened_same (Some (Holds x)) s k = refl
