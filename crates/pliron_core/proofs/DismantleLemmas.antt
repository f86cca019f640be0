-- The invariant of a tree is kept where a part of it goes that nothing names.
use Rattle.std.proofs.Common.{◌≡◌, ◌≢◌, ℕ, ◌-◌, ◌<◌, List, [], ◌∷◌, ◌++◌, length, take, Option, Some, None, IsSome, is_some, refl, sym, ap, ◌∙◌, subst, inl, inr, arith, slice_get}
use Rattle.std.proofs.lemmas.Bool.{cases_eq}
use Rattle.std.proofs.lemmas.List.{get_or-set_other, get_or-set_same, length-set}
use Rattle.std.proofs.lemmas.Option.{slice_get_within}
use Rattle.pliron_core.specs.declared.context.Def.{Def}
use Rattle.pliron_core.specs.declared.context.Def.TheVariants.{Result, Argument}
use Rattle.pliron_core.specs.Tree.{Tree, View, In, IsLive, IsBlock, IsRegion, IsListedBy, IsMadeBy, IsRising, no_entry, up_from, row_of, head_of, results_of, regions_of, operands_of, successors_of, parent_of, body_of, arguments_of, block_parent_of, layout_of, slot_of, definition_of, parent_operation_of, block_parent_operation_of, region_parent_of}
use Rattle.pliron_core.specs.Lists.{AreOwned}
use Rattle.pliron_core.specs.Invariant.{IsJoined, IsTree, IsWellFormed}
use Rattle.pliron_core.specs.Erased.{block_taken_from}
use Rattle.pliron_core.specs.Dismantling.{after_dismantling, region_popped, last_region_of}
use Rattle.pliron_core.proofs.TreeLemmas.{live-within, block-within, region_owner, rooted_cut, live_dead}
use Rattle.pliron_core.proofs.LastLemmas.{last_front, take_front, get_before, get_kept, without_rising}

-- a value stays defined where its maker's list stays
defined_kept : (t u : Tree) (v : ℕ) (d : Option Def) → ((k i : ℕ) → d ≡ Some (Result k i) → results_of u k ≡ results_of t k) → ((b i : ℕ) → d ≡ Some (Argument b i) → arguments_of u b ≡ arguments_of t b) → IsMadeBy t v d → IsMadeBy u v d
defined_kept t u v None r a x = x
defined_kept t u v (Some (Result k i)) r a x = ap (λ l. slice_get l i) (r k i refl) ∙ x
defined_kept t u v (Some (Argument b i)) r a x = ap (λ l. slice_get l i) (a b i refl) ∙ x

-- a region stays where its operation's list keeps it
region_kept : (t u : Tree) (r : ℕ) → u.slots ≡ t.slots → ((k i : ℕ) → slice_get (regions_of t k) i ≡ Some r → slice_get (regions_of u k) i ≡ Some r) → IsRegion t r → IsRegion u r
region_kept t u r slots kept is =
    let s = region_owner t r is in
    subst (IsListedBy u r) (sym (ap (λ z. slice_get z r) slots ∙ s.1)) (kept s.0.op s.0.index s.2)

no_member : (xs : List ℕ) (x : ℕ) → xs ≡ [] → In x xs → ⊥
no_member xs x e i = subst (In x) e i

-- an operation in no block, that names nothing and whose results nothing names, loses its entry
module _ (t : Tree) (op : ℕ) (w : IsJoined t) (live : IsLive t op) (free : parent_of t op ≡ None) (no_operands : operands_of t op ≡ []) (no_successors : successors_of t op ≡ []) (no_regions : regions_of t op ≡ []) (unnamed : (x v i : ℕ) → In v (operands_of t x) → definition_of t v ≡ Some (Result op i) → ⊥) where
  other : (k : ℕ) → k ≢ op → row_of (after_dismantling t op) k ≡ row_of t k
  other k ne = get_or-set_other t.operations op k no_entry no_entry ne

  own : (k : ℕ) → k ≡ op → row_of (after_dismantling t op) k ≡ no_entry
  own k e = ap (row_of (after_dismantling t op)) e ∙ get_or-set_same t.operations op no_entry no_entry (live-within t op live)

  buried_region : (k i r : ℕ) → slice_get (regions_of t k) i ≡ Some r → slice_get (regions_of (after_dismantling t op) k) i ≡ Some r
  buried_region k i r e = elim (cases_eq k op) [
    | inl s ↦ let f : slice_get {X = ℕ} [] i ≡ Some r = ap (λ z. slice_get z i) (sym (ap (regions_of t) s ∙ no_regions)) ∙ e in absurd (cc)
    | inr ne ↦ ap (λ z. slice_get z.regions i) (other k ne) ∙ e
  ]

  buried_regions : (k i r : ℕ) → slice_get (regions_of (after_dismantling t op) k) i ≡ Some r → slot_of t r ≡ Some (record { op = k; index = i })
  buried_regions k i r e = elim (cases_eq k op) [
    | inl s ↦ let f : slice_get {X = ℕ} [] i ≡ Some r = ap (λ z. slice_get z.regions i) (sym (own k s)) ∙ e in absurd (cc)
    | inr ne ↦ w.regions k i r (ap (λ z. slice_get z.regions i) (sym (other k ne)) ∙ e)
  ]

  buried_results : (k i v : ℕ) → slice_get (results_of (after_dismantling t op) k) i ≡ Some v → definition_of t v ≡ Some (Result k i)
  buried_results k i v e = elim (cases_eq k op) [
    | inl s ↦ let f : slice_get {X = ℕ} [] i ≡ Some v = ap (λ z. slice_get z.results i) (sym (own k s)) ∙ e in absurd (cc)
    | inr ne ↦ w.results k i v (ap (λ z. slice_get z.results i) (sym (other k ne)) ∙ e)
  ]

  buried_erased : (k : ℕ) → head_of (after_dismantling t op) k ≡ None → (operands_of t k ≡ []) × (successors_of t k ≡ []) × (row_of (after_dismantling t op) k ≡ no_entry)
  buried_erased k e = elim (cases_eq k op) [
    | inl s ↦ (ap (operands_of t) s ∙ no_operands, ap (successors_of t) s ∙ no_successors, own k s)
    | inr ne ↦ let x = w.erased k (ap (λ z. z.head) (sym (other k ne)) ∙ e) in (x.0, x.1, other k ne ∙ x.2)
  ]

  pub kept_bury : IsJoined (after_dismantling t op)
  kept_bury = record {
    all_in_place = λ x b e.
        let s = w.all_in_place x b e in
        let ne : x ≢ op = λ f. let y : None ≡ Some b = sym free ∙ ap (parent_of t) (sym f) ∙ e in cc in
        (subst (λ z. IsSome z.head) (sym (other x ne)) s.0, s.1);
    placed = λ b r e. region_kept t (after_dismantling t op) r refl (λ k i f. buried_region k i r f) (w.placed b r e);
    regions = buried_regions;
    results = buried_results;
    arguments = w.arguments;
    operands = λ k v i. defined_kept t (after_dismantling t op) v (definition_of t v) (λ j n f. ap (λ z. z.results) (other j (λ s. unnamed k v n i (f ∙ ap (λ z. Some (Result z n)) s)))) (λ b n f. refl) (w.operands k v i);
    successors = w.successors;
    ordered = w.ordered;
    erased = buried_erased;
    unplaced = w.unplaced;
    rooted = w.rooted;
  }

-- an operation loses its last region, which is empty
module _ (t : Tree) (op r : ℕ) (is : IsTree t) (live : IsLive t op) (last : last_region_of t op ≡ Some r) (empty : layout_of t r ≡ []) where
  w : IsJoined t
  w = is.joined

  u : Tree
  u = region_popped t op

  pop_other : (k : ℕ) → k ≢ op → row_of (region_popped t op) k ≡ row_of t k
  pop_other k ne = get_or-set_other t.operations op k _ no_entry ne

  pop_own : row_of (region_popped t op) op ≡ record (row_of t op) { regions = take (length (regions_of t op) - 1) (regions_of t op) }
  pop_own = get_or-set_same t.operations op _ no_entry (live-within t op live)

  pop_head : (k : ℕ) → head_of (region_popped t op) k ≡ head_of t k
  pop_head k = elim (cases_eq k op) [ inl s ↦ ap (head_of (region_popped t op)) s ∙ ap (λ z. z.head) pop_own ∙ ap (head_of t) (sym s) | inr ne ↦ ap (λ z. z.head) (pop_other k ne) ]

  pop_results : (k : ℕ) → results_of (region_popped t op) k ≡ results_of t k
  pop_results k = elim (cases_eq k op) [ inl s ↦ ap (results_of (region_popped t op)) s ∙ ap (λ z. z.results) pop_own ∙ ap (results_of t) (sym s) | inr ne ↦ ap (λ z. z.results) (pop_other k ne) ]

  front : List ℕ
  front = (last_front (regions_of t op) r last).0

  split : regions_of t op ≡ (last_front (regions_of t op) r last).0 ++ r ∷ []
  split = (last_front (regions_of t op) r last).1

  pop_regions : regions_of (region_popped t op) op ≡ (last_front (regions_of t op) r last).0
  pop_regions = ap (λ z. z.regions) pop_own ∙ ap (λ xs. take (length xs - 1) xs) split ∙ take_front (last_front (regions_of t op) r last).0 r

  popped_region : (k i q : ℕ) → q ≢ r → slice_get (regions_of t k) i ≡ Some q → slice_get (regions_of (region_popped t op) k) i ≡ Some q
  popped_region k i q differs e = elim (cases_eq k op) [
    | inl s ↦ ap (λ z. slice_get (regions_of (region_popped t op) z) i) s ∙ ap (λ z. slice_get z i) pop_regions ∙ get_before (last_front (regions_of t op) r last).0 r i q (ap (λ z. slice_get z i) (sym (ap (regions_of t) s ∙ split)) ∙ e) differs
    | inr ne ↦ ap (λ z. slice_get z.regions i) (pop_other k ne) ∙ e
  ]

  popped_regions : (k i q : ℕ) → slice_get (regions_of (region_popped t op) k) i ≡ Some q → slot_of t q ≡ Some (record { op = k; index = i })
  popped_regions k i q e = elim (cases_eq k op) [
    | inl s ↦ w.regions k i q (ap (λ z. slice_get z i) (ap (regions_of t) s ∙ split) ∙ get_kept (last_front (regions_of t op) r last).0 r i q (ap (λ z. slice_get z i) (sym (ap (regions_of (region_popped t op)) s ∙ pop_regions)) ∙ e))
    | inr ne ↦ w.regions k i q (ap (λ z. slice_get z.regions i) (sym (pop_other k ne)) ∙ e)
  ]

  popped_erased : (k : ℕ) → head_of (region_popped t op) k ≡ None → (operands_of t k ≡ []) × (successors_of t k ≡ []) × (row_of (region_popped t op) k ≡ no_entry)
  popped_erased k e =
      let f : head_of t k ≡ None = sym (pop_head k) ∙ e in
      let x = w.erased k f in
      (x.0, x.1, pop_other k (λ s. live_dead t op live (ap (head_of t) (sym s) ∙ f)) ∙ x.2)

  pub kept_popped : IsJoined (region_popped t op)
  kept_popped = record {
    all_in_place = λ x b e. let s = w.all_in_place x b e in (subst IsSome (sym (pop_head x)) s.0, s.1);
    placed = λ b q e.
        let differs : q ≢ r = λ s. no_member (layout_of t q) b (ap (layout_of t) s ∙ empty) (is.layouts.listed b q e) in
        region_kept t (region_popped t op) q refl (λ k i f. popped_region k i q differs f) (w.placed b q e);
    regions = popped_regions;
    results = λ k i v e. w.results k i v (ap (λ l. slice_get l i) (sym (pop_results k)) ∙ e);
    arguments = w.arguments;
    operands = λ k v i. defined_kept t (region_popped t op) v (definition_of t v) (λ j n f. pop_results j) (λ b n f. refl) (w.operands k v i);
    successors = w.successors;
    ordered = w.ordered;
    erased = popped_erased;
    unplaced = w.unplaced;
    rooted = w.rooted;
  }

-- an empty block that no operation names, and whose arguments nothing names, leaves its region
module _ (t : Tree) (block r : ℕ) (is : IsTree t) (at : block_parent_of t block ≡ Some r) (empty : body_of t block ≡ []) (not_named : (x : ℕ) → In block (successors_of t x) → ⊥) (unnamed : (x v i : ℕ) → In v (operands_of t x) → definition_of t v ≡ Some (Argument block i) → ⊥) where
  abbrev after : Tree
  after = block_taken_from t block (Some r)

  lt : block < length t.bodies
  lt = block-within t block is.keys (ap is_some at)

  out_parent : (b : ℕ) → b ≢ block → block_parent_of (block_taken_from t block (Some r)) b ≡ block_parent_of t b
  out_parent b ne = get_or-set_other t.block_parents block b None None ne

  out_own : (b : ℕ) → b ≡ block → block_parent_of (block_taken_from t block (Some r)) b ≡ None
  out_own b s = ap (block_parent_of (block_taken_from t block (Some r))) s ∙ get_or-set_same t.block_parents block None None (let k = is.keys.block_parents in omega (arith, lt, k))

  out_arguments : (b : ℕ) → b ≢ block → arguments_of (block_taken_from t block (Some r)) b ≡ arguments_of t b
  out_arguments b ne = get_or-set_other t.arguments block b [] [] ne

  out_own_arguments : (b : ℕ) → b ≡ block → arguments_of (block_taken_from t block (Some r)) b ≡ []
  out_own_arguments b s = ap (arguments_of (block_taken_from t block (Some r))) s ∙ get_or-set_same t.arguments block [] [] (let k = is.keys.arguments in omega (arith, lt, k))

  holds_nothing : (x b : ℕ) → parent_of t x ≡ Some b → b ≢ block
  holds_nothing x b e s = no_member (body_of t b) x (ap (body_of t) s ∙ empty) (is.bodies.listed x b e)

  was_placed : (b q : ℕ) → block_parent_of (block_taken_from t block (Some r)) b ≡ Some q → (b ≢ block) × (block_parent_of t b ≡ Some q)
  was_placed b q e = elim (cases_eq b block) [
    | inl s ↦ absurd (let f : None ≡ Some q = sym (out_own b s) ∙ e in cc)
    | inr ne ↦ (ne, sym (out_parent b ne) ∙ e)
  ]

  stays_block : (b : ℕ) → b ≢ block → IsBlock t b → IsBlock (block_taken_from t block (Some r)) b
  stays_block b ne i = subst IsSome (sym (out_parent b ne)) i

  out_argument : (b i v : ℕ) → slice_get (arguments_of (block_taken_from t block (Some r)) b) i ≡ Some v → definition_of t v ≡ Some (Argument b i)
  out_argument b i v e = elim (cases_eq b block) [
    | inl s ↦ let f : slice_get {X = ℕ} [] i ≡ Some v = ap (λ z. slice_get z i) (sym (out_own_arguments b s)) ∙ e in absurd (cc)
    | inr ne ↦ is.joined.arguments b i v (ap (λ z. slice_get z i) (sym (out_arguments b ne)) ∙ e)
  ]

  out_layout : (q : ℕ) → IsRising (layout_of (block_taken_from t block (Some r)) q)
  out_layout q = elim (cases_eq q r) [
    | inl s ↦ subst (λ z. IsRising (layout_of (block_taken_from t block (Some r)) z)) (sym s) (subst IsRising (sym (get_or-set_same t.layouts r _ [] within)) (without_rising block (layout_of t r) (is.joined.ordered r)))
    | inr ne ↦ subst IsRising (sym (get_or-set_other t.layouts r q _ [] ne)) (is.joined.ordered q)
  ]
    where
      within : r < length t.layouts
      within = let o = region_owner t r (is.joined.placed block r at) in let k = is.keys.slots in let h = slice_get_within t.slots r o.0 o.1 in omega (arith, h, k)

  out_unplaced : (b : ℕ) → block_parent_of (block_taken_from t block (Some r)) b ≡ None → (arguments_of (block_taken_from t block (Some r)) b ≡ []) × (body_of (block_taken_from t block (Some r)) b ≡ [])
  out_unplaced b e = elim (cases_eq b block) [
    | inl s ↦ (out_own_arguments b s, ap (body_of t) s ∙ empty)
    | inr ne ↦ let x = is.joined.unplaced b (sym (out_parent b ne) ∙ e) in (out_arguments b ne ∙ x.0, x.1)
  ]

  out_holder : (x : ℕ) → parent_operation_of (block_taken_from t block (Some r)) x ≡ parent_operation_of t x
  out_holder x = go (parent_of t x) refl
    where
      go : (o : Option ℕ) → parent_of t x ≡ o → up_from o (λ b. block_parent_operation_of (block_taken_from t block (Some r)) b) ≡ up_from o (λ b. block_parent_operation_of t b)
      go None e = refl
      go (Some b) e = ap (λ o. up_from o (λ q. region_parent_of t q)) (out_parent b (holds_nothing x b e))

  pub kept_block_out : IsJoined (block_taken_from t block (Some r))
  kept_block_out = record {
    all_in_place = λ x b e. let s = is.joined.all_in_place x b e in (s.0, stays_block b (holds_nothing x b e) s.1);
    placed = λ b q e. is.joined.placed b q (was_placed b q e).1;
    regions = is.joined.regions;
    results = is.joined.results;
    arguments = out_argument;
    operands = λ k v i. defined_kept t (block_taken_from t block (Some r)) v (definition_of t v) (λ j n f. refl) (λ b n f. out_arguments b (λ s. unnamed k v n i (f ∙ ap (λ z. Some (Argument z n)) s))) (is.joined.operands k v i);
    successors = λ k b i. stays_block b (λ s. not_named k (subst (λ z. In z (successors_of t k)) s i)) (is.joined.successors k b i);
    ordered = out_layout;
    erased = is.joined.erased;
    unplaced = out_unplaced;
    rooted = rooted_cut (parent_operation_of t) (parent_operation_of (block_taken_from t block (Some r))) (λ x. inl (out_holder x)) is.joined.rooted;
  }

pub well_buried : (v : View) (op : ℕ) → IsWellFormed v → IsLive v.tree op → parent_of v.tree op ≡ None → operands_of v.tree op ≡ [] → successors_of v.tree op ≡ [] → regions_of v.tree op ≡ [] → ((x d i : ℕ) → In d (operands_of v.tree x) → definition_of v.tree d ≡ Some (Result op i) → ⊥) → IsWellFormed (record v { tree = after_dismantling v.tree op })
well_buried v op w live free operands successors regions unnamed = record {
  keys = record { operands = w.keys.operands ∙ sym (length-set _ _ _); successors = w.keys.successors ∙ sym (length-set _ _ _); parents = w.keys.parents ∙ sym (length-set _ _ _); arguments = w.keys.arguments; block_parents = w.keys.block_parents; slots = w.keys.slots };
  joined = kept_bury v.tree op w.joined live free operands successors regions unnamed;
  value_uses = w.value_uses;
  block_uses = w.block_uses;
}

pub well_popped : (v : View) (op r : ℕ) → IsWellFormed v → AreOwned v.tree.parents v.tree.bodies → AreOwned v.tree.block_parents v.tree.layouts → IsLive v.tree op → last_region_of v.tree op ≡ Some r → layout_of v.tree r ≡ [] → IsWellFormed (record v { tree = region_popped v.tree op })
well_popped v op r w bodies layouts live last empty = record {
  keys = record { operands = w.keys.operands ∙ sym (length-set _ _ _); successors = w.keys.successors ∙ sym (length-set _ _ _); parents = w.keys.parents ∙ sym (length-set _ _ _); arguments = w.keys.arguments; block_parents = w.keys.block_parents; slots = w.keys.slots };
  joined = kept_popped v.tree op r (record { keys = w.keys; joined = w.joined; bodies = bodies; layouts = layouts }) live last empty;
  value_uses = w.value_uses;
  block_uses = w.block_uses;
}

pub well_block_out : (v : View) (block r : ℕ) → IsWellFormed v → AreOwned v.tree.parents v.tree.bodies → AreOwned v.tree.block_parents v.tree.layouts → block_parent_of v.tree block ≡ Some r → body_of v.tree block ≡ [] → ((x : ℕ) → In block (successors_of v.tree x) → ⊥) → ((x d i : ℕ) → In d (operands_of v.tree x) → definition_of v.tree d ≡ Some (Argument block i) → ⊥) → IsWellFormed (record v { tree = block_taken_from v.tree block (Some r) })
well_block_out v block r w bodies layouts at empty not_named unnamed = record {
  keys = record { operands = w.keys.operands; successors = w.keys.successors; parents = w.keys.parents; arguments = length-set _ _ _ ∙ w.keys.arguments; block_parents = length-set _ _ _ ∙ w.keys.block_parents; slots = w.keys.slots ∙ sym (length-set _ _ _) };
  joined = kept_block_out v.tree block r (record { keys = w.keys; joined = w.joined; bodies = bodies; layouts = layouts }) at empty not_named unnamed;
  value_uses = w.value_uses;
  block_uses = w.block_uses;
}
