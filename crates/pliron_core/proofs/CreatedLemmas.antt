-- The invariant of a tree is kept where operations and blocks are made.
use Rattle.std.proofs.Common.{◌≡◌, ◌⊎◌, ℕ, ◌+◌, ◌<◌, ◌≤◌, true, false, List, [], ◌∷◌, ◌++◌, length, Option, Some, None, IsSome, is_some, refl, sym, ap, ◌∙◌, subst, inl, inr, ⊎_elim, arith, slice_get, true≢false}
use Rattle.std.specs.List.{range_with_len}
use Rattle.std.proofs.lemmas.Bool.{cases_eq}
use Rattle.std.proofs.lemmas.List.{get_or-set_other, get_or-set_same}
use Rattle.std.proofs.lemmas.Option.{slice_get_within}
use Rattle.pliron_core.specs.declared.attrs.Head.{Head}
use Rattle.pliron_core.specs.declared.context.Def.{Def}
use Rattle.pliron_core.specs.declared.context.Def.TheVariants.{Result, Argument}
use Rattle.pliron_core.specs.declared.context.RegionSlot.{RegionSlot}
use Rattle.pliron_core.specs.declared.context.OperationEntry.{OperationEntry}
use Rattle.pliron_core.specs.Rising.{IsRising}
use Rattle.pliron_core.specs.Lists.{AreOwned}
use Rattle.pliron_core.specs.Tree.{Tree, In, IsLive, IsBlock, IsRegion, IsListedBy, IsDefined, IsMadeBy, up_from, op_of_slot, parent_operation_of, block_parent_operation_of, region_parent_of, head_of, row_of, results_of, regions_of, operands_of, successors_of, parent_of, body_of, arguments_of, block_parent_of, layout_of, slot_of, definition_of, no_entry}
use Rattle.pliron_core.specs.Invariant.{HaveSameKeys, IsJoined}
use Rattle.pliron_core.specs.Writes.{after_creating, block_created, result_definitions, argument_definitions, region_slots}
use Rattle.pliron_core.proofs.TreeLemmas.{region_owner, rooted_cut, within-some}
use Rattle.pliron_core.proofs.UsedLemmas.{in_last}
use Rattle.pliron_core.proofs.GrownLemmas.{get_grown, get_last, get_last_same, get_padded, slice_get_kept, slice_get_added, range_at, mapped_range_get}

pub made_kept : (t t' : Tree) (v : ℕ) (d : Option Def) → ((k i : ℕ) → slice_get (results_of t k) i ≡ Some v → slice_get (results_of t' k) i ≡ Some v) → ((b i : ℕ) → slice_get (arguments_of t b) i ≡ Some v → slice_get (arguments_of t' b) i ≡ Some v) → IsMadeBy t v d → IsMadeBy t' v d
made_kept t t' v None r a x = absurd x
made_kept t t' v (Some (Result k i)) r a x = r k i x
made_kept t t' v (Some (Argument b i)) r a x = a b i x

-- a value that stands still does where its definition, and what lists it, are kept
pub defined_kept : (t t' : Tree) (v : ℕ) → ((d : Def) → definition_of t v ≡ Some d → definition_of t' v ≡ Some d) → ((k i : ℕ) → slice_get (results_of t k) i ≡ Some v → slice_get (results_of t' k) i ≡ Some v) → ((b i : ℕ) → slice_get (arguments_of t b) i ≡ Some v → slice_get (arguments_of t' b) i ≡ Some v) → IsDefined t v → IsDefined t' v
defined_kept t t' v d r a x = go (definition_of t v) refl x
  where
    go : (o : Option Def) → definition_of t v ≡ o → IsMadeBy t v o → IsDefined t' v
    go None e y = absurd y
    go (Some f) e y = subst (IsMadeBy t' v) (sym (d f e)) (made_kept t t' v (Some f) r a y)

-- the parent operations are the same where what stands keeps its parents
pub holder_kept : (t t' : Tree) → IsJoined t → ((x : ℕ) → parent_of t' x ≡ parent_of t x) → ((b : ℕ) → IsBlock t b → block_parent_of t' b ≡ block_parent_of t b) → ((r : ℕ) (s : RegionSlot) → slot_of t r ≡ Some s → slot_of t' r ≡ Some s) → (x : ℕ) → parent_operation_of t' x ≡ parent_operation_of t x
holder_kept t t' w parents blocks slots x = ap (λ o. up_from o (λ b. block_parent_operation_of t' b)) (parents x) ∙ go (parent_of t x) refl
  where
    at_region : (o : Option ℕ) (b : ℕ) → block_parent_of t b ≡ o → up_from o (λ r. region_parent_of t' r) ≡ up_from o (λ r. region_parent_of t r)
    at_region None b e = refl
    at_region (Some r) b e = let s = region_owner t r (w.placed b r e) in ap op_of_slot (slots r s.0 s.1) ∙ sym (ap op_of_slot s.1)

    go : (o : Option ℕ) → parent_of t x ≡ o → up_from o (λ b. block_parent_operation_of t' b) ≡ up_from o (λ b. block_parent_operation_of t b)
    go None e = refl
    go (Some b) e = ap (λ o. up_from o (λ r. region_parent_of t' r)) (blocks b (w.all_in_place x b e).1) ∙ at_region (block_parent_of t b) b refl

module _ (t : Tree) (h : Head) (results regions : ℕ) (w : IsJoined t) where
  abbrev pub t' : Tree
  t' = after_creating t h results regions

  abbrev pub entry : OperationEntry
  entry = record { head = Some h; results = range_with_len (length t.definitions) results; regions = range_with_len (length t.slots) regions }

  pub entry_at : (k : ℕ) → (row_of t' k ≡ row_of t k) ⊎ ((row_of t' k ≡ entry) × (row_of t k ≡ no_entry) × (k ≡ length t.operations))
  entry_at k = get_last t.operations entry no_entry k

  pub live_created : (k : ℕ) → IsLive t k → IsLive t' k
  live_created k l = ⊎_elim (λ e. subst (λ z. IsSome z.head) (sym e) l) (λ e. ap (λ z. is_some z.head) e.0) (entry_at k)

  slot : (r : ℕ) (s : RegionSlot) → slot_of t r ≡ Some s → slot_of t' r ≡ Some s
  slot r s e = slice_get_kept t.slots _ r s e

  definition : (v : ℕ) (d : Def) → definition_of t v ≡ Some d → definition_of t' v ≡ Some d
  definition v d e = slice_get_kept t.definitions _ v d e

  region_listed : (k i r : ℕ) → slice_get (regions_of t k) i ≡ Some r → slice_get (regions_of t' k) i ≡ Some r
  region_listed k i r e = ⊎_elim
      (λ s. ap (λ z. slice_get z.regions i) s ∙ e)
      (λ s. let x : slice_get {X = ℕ} [] i ≡ Some r = ap (λ z. slice_get z.regions i) (sym s.1) ∙ e in absurd (grind arith))
      (entry_at k)

  result_listed : (k i v : ℕ) → slice_get (results_of t k) i ≡ Some v → slice_get (results_of t' k) i ≡ Some v
  result_listed k i v e = ⊎_elim
      (λ s. ap (λ z. slice_get z.results i) s ∙ e)
      (λ s. let x : slice_get {X = ℕ} [] i ≡ Some v = ap (λ z. slice_get z.results i) (sym s.1) ∙ e in absurd (grind arith))
      (entry_at k)

  region_created : (r : ℕ) → IsRegion t r → IsRegion t' r
  region_created r is = let s = region_owner t r is in subst (IsListedBy t' r) (sym (slot r s.0 s.1)) (region_listed s.0.op s.0.index r s.2)

  region_back : (k i r : ℕ) → slice_get (regions_of t' k) i ≡ Some r → slot_of t' r ≡ Some (record { op = k; index = i })
  region_back k i r e = ⊎_elim
      (λ s. slot r _ (w.regions k i r (ap (λ z. slice_get z.regions i) (sym s) ∙ e)))
      (λ s.
      let f = range_at (length t.slots) regions i r (ap (λ z. slice_get z.regions i) (sym s.0) ∙ e) in
      ap (slice_get (t.slots ++ region_slots (length t.operations) regions)) f.0 ∙ slice_get_added t.slots _ i ∙ mapped_range_get (λ j. let q : RegionSlot = record { op = length t.operations; index = j } in q) 0 regions i f.1 ∙ ap₂ (sym s.2))
      (entry_at k)
    where
      ap₂ : length t.operations ≡ k → Some (let q : RegionSlot = record { op = length t.operations; index = 0 + i } in q) ≡ Some (record { op = k; index = i })
      ap₂ g = let z : 0 + i ≡ i = omega arith in ap (λ n. Some (let q : RegionSlot = record { op = length t.operations; index = n } in q)) z ∙ ap (λ n. Some (let q : RegionSlot = record { op = n; index = i } in q)) g

  result_back : (k i v : ℕ) → slice_get (results_of t' k) i ≡ Some v → definition_of t' v ≡ Some (Result k i)
  result_back k i v e = ⊎_elim
      (λ s. definition v _ (w.results k i v (ap (λ z. slice_get z.results i) (sym s) ∙ e)))
      (λ s.
      let f = range_at (length t.definitions) results i v (ap (λ z. slice_get z.results i) (sym s.0) ∙ e) in
      ap (slice_get (t.definitions ++ result_definitions (length t.operations) results)) f.0 ∙ slice_get_added t.definitions _ i ∙ mapped_range_get (λ j. Result (length t.operations) j) 0 results i f.1 ∙ named (sym s.2))
      (entry_at k)
    where
      named : length t.operations ≡ k → Some (Result (length t.operations) (0 + i)) ≡ Some (Result k i)
      named g = let z : 0 + i ≡ i = omega arith in ap (λ n. Some (Result (length t.operations) n)) z ∙ ap (λ n. Some (Result n i)) g

  dead : (k : ℕ) → head_of t' k ≡ None → (operands_of t' k ≡ []) × (successors_of t' k ≡ []) × (row_of t' k ≡ no_entry)
  dead k e = ⊎_elim
      (λ s. let x = w.erased k (sym (ap (λ z. z.head) s) ∙ e) in (get_grown t.operands [] k ∙ x.0, get_grown t.successors [] k ∙ x.1, s ∙ x.2))
      (λ s. let f : true ≡ false = sym (ap (λ z. is_some z.head) s.0) ∙ ap is_some e in absurd (true≢false f))
      (entry_at k)

  pub kept_created : IsJoined (after_creating t h results regions)
  kept_created = record {
    all_in_place = λ x b e. let s = w.all_in_place x b (sym (get_grown t.parents None x) ∙ e) in (live_created x s.0, s.1);
    placed = λ b r e. region_created r (w.placed b r e);
    regions = region_back;
    results = result_back;
    arguments = λ b i v e. definition v _ (w.arguments b i v e);
    operands = λ k v i. defined_kept t t' v (definition v) (λ j n e. result_listed j n v e) (λ b n e. e) (w.operands k v (subst (In v) (get_grown t.operands [] k) i));
    successors = λ k b i. w.successors k b (subst (In b) (get_grown t.successors [] k) i);
    ordered = λ r. subst IsRising (sym (get_padded t.layouts [] regions r)) (w.ordered r);
    erased = dead;
    unplaced = w.unplaced;
    rooted = rooted_cut (parent_operation_of t) (parent_operation_of t') (λ x. inl (holder_kept t t' w (λ y. get_grown t.parents None y) (λ b is. refl) slot x)) w.rooted;
  }

-- a list that rises goes on rising where a greater number is added at its end
pub rising_last : (xs : List ℕ) (n : ℕ) → IsRising xs → ((x : ℕ) → In x xs → x < n) → IsRising (xs ++ n ∷ [])
rising_last [] n r below = (λ y i. absurd i, tt)
rising_last (x ∷ xs) n r below = (λ y i. elim (in_last y n xs i) [ inl j ↦ r.0 y j | inr e ↦ subst (λ z. x < z) (sym e) (below x (inl refl)) ], rising_last xs n r.1 (λ y i. below y (inr i)))

module _ (t : Tree) (region count : ℕ) (keys : HaveSameKeys t) (w : IsJoined t) (owned : AreOwned t.block_parents t.layouts) (is : IsRegion t region) where
  abbrev pub u : Tree
  u = block_created t region count

  block_lt : (b : ℕ) → IsBlock t b → b < length t.block_parents
  block_lt b s = within-some t.block_parents b s

  parent_at : (b : ℕ) → (block_parent_of u b ≡ block_parent_of t b) ⊎ ((block_parent_of u b ≡ Some region) × (block_parent_of t b ≡ None) × (b ≡ length t.bodies))
  parent_at b = ⊎_elim (λ e. inl e) (λ e. inr (e.0, e.1, e.2 ∙ keys.block_parents)) (get_last t.block_parents (Some region) None b)

  pub block_same : (b : ℕ) → IsBlock t b → block_parent_of u b ≡ block_parent_of t b
  block_same b s = ⊎_elim (λ e. e) (λ e. let f : true ≡ false = sym s ∙ ap is_some e.1 in absurd (true≢false f)) (parent_at b)

  pub block_still : (b : ℕ) → IsBlock t b → IsBlock u b
  block_still b s = subst IsSome (sym (block_same b s)) s

  define : (v : ℕ) (d : Def) → definition_of t v ≡ Some d → definition_of u v ≡ Some d
  define v d e = slice_get_kept t.definitions _ v d e

  arguments_at : (b : ℕ) → (arguments_of u b ≡ arguments_of t b) ⊎ ((arguments_of u b ≡ range_with_len (length t.definitions) count) × (arguments_of t b ≡ []) × (b ≡ length t.bodies))
  arguments_at b = ⊎_elim (λ e. inl e) (λ e. inr (e.0, e.1, e.2 ∙ keys.arguments)) (get_last t.arguments (range_with_len (length t.definitions) count) [] b)

  argument_listed : (b i v : ℕ) → slice_get (arguments_of t b) i ≡ Some v → slice_get (arguments_of u b) i ≡ Some v
  argument_listed b i v e = ⊎_elim
      (λ s. ap (λ z. slice_get z i) s ∙ e)
      (λ s. let x : slice_get {X = ℕ} [] i ≡ Some v = ap (λ z. slice_get z i) (sym s.1) ∙ e in absurd (grind arith))
      (arguments_at b)

  argument_back : (b i v : ℕ) → slice_get (arguments_of u b) i ≡ Some v → definition_of u v ≡ Some (Argument b i)
  argument_back b i v e = ⊎_elim
      (λ s. define v _ (w.arguments b i v (ap (λ z. slice_get z i) (sym s) ∙ e)))
      (λ s.
      let f = range_at (length t.definitions) count i v (ap (λ z. slice_get z i) (sym s.0) ∙ e) in
      ap (slice_get (t.definitions ++ argument_definitions (length t.bodies) count)) f.0 ∙ slice_get_added t.definitions _ i ∙ mapped_range_get (λ j. Argument (length t.bodies) j) 0 count i f.1 ∙ named (sym s.2))
      (arguments_at b)
    where
      named : length t.bodies ≡ b → Some (Argument (length t.bodies) (0 + i)) ≡ Some (Argument b i)
      named g = let z : 0 + i ≡ i = omega arith in ap (λ n. Some (Argument (length t.bodies) n)) z ∙ ap (λ n. Some (Argument n i)) g

  unplaced_at : (b : ℕ) → block_parent_of u b ≡ None → (arguments_of u b ≡ []) × (body_of u b ≡ [])
  unplaced_at b e = ⊎_elim
      (λ s. let x = w.unplaced b (sym s ∙ e) in (⊎_elim (λ a. a ∙ x.0) (λ a. absurd (new a.2)) (arguments_at b), get_grown t.bodies [] b ∙ x.1))
      (λ s. let f : Some region ≡ None = sym s.0 ∙ e in absurd (cc))
      (parent_at b)
    where
      new : b ≡ length t.bodies → ⊥
      new g =
          let x : block_parent_of u (length t.bodies) ≡ Some region = ap (block_parent_of u) (sym keys.block_parents) ∙ get_last_same t.block_parents (Some region) None in
          let y : Some region ≡ None = sym x ∙ ap (block_parent_of u) (sym g) ∙ e in
          cc

  layout_below : (x : ℕ) → In x (layout_of t region) → x < length t.bodies
  layout_below x i = let h = block_lt x (ap is_some (owned.owned x region i)) in omega (arith, h, keys.block_parents)

  ordered_at : (r : ℕ) → IsRising (layout_of u r)
  ordered_at r = elim (cases_eq r region) [
    | inl e ↦ elim (within region) [
      | inl lt ↦ subst (λ z. IsRising (layout_of u z)) (sym e) (subst IsRising (sym (get_or-set_same t.layouts region _ [] lt)) (rising_last (layout_of t region) (length t.bodies) (w.ordered region) layout_below))
      | inr le ↦ let s = region_owner t region is in let x = slice_get_within t.slots region s.0 s.1 in absurd (omega (arith, le, x, keys.slots))
    ]
    | inr ne ↦ subst IsRising (sym (get_or-set_other t.layouts region r _ [] ne)) (w.ordered r)
  ]
    where
      within : (r : ℕ) → (r < length t.layouts) ⊎ (length t.layouts ≤ r)
      within r = grind arith

  pub kept_block_created : IsJoined (block_created t region count)
  kept_block_created = record {
    all_in_place = λ x b e. let s = w.all_in_place x b e in (s.0, block_still b s.1);
    placed = λ b r e. ⊎_elim (λ s. w.placed b r (sym s ∙ e)) (λ s. let f : Some region ≡ Some r = sym s.0 ∙ e in let g : region ≡ r = cc in subst (IsRegion t) g is) (parent_at b);
    regions = w.regions;
    results = λ k i v e. define v _ (w.results k i v e);
    arguments = argument_back;
    operands = λ k v i. defined_kept t u v (define v) (λ j n e. e) (λ b n e. argument_listed b n v e) (w.operands k v i);
    successors = λ k b i. block_still b (w.successors k b i);
    ordered = ordered_at;
    erased = w.erased;
    unplaced = unplaced_at;
    rooted = rooted_cut (parent_operation_of t) (parent_operation_of u) (λ x. inl (holder_kept t u w (λ y. refl) block_same (λ r s e. e) x)) w.rooted;
  }
