-- What a text's tree has while it is built.
use Rattle.std.proofs.Common.{◌≡◌, ◌≢◌, ◌⊎◌, ℕ, ◌+◌, ◌<◌, ◌≤◌, List, [], ◌∷◌, ◌++◌, length, get_or, Some, None, IsSome, is_some, refl, sym, ap, ◌∙◌, subst, inl, inr, ⊎_elim, arith, length-append}
use Rattle.std.specs.List.{range_with_len}
use Rattle.std.proofs.lemmas.List.{get_or_past, get_or-set_same, get_or-set_other}
use Rattle.std.proofs.lemmas.List.FromFn.{length-range_with_len}
use Rattle.std.proofs.lemmas.Option.{slice_get_read, slice_get-get_or}
use Rattle.pliron_core.specs.declared.attrs.Head.{Head}
use Rattle.pliron_core.specs.Tree.{Tree, In, IsLive, IsBlock, IsRegion, IsDefined, IsMadeBy, IsInside, HoldsBlock, no_entry, row_of, results_of, regions_of, parent_of, arguments_of, block_parent_of, op_of_slot, up_from, region_parent_of, block_parent_operation_of, parent_operation_of}
use Rattle.pliron_core.specs.Invariant.{IsTree}
use Rattle.pliron_core.specs.Writes.{after_creating, block_created, operand_pushed, successor_pushed}
use Rattle.pliron_core.proofs.GrownLemmas.{get_grown, get_last, get_last_same, in_range}
use Rattle.pliron_core.proofs.CreatedLemmas.{holder_kept}
use Rattle.pliron_core.proofs.HoldingLemmas.{some_is, in_slice, slice_in, past_live, region_by, block_held, held_block, holder_by, holder_live}
use Rattle.pliron_text.specs.declared.build.BuiltTree.{BuiltTree}
use Rattle.pliron_text.specs.Building.{All, AddsOnly, IsExtended, IsGrown, IsNewBlock, IsNewRegion, IsBuilt, BuildingContinues, BuildingContinuesAt, AreLive, after_appending}
use Rattle.pliron_text.proofs.GrowthLemmas.{keeps-length, more-live, more-block, more-region, more-defined, more-region_parent, more-block_parent_operation, more-holder, more-appended, more-created, more-block_created, more-operand, more-successor, kept-created, kept-appended, kept-block_created, kept-operand, kept-successor}

-- what is added to a list that all has it
pub all-adds : (p : ℕ → Type 0) (xs ys new : List ℕ) → AddsOnly xs ys new → All p xs → All p new → All p ys
all-adds p xs ys new adds old more x i = ⊎_elim (λ j. old x j) (λ j. more x j) (adds x i)

pub all-one : (p : ℕ → Type 0) (x : ℕ) → p x → All p (x ∷ [])
all-one p x h y (inl e) = subst p (sym e) h
all-one p x h y (inr i) = absurd i

pub all-same : (p : ℕ → Type 0) (xs ys : List ℕ) → ys ≡ xs → All p xs → All p ys
all-same p xs ys e a x i = a x (subst (In x) e i)

-- what an index reads is listed
pub in-read : (xs : List ℕ) (i x : ℕ) → i < length xs → x ≡ get_or xs i x → In x xs
in-read xs i x lt e = in_slice xs i x (slice_get_read xs (length xs) i x refl lt e)

pub in-at : (xs : List ℕ) (i : ℕ) → i < length xs → In (get_or xs i 0) xs
in-at xs i lt = in_slice xs i (get_or xs i 0) (slice_get-get_or xs i 0 lt)

-- one more at the end
in_split : (xs ys : List ℕ) (z : ℕ) → In z (xs ++ ys) → In z xs ⊎ In z ys
in_split [] ys z i = inr i
in_split (x ∷ xs) ys z (inl e) = inl (inl e)
in_split (x ∷ xs) ys z (inr i) = ⊎_elim (λ j. inl (inr j)) (λ j. inr j) (in_split xs ys z i)

pub adds-last : (xs ys : List ℕ) (x : ℕ) → ys ≡ xs ++ x ∷ [] → AddsOnly xs ys (x ∷ [])
adds-last xs ys x e z i = in_split xs (x ∷ []) z (subst (In z) e i)

pub adds-more : (xs ys zs new : List ℕ) (x : ℕ) → zs ≡ ys ++ x ∷ [] → AddsOnly xs ys new → In x new → AddsOnly xs zs new
adds-more xs ys zs new x e adds more z i = ⊎_elim (λ j. adds z j) (λ j. inr (one j)) (in_split ys (x ∷ []) z (subst (In z) e i))
  where
    one : In z (x ∷ []) → In z new
    one (inl f) = subst (λ w. In w new) (sym f) more
    one (inr j) = absurd j

pub adds-none : (xs ys new : List ℕ) → ys ≡ xs → AddsOnly xs ys new
adds-none xs ys new e x i = inl (subst (In x) e i)

pub length-last : (xs ys : List ℕ) (x : ℕ) → ys ≡ xs ++ x ∷ [] → length ys ≡ length xs + 1
length-last xs ys x e = ap length e ∙ length-append xs (x ∷ [])

pub goes-refl : (u : Tree) (built : BuiltTree) → BuildingContinues u built u built
goes-refl u built t root b = b

pub goes-refl-at : (op : ℕ) (u : Tree) (built : BuiltTree) → BuildingContinuesAt op u built u built
goes-refl-at op u built t root le b = b

pub goes-trans-at : (op : ℕ) (u v w : Tree) (a b c : BuiltTree) → BuildingContinuesAt op u a v b → BuildingContinuesAt op v b w c → BuildingContinuesAt op u a w c
goes-trans-at op u v w a b c g h t root le is = h t root le (g t root le is)

pub goes-trans : (u v w : Tree) (a b c : BuiltTree) → BuildingContinues u a v b → BuildingContinues v b w c → BuildingContinues u a w c
goes-trans u v w a b c g h t root is = h t root (g t root is)

-- what stands goes on standing where there is more
pub all_in_place-more : (u v : Tree) (built : BuiltTree) → IsExtended u v → AreLive u built → AreLive v built
all_in_place-more u v built m s = record {
  operations = λ x i. more-live u v m x (s.operations x i);
  blocks = λ x i. more-block u v m x (s.blocks x i);
  regions = λ x i. more-region u v m x (s.regions x i);
  values = λ x i. more-defined u v m x (s.values x i);
}

-- what is listed stands
pub listed_region : (w : Tree) → IsTree w → (k r : ℕ) → In r (regions_of w k) → IsRegion w r
listed_region w is k r i =
    let at = slice_in (regions_of w k) r i in
    region_by w r (record { op = k; index = at.0 }) (is.joined.regions k at.0 r at.1) at.1

pub listed_result : (w : Tree) → IsTree w → (k v : ℕ) → In v (results_of w k) → IsDefined w v
listed_result w is k v i =
    let at = slice_in (results_of w k) v i in
    subst (IsMadeBy w v) (sym (is.joined.results k at.0 v at.1)) at.1

pub listed_argument : (w : Tree) → IsTree w → (b v : ℕ) → In v (arguments_of w b) → IsDefined w v
listed_argument w is b v i =
    let at = slice_in (arguments_of w b) v i in
    subst (IsMadeBy w v) (sym (is.joined.arguments b at.0 v at.1)) at.1

-- a new operation holds no block that stood before
module _ (u : Tree) (head : Head) (results regions : ℕ) (is : IsTree u) where
  abbrev c : Tree
  c = after_creating u head results regions

  created_holder : (x : ℕ) → parent_operation_of c x ≡ parent_operation_of u x
  created_holder x = holder_kept u c is.joined (λ y. get_grown u.parents None y) (λ b s. refl) (λ r s e. (more-created u head results regions).slots r s e) x

  not_inside : (x : ℕ) → IsInside c (length u.operations) x → ⊥
  not_inside x (IsInside.Directly e) =
      let lt : length u.operations < length u.operations = past_live u (length u.operations) (holder_live u x (length u.operations) is.joined (sym (created_holder x) ∙ e)).1 in
      omega (arith, lt)
  not_inside x (IsInside.Deeper p e i) = not_inside p i

  pub created-outside : (block : ℕ) → IsBlock u block → HoldsBlock c (length u.operations) block → ⊥
  created-outside block liveness h =
      let b = block_held u block is.joined liveness in
      let e : block_parent_operation_of c block ≡ Some b.1 = more-block_parent_operation u c (more-created u head results regions) block b.1 b.5 in
      let same : b.1 ≡ h.0 = some_is (sym e ∙ h.1) in
      let lt : h.0 < length u.operations = subst (λ z. z < length u.operations) same (past_live u b.1 b.6) in
      ⊎_elim (λ s. omega (arith, lt, s)) (λ i. not_inside h.0 i) h.2

-- a new operation at the end of a block
module _ (u : Tree) (head : Head) (results regions block : ℕ) (is : IsTree u) where
  abbrev v : Tree
  v = after_appending u head results regions block

  abbrev op : ℕ
  op = length u.operations

  pub appended-row : row_of v op ≡ record { head = Some head; results = range_with_len (length u.definitions) results; regions = range_with_len (length u.slots) regions }
  appended-row = get_last_same u.operations _ no_entry

  pub appended-results : (w : Tree) (k : ℕ) → w ≡ v → k ≡ op → length (results_of w k) ≡ results
  appended-results w k same e = ap (λ z. length (results_of z k)) same ∙ ap (λ n. length (results_of v n)) e ∙ ap (λ z. length z.results) appended-row ∙ length-range_with_len (length u.definitions) results

  pub appended-regions : (w : Tree) (k : ℕ) → w ≡ v → k ≡ op → length (regions_of w k) ≡ regions
  appended-regions w k same e = ap (λ z. length (regions_of z k)) same ∙ ap (λ n. length (regions_of v n)) e ∙ ap (λ z. length z.regions) appended-row ∙ length-range_with_len (length u.slots) regions

  pub appended-live : IsLive v op
  appended-live = ap (λ z. is_some z.head) appended-row

  parents_length : length (after_creating u head results regions).parents ≡ length u.parents + 1
  parents_length = length-append u.parents (None ∷ [])

  pub appended-parent : parent_of v op ≡ Some block
  appended-parent = get_or-set_same (after_creating u head results regions).parents op (Some block) None (let e = is.keys.parents in let f = parents_length in omega (arith, e, f))

  pub appended-other : (k : ℕ) → k ≢ op → parent_of v k ≡ parent_of u k
  appended-other k ne = get_or-set_other (after_creating u head results regions).parents op k (Some block) None ne ∙ get_grown u.parents None k

  abbrev m : IsExtended u v
  m = more-appended u head results regions block is.keys

  module _ (t : Tree) (root : ℕ) (built : BuiltTree) (b : IsBuilt t u root built) (in_built : In block built.blocks.items) where
    holding : (h : ℕ) × (block_parent_operation_of u block ≡ Some h) × (root ≤ h) × (h < op)
    holding =
        let n = b.blocks block in_built in
        let w = block_held u block is.joined (held_block u block n.0 n.1) in
        let same : w.1 ≡ n.0 = some_is (sym w.5 ∙ n.1) in
        (n.0, n.1, n.2, subst (λ z. z < op) same (past_live u w.1 w.6))

    root_old : root < op
    root_old = past_live u root b.grown.live

    appended-held : (k : ℕ) → IsLive v k → root < k → (h : ℕ) × (parent_operation_of v k ≡ Some h) × (root ≤ h) × (h < k)
    appended-held k live lt = ⊎_elim
        (λ s. let old = b.grown.held k (subst (λ z. IsSome z.head) s live) lt in (old.0, more-holder u v m k old.0 old.1, old.2, old.3))
        (λ s. let h = holding in (h.0, ap (parent_operation_of v) s.2 ∙ holder_by v op block h.0 appended-parent (more-block_parent_operation u v m block h.0 h.1), h.2, subst (λ z. h.0 < z) (sym s.2) h.3))
        (get_last u.operations _ no_entry k)

    pub appended-grown : IsGrown t v root
    appended-grown = record {
      before = b.grown.before;
      kept = kept-appended t u head results regions block is.keys (b.blocks block in_built).3 b.grown.kept;
      fresh = b.grown.fresh;
      live = more-live u v m root b.grown.live;
      loose = appended-other root (λ e. let lt = root_old in omega (arith, lt, e)) ∙ b.grown.loose;
      held = appended-held;
    }

    new_region : IsTree v → (r : ℕ) → In r (regions_of v op) → IsNewRegion t v root r
    new_region is_v r i =
        let at = slice_in (regions_of v op) r i in
        let first : length u.slots ≤ r = in_range (length u.slots) regions r (subst (λ z. In r z.regions) appended-row i) in
        let le : length t.slots ≤ length u.slots = keeps-length t.slots u.slots b.grown.kept.more.slots in
        let same : length t.slots ≡ length t.layouts = b.grown.before.keys.slots in
        let lt = root_old in
        (op, ap op_of_slot (is_v.joined.regions op at.0 r at.1), omega (arith, lt), omega (arith, first, le, same))

    pub appended-built : IsTree v → (more : BuiltTree) → AddsOnly built.operations.items more.operations.items (op ∷ []) → more.blocks.items ≡ built.blocks.items → AddsOnly built.regions.items more.regions.items (regions_of v op) → IsBuilt t v root more
    appended-built is_v more ops blocks regs = record {
      grown = appended-grown;
      operations = all-adds (λ k. root ≤ k) built.operations.items more.operations.items (op ∷ []) ops b.operations (all-one (λ k. root ≤ k) op (let lt = root_old in omega (arith, lt)));
      blocks = all-same (IsNewBlock t v root) built.blocks.items more.blocks.items blocks (λ x i. let n = b.blocks x i in (n.0, more-block_parent_operation u v m x n.0 n.1, n.2, n.3));
      regions = all-adds (IsNewRegion t v root) built.regions.items more.regions.items (regions_of v op) regs (λ x i. let n = b.regions x i in (n.0, more-region_parent u v m x n.0 n.1, n.2, n.3)) (new_region is_v);
    }

  pub goes-appended : (w : Tree) (built more : BuiltTree) → w ≡ v → IsTree w → In block built.blocks.items → AddsOnly built.operations.items more.operations.items (op ∷ []) → more.blocks.items ≡ built.blocks.items → AddsOnly built.regions.items more.regions.items (regions_of w op) → BuildingContinues u built w more
  goes-appended w built more same is_w i ops blocks regs t root b =
      subst (λ z. IsBuilt t z root more) (sym same)
      (appended-built t root built b i (subst IsTree same is_w) more ops blocks (subst (λ z. AddsOnly built.regions.items more.regions.items (regions_of z op)) same regs))

  pub all_in_place-appended : (w : Tree) (built more : BuiltTree) → w ≡ v → IsTree w → AreLive u built → AddsOnly built.operations.items more.operations.items (op ∷ []) → more.blocks.items ≡ built.blocks.items → AddsOnly built.regions.items more.regions.items (regions_of w op) → AddsOnly built.values.items more.values.items (results_of w op) → AreLive w more
  all_in_place-appended w built more same is_w s ops blocks regs values =
      let mw : IsExtended u w = subst (IsExtended u) (sym same) m in
      let n = all_in_place-more u w built mw s in
      record {
        operations = all-adds (IsLive w) built.operations.items more.operations.items (op ∷ []) ops n.operations (all-one (IsLive w) op (subst (λ z. IsLive z op) (sym same) appended-live));
        blocks = all-same (IsBlock w) built.blocks.items more.blocks.items blocks n.blocks;
        regions = all-adds (IsRegion w) built.regions.items more.regions.items (regions_of w op) regs n.regions (λ r i. listed_region w is_w op r i);
        values = all-adds (IsDefined w) built.values.items more.values.items (results_of w op) values n.values (λ x i. listed_result w is_w op x i);
      }

-- a new block at the end of a region
module _ (u : Tree) (region arguments : ℕ) (is : IsTree u) where
  abbrev w : Tree
  w = block_created u region arguments

  abbrev block : ℕ
  block = length u.bodies

  abbrev mw : IsExtended u w
  mw = more-block_created u region arguments

  pub created-parent : block_parent_of w block ≡ Some region
  created-parent = let e : length u.bodies ≡ length u.block_parents = sym is.keys.block_parents in ap (λ k. get_or w.block_parents k None) e ∙ get_last_same u.block_parents (Some region) None

  module _ (t : Tree) (root : ℕ) (built : BuiltTree) (b : IsBuilt t u root built) (in_built : In region built.regions.items) where
    block-grown : IsGrown t w root
    block-grown = record {
      before = b.grown.before;
      kept = kept-block_created t u region arguments (b.regions region in_built).3 b.grown.kept;
      fresh = b.grown.fresh;
      live = b.grown.live;
      loose = b.grown.loose;
      held = λ k live lt. let old = b.grown.held k live lt in (old.0, more-holder u w mw k old.0 old.1, old.2, old.3);
    }

    new_block : IsNewBlock t w root block
    new_block =
        let n = b.regions region in_built in
        (n.0, ap (λ o. up_from o (λ r. region_parent_of w r)) created-parent ∙ n.1, n.2, keeps-length t.bodies u.bodies b.grown.kept.bodies)

    block-built : (more : BuiltTree) → more.operations.items ≡ built.operations.items → AddsOnly built.blocks.items more.blocks.items (block ∷ []) → more.regions.items ≡ built.regions.items → IsBuilt t w root more
    block-built more ops blocks regs = record {
      grown = block-grown;
      operations = all-same (λ k. root ≤ k) built.operations.items more.operations.items ops b.operations;
      blocks = all-adds (IsNewBlock t w root) built.blocks.items more.blocks.items (block ∷ []) blocks (λ x i. let n = b.blocks x i in (n.0, more-block_parent_operation u w mw x n.0 n.1, n.2, n.3)) (all-one (IsNewBlock t w root) block new_block);
      regions = all-same (IsNewRegion t w root) built.regions.items more.regions.items regs (λ x i. let n = b.regions x i in (n.0, more-region_parent u w mw x n.0 n.1, n.2, n.3));
    }

  pub created-arguments : length (arguments_of w block) ≡ arguments
  created-arguments = let e : length u.bodies ≡ length u.arguments = sym is.keys.arguments in ap (λ k. length (get_or w.arguments k [])) e ∙ ap length (get_last_same u.arguments (range_with_len (length u.definitions) arguments) []) ∙ length-range_with_len (length u.definitions) arguments

  pub goes-block : (v : Tree) (built more : BuiltTree) → v ≡ w → In region built.regions.items → more.operations.items ≡ built.operations.items → AddsOnly built.blocks.items more.blocks.items (block ∷ []) → more.regions.items ≡ built.regions.items → BuildingContinues u built v more
  goes-block v built more same i ops blocks regs t root b = subst (λ z. IsBuilt t z root more) (sym same) (block-built t root built b i more ops blocks regs)

  pub all_in_place-block : (v : Tree) (built more : BuiltTree) → v ≡ w → IsTree v → AreLive u built → more.operations.items ≡ built.operations.items → AddsOnly built.blocks.items more.blocks.items (block ∷ []) → more.regions.items ≡ built.regions.items → AddsOnly built.values.items more.values.items (arguments_of v block) → AreLive v more
  all_in_place-block v built more same is_v s ops blocks regs values =
      let mv : IsExtended u v = subst (IsExtended u) (sym same) mw in
      let n = all_in_place-more u v built mv s in
      record {
        operations = all-same (IsLive v) built.operations.items more.operations.items ops n.operations;
        blocks = all-adds (IsBlock v) built.blocks.items more.blocks.items (block ∷ []) blocks n.blocks (all-one (IsBlock v) block (subst (λ z. IsBlock z block) (sym same) (ap is_some created-parent)));
        regions = all-same (IsRegion v) built.regions.items more.regions.items regs n.regions;
        values = all-adds (IsDefined v) built.values.items more.values.items (arguments_of v block) values n.values (λ x i. listed_argument v is_v block x i);
      }

-- one more operand or successor
old-operands : (t : Tree) → IsTree t → (root op : ℕ) → root ≡ length t.operations → root ≤ op → length t.operands ≤ op
old-operands t is root op e le = let f = is.keys.operands in omega (arith, e, le, f)

old-successors : (t : Tree) → IsTree t → (root op : ℕ) → root ≡ length t.operations → root ≤ op → length t.successors ≤ op
old-successors t is root op e le = let f = is.keys.successors in omega (arith, e, le, f)

pub goes-operand : (u v : Tree) (built : BuiltTree) (op value : ℕ) → v ≡ operand_pushed u op value → BuildingContinuesAt op u built v built
goes-operand u v built op value same t root le b = subst (λ z. IsBuilt t z root built) (sym same) (record {
  grown = record {
    before = b.grown.before;
    kept = kept-operand t u op value (old-operands t b.grown.before root op b.grown.fresh le) b.grown.kept;
    fresh = b.grown.fresh;
    live = b.grown.live;
    loose = b.grown.loose;
    held = b.grown.held;
  };
  operations = b.operations;
  blocks = b.blocks;
  regions = b.regions;
})

pub goes-successor : (u v : Tree) (built : BuiltTree) (op block : ℕ) → v ≡ successor_pushed u op block → In op built.operations.items → BuildingContinues u built v built
goes-successor u v built op block same i t root b = subst (λ z. IsBuilt t z root built) (sym same) (record {
  grown = record {
    before = b.grown.before;
    kept = kept-successor t u op block (old-successors t b.grown.before root op b.grown.fresh (b.operations op i)) b.grown.kept;
    fresh = b.grown.fresh;
    live = b.grown.live;
    loose = b.grown.loose;
    held = b.grown.held;
  };
  operations = b.operations;
  blocks = b.blocks;
  regions = b.regions;
})

pub all_in_place-operand : (u v : Tree) (built : BuiltTree) (op value : ℕ) → v ≡ operand_pushed u op value → AreLive u built → AreLive v built
all_in_place-operand u v built op value same s = all_in_place-more u v built (subst (IsExtended u) (sym same) (more-operand u op value)) s

pub all_in_place-successor : (u v : Tree) (built : BuiltTree) (op block : ℕ) → v ≡ successor_pushed u op block → AreLive u built → AreLive v built
all_in_place-successor u v built op block same s = all_in_place-more u v built (subst (IsExtended u) (sym same) (more-successor u op block)) s

-- what is made of a text before anything is inside it is live
pub all_in_place-start : (u : Tree) (built : BuiltTree) (root : ℕ) → IsTree u → built.operations.items ≡ [] → built.blocks.items ≡ [] → AddsOnly [] built.regions.items (regions_of u root) → AddsOnly [] built.values.items (results_of u root) → AreLive u built
all_in_place-start u built root is ops blocks regs values = record {
  operations = λ x i. absurd (subst (In x) ops i);
  blocks = λ x i. absurd (subst (In x) blocks i);
  regions = all-adds (IsRegion u) [] built.regions.items (regions_of u root) regs (λ x i. absurd i) (λ r i. listed_region u is root r i);
  values = all-adds (IsDefined u) [] built.values.items (results_of u root) values (λ x i. absurd i) (λ x i. listed_result u is root x i);
}

-- the operation of a text before anything is defined in it
module _ (t : Tree) (head : Head) (results regions : ℕ) (is : IsTree t) where
  abbrev s : Tree
  s = after_creating t head results regions

  abbrev first : ℕ
  first = length t.operations

  pub start-row : row_of s first ≡ record { head = Some head; results = range_with_len (length t.definitions) results; regions = range_with_len (length t.slots) regions }
  start-row = get_last_same t.operations _ no_entry

  start-grown : IsGrown t s first
  start-grown = record {
    before = is;
    kept = kept-created t head results regions;
    fresh = refl;
    live = ap (λ z. is_some z.head) start-row;
    loose = get_grown t.parents None first ∙ get_or_past t.parents first None (let e = is.keys.parents in omega (arith, e));
    held = λ k live lt. let old = past_live s k live in let n : length s.operations ≡ first + 1 = length-append t.operations _ in absurd (omega (arith, old, lt, n));
  }

  start_region : IsTree s → (r : ℕ) → In r (regions_of s first) → IsNewRegion t s first r
  start_region is_s r i =
      let at = slice_in (regions_of s first) r i in
      let from : length t.slots ≤ r = in_range (length t.slots) regions r (subst (λ z. In r z.regions) start-row i) in
      let same : length t.slots ≡ length t.layouts = is.keys.slots in
      (first, ap op_of_slot (is_s.joined.regions first at.0 r at.1), omega arith, omega (arith, from, same))

  pub grown-start : (u : Tree) (root : ℕ) → u ≡ s → root ≡ first → IsGrown t u root
  grown-start u root same e = subst (λ z. IsGrown t z root) (sym same) (subst (λ k. IsGrown t s k) (sym e) start-grown)

  pub start-results : (u : Tree) (root : ℕ) → u ≡ s → root ≡ first → length (results_of u root) ≡ results
  start-results u root same e = ap (λ z. length (results_of z root)) same ∙ ap (λ k. length (results_of s k)) e ∙ ap (λ z. length z.results) start-row ∙ length-range_with_len (length t.definitions) results

  pub start-regions : (u : Tree) (root : ℕ) → u ≡ s → root ≡ first → length (regions_of u root) ≡ regions
  start-regions u root same e = ap (λ z. length (regions_of z root)) same ∙ ap (λ k. length (regions_of s k)) e ∙ ap (λ z. length z.regions) start-row ∙ length-range_with_len (length t.slots) regions

  pub built-start : (u : Tree) (built : BuiltTree) (root : ℕ) → u ≡ s → IsTree u → root ≡ first → built.operations.items ≡ [] → built.blocks.items ≡ [] → AddsOnly [] built.regions.items (regions_of u root) → IsBuilt t u root built
  built-start u built root same is_u e ops blocks regs =
      let own : AddsOnly [] built.regions.items (regions_of s first) = subst (λ z. AddsOnly [] built.regions.items (regions_of z first)) same (subst (λ k. AddsOnly [] built.regions.items (regions_of u k)) e regs) in
      subst (λ z. IsBuilt t z root built) (sym same) (subst (λ k. IsBuilt t s k built) (sym e) (record {
        grown = start-grown;
        operations = λ x i. absurd (subst (In x) ops i);
        blocks = λ x i. absurd (subst (In x) blocks i);
        regions = all-adds (IsNewRegion t s first) [] built.regions.items (regions_of s first) own (λ x i. absurd i) (start_region (subst IsTree same is_u));
      }))
