-- A region grows at its end.
use Rattle.std.proofs.Common.{◌≡◌, ◌≢◌, ◌⊎◌, inl, inr, ⊎_elim, ℕ, ◌<◌, ◌≤◌, true≢false, List, [], ◌∷◌, ◌++◌, length, Option, Some, None, IsSome, is_some, slice_get, refl, sym, ap, ◌∙◌, subst, append_assoc, append-nil, arith}
use Rattle.std.specs.List.{range_with_len}
use Rattle.std.proofs.lemmas.Bool.{cases_eq, cases_lt}
use Rattle.std.proofs.lemmas.List.{length-set, get_or-set_other, get_or-set_same, length-append, get_or_past}
use Rattle.std.proofs.lemmas.Option.{slice_get_within}
use Rattle.pliron_core.specs.declared.attrs.Head.{Head}
use Rattle.pliron_core.specs.declared.context.OperationEntry.{OperationEntry}
use Rattle.pliron_core.specs.Invariant.{IsTree}
use Rattle.pliron_core.specs.Erased.{IsInOperation}
use Rattle.pliron_core.specs.Tree.{Tree, In, IsLive, IsBlock, IsRegion, IsDefined, IsInside, IsInside.Directly, IsInside.Deeper, HoldsBlock, no_entry, row_of, head_of, operands_of, successors_of, results_of, regions_of, parent_of, body_of, arguments_of, block_parent_of, layout_of, op_of_slot, block_parent_operation_of}
use Rattle.pliron_core.specs.Writes.{after_creating, block_created, moved_last, put_last, taken_from, argument_definitions, result_definitions}
use Rattle.pliron_core.proofs.CreatedLemmas.{defined_kept}
use Rattle.pliron_core.proofs.GrownLemmas.{get_grown, get_last, get_last_same, get_padded, slice_get_kept}
use Rattle.pliron_core.proofs.HoldingLemmas.{some_is, some_of, not_none, slot_is, region_by}
use Rattle.pliron_core.proofs.ListLemmas.{In-cases}
use Rattle.pliron_core.proofs.TreeLemmas.{block-within, live-within, region_live}
use Rattle.pliron_core.proofs.WithinLemmas.{block_steps, holder_steps}
use Rattle.pliron_rewrite_calls.specs.CopySteps.{IsGrownIn}

pub no_some : {A : Type 0} (o : Option A) → o ≡ None → IsSome o → ⊥
no_some o e is = true≢false (sym (subst IsSome e is))

pub empty_slice : {A : Type 0} (xs : List A) (i : ℕ) (x : A) → xs ≡ [] → slice_get xs i ≡ Some x → ⊥
empty_slice xs i x e g = not_none (sym (ap (λ z. slice_get z i) e) ∙ g)

pub past_row : (t : Tree) (k : ℕ) → length t.operations ≤ k → row_of t k ≡ no_entry
past_row t k le = get_or_past t.operations k no_entry le

pub block_old : (t : Tree) → IsTree t → (b r : ℕ) → In b (layout_of t r) → b < length t.bodies
block_old t w b r i = block-within t b w.keys (ap is_some (w.layouts.owned b r i))

-- ---- what has no regions holds nothing

pub holds_no_block : (u : Tree) → IsTree u → (k c : ℕ) → regions_of u k ≡ [] → block_parent_operation_of u c ≡ Some k → ⊥
holds_no_block u w k c none e =
    let s = block_steps u c k e in
    let p = slot_is u s.0 (w.joined.placed c s.0 s.1) in
    let same : p.0.op ≡ k = some_is (sym (ap op_of_slot p.1) ∙ s.2) in
    empty_slice (regions_of u p.0.op) p.0.index s.0 (ap (regions_of u) same ∙ none) p.2

pub holds_nothing : (u : Tree) → IsTree u → (k x : ℕ) → regions_of u k ≡ [] → IsInside u k x → ⊥
holds_nothing u w k x none (Directly e) = let s = holder_steps u x k e in holds_no_block u w k s.0 none s.2
holds_nothing u w k x none (Deeper p e j) = holds_nothing u w k p none j

pub outside_childless : (u : Tree) → IsTree u → (k c : ℕ) → regions_of u k ≡ [] → HoldsBlock u k c → ⊥
outside_childless u w k c none h = ⊎_elim (λ e. holds_no_block u w k c none (h.1 ∙ ap Some e)) (holds_nothing u w k h.0 none) h.2

-- ---- what stood stands

pub grown_none : (t : Tree) (region : ℕ) → IsGrownIn t t region
grown_none t region = record {
  added = [];
  last = sym (append-nil (layout_of t region));
  fresh = λ b i. absurd i;
  operation_count = omega arith;
  block_count = omega arith;
  value_count = omega arith;
  slots = refl;
  rows = λ k lt. refl;
  operands = λ k lt. refl;
  successors = λ k lt. refl;
  parents = λ k lt. refl;
  bodies = λ b lt. refl;
  arguments = λ b lt. refl;
  block_parents = λ b lt. refl;
  layouts = λ r ne. refl;
  definitions = λ v d e. e;
  childless = λ k le. ap (λ z. z.regions) (past_row t k le);
  placed = λ k le l. absurd (no_some (head_of t k) (ap (λ z. z.head) (past_row t k le)) l);
}

module _ (t u : Tree) (region : ℕ) (w : IsTree t) (h : IsGrownIn t u region) where
  pub live_grown : (k : ℕ) → IsLive t k → IsLive u k
  live_grown k l = subst (λ z. IsSome z.head) (sym (h.rows k (live-within t k l))) l

  pub block_grown : (b : ℕ) → IsBlock t b → IsBlock u b
  block_grown b is = subst IsSome (sym (h.block_parents b (block-within t b w.keys is))) is

  pub region_grown : (r : ℕ) → IsRegion t r → IsRegion u r
  region_grown r is =
      let s = slot_is t r is in
      let l = region_live t s.0.op r s.0.index w.joined s.2 in
      region_by u r s.0 (ap (λ z. slice_get z r) h.slots ∙ s.1) (ap (λ z. slice_get z.regions s.0.index) (h.rows s.0.op (live-within t s.0.op l)) ∙ s.2)

  pub defined_grown : (v : ℕ) → IsDefined t v → IsDefined u v
  defined_grown v is = defined_kept t u v (h.definitions v) results arguments is
    where
      results : (k i : ℕ) → slice_get (results_of t k) i ≡ Some v → slice_get (results_of u k) i ≡ Some v
      results k i e = elim (cases_lt k (length t.operations)) [
        | inl lt ↦ ap (λ z. slice_get z.results i) (h.rows k lt) ∙ e
        | inr le ↦ absurd (empty_slice (results_of t k) i v (ap (λ z. z.results) (past_row t k le)) e)
      ]

      arguments : (b i : ℕ) → slice_get (arguments_of t b) i ≡ Some v → slice_get (arguments_of u b) i ≡ Some v
      arguments b i e = elim (cases_lt b (length t.bodies)) [
        | inl lt ↦ ap (λ z. slice_get z i) (h.arguments b lt) ∙ e
        | inr le ↦ absurd (empty_slice (arguments_of t b) i v (get_or_past t.arguments b [] (let x = w.keys.arguments in omega (arith, x, le))) e)
      ]

  -- what is new
  module _ (wu : IsTree u) where
    pub new_block : (b : ℕ) → IsBlock u b → length t.bodies ≤ b → In b h.added
    new_block b is le =
        let p = some_of (block_parent_of u b) is in
        let i : In b (layout_of u p.0) = wu.layouts.listed b p.0 p.1 in
        elim (cases_eq p.0 region) [
          | inl e ↦ ⊎_elim (λ j. absurd (let x = block_old t w b region j in omega (arith, x, le))) (λ j. j) (In-cases b (layout_of t region) h.added (subst (In b) (ap (layout_of u) e ∙ h.last) i))
          | inr ne ↦ absurd (let x = block_old t w b p.0 (subst (In b) (h.layouts p.0 ne) i) in omega (arith, x, le))
        ]

    pub new_only : (k b : ℕ) → parent_of u k ≡ Some b → length t.bodies ≤ b → length t.operations ≤ k
    new_only k b e le = elim (cases_lt k (length t.operations)) [
      | inl lt ↦ absurd (let x = block-within t b w.keys (w.joined.all_in_place k b (sym (h.parents k lt) ∙ e)).1 in omega (arith, x, le))
      | inr ge ↦ ge
    ]

    -- what stands in a new block is new, and directly in it
    pub in_new : (b k : ℕ) → length t.bodies ≤ b → IsInOperation u b k → (length t.operations ≤ k) × (parent_of u k ≡ Some b)
    in_new b k le s =
        let ge = new_only s.0 b s.1 le in
        ⊎_elim
        (λ e. (subst (λ z. length t.operations ≤ z) (sym e) ge, ap (parent_of u) e ∙ s.1))
        (λ j. absurd (holds_nothing u wu s.0 k (h.childless s.0 ge) j))
        s.2

-- ---- one block more

module _ (t u : Tree) (region count : ℕ) (wu : IsTree u) (is : IsRegion u region) (h : IsGrownIn t u region) where
  pub region_in : region < length u.layouts
  region_in =
      let s = slot_is u region is in
      let x = slice_get_within u.slots region s.0 s.1 in
      let y = wu.keys.slots in
      omega (arith, x, y)

  pub grown_block : IsGrownIn t (block_created u region count) region
  grown_block = record {
    added = h.added ++ length u.bodies ∷ [];
    last = get_or-set_same u.layouts region (layout_of u region ++ length u.bodies ∷ []) [] region_in ∙ ap (λ z. z ++ length u.bodies ∷ []) h.last ∙ append_assoc (layout_of t region) h.added (length u.bodies ∷ []);
    fresh = λ b i. ⊎_elim (h.fresh b) (λ j. ⊎_elim (λ e. let x = h.block_count in omega (arith, e, x)) (λ z. absurd z) j) (In-cases b h.added (length u.bodies ∷ []) i);
    operation_count = h.operation_count;
    block_count = let x = length-append u.bodies ([] ∷ []) in let y = h.block_count in omega (arith, x, y);
    value_count = let x = length-append u.definitions (argument_definitions (length u.bodies) count) in let y = h.value_count in omega (arith, x, y);
    slots = h.slots;
    rows = h.rows;
    operands = h.operands;
    successors = h.successors;
    parents = h.parents;
    bodies = λ b lt. get_grown u.bodies [] b ∙ h.bodies b lt;
    arguments = λ b lt. elim (get_last u.arguments (range_with_len (length u.definitions) count) [] b) [
      | inl e ↦ e ∙ h.arguments b lt
      | inr x ↦ absurd (let e = x.2 in let y = wu.keys.arguments in let z = h.block_count in omega (arith, e, y, z, lt))
    ];
    block_parents = λ b lt. elim (get_last u.block_parents (Some region) None b) [
      | inl e ↦ e ∙ h.block_parents b lt
      | inr x ↦ absurd (let e = x.2 in let y = wu.keys.block_parents in let z = h.block_count in omega (arith, e, y, z, lt))
    ];
    layouts = λ r ne. get_or-set_other u.layouts region r (layout_of u region ++ length u.bodies ∷ []) [] ne ∙ h.layouts r ne;
    definitions = λ v d e. slice_get_kept u.definitions (argument_definitions (length u.bodies) count) v d (h.definitions v d e);
    childless = h.childless;
    placed = h.placed;
  }

-- ---- one operation more, in a block

pub created_childless : (u : Tree) (head : Head) (count : ℕ) → regions_of (after_creating u head count 0) (length u.operations) ≡ []
created_childless u head count =
    let entry : OperationEntry = record { head = Some head; results = range_with_len (length u.definitions) count; regions = [] } in
    ap (λ z. z.regions) (get_last_same u.operations entry no_entry)

module _ (u : Tree) (head : Head) (count c : ℕ) (wu : IsTree u) where
  abbrev pub made : Tree
  made = after_creating u head count 0

  abbrev pub placed_tree : Tree
  placed_tree = put_last made (length u.operations) c

  abbrev pub made_entry : OperationEntry
  made_entry = record { head = Some head; results = range_with_len (length u.definitions) count; regions = [] }

  no_parent : parent_of made (length u.operations) ≡ None
  no_parent = get_grown u.parents None (length u.operations) ∙ get_or_past u.parents (length u.operations) None (let x = wu.keys.parents in omega (arith, x))

  pub placed_is : placed_tree ≡ moved_last made (length u.operations) c
  placed_is = ap (λ o. put_last (taken_from made (length u.operations) o) (length u.operations) c) (sym no_parent)

  pub row_at : (j : ℕ) → (row_of placed_tree j ≡ row_of u j) ⊎ ((row_of placed_tree j ≡ made_entry) × (row_of u j ≡ no_entry) × (j ≡ length u.operations))
  row_at j = get_last u.operations made_entry no_entry j

  pub row_new : row_of placed_tree (length u.operations) ≡ made_entry
  row_new = get_last_same u.operations made_entry no_entry

  pub row_old : (j : ℕ) → j < length u.operations → row_of placed_tree j ≡ row_of u j
  row_old j lt = elim (row_at j) [
    | inl e ↦ e
    | inr x ↦ absurd (let e = x.2 in omega (arith, e, lt))
  ]

  pub parent_new : parent_of placed_tree (length u.operations) ≡ Some c
  parent_new = get_or-set_same made.parents (length u.operations) (Some c) None (let x = wu.keys.parents in let y = length-append u.parents (None ∷ []) in omega (arith, x, y))

  pub parent_old : (j : ℕ) → j ≢ length u.operations → parent_of placed_tree j ≡ parent_of u j
  parent_old j ne = get_or-set_other made.parents (length u.operations) j (Some c) None ne ∙ get_grown u.parents None j

  pub layout_same : (r : ℕ) → layout_of placed_tree r ≡ layout_of u r
  layout_same r = get_padded u.layouts [] 0 r

  pub operand_same : (j : ℕ) → operands_of placed_tree j ≡ operands_of u j
  operand_same j = get_grown u.operands [] j

  pub successor_same : (j : ℕ) → successors_of placed_tree j ≡ successors_of u j
  successor_same j = get_grown u.successors [] j

  module _ (t : Tree) (region : ℕ) (new : length t.bodies ≤ c) (h : IsGrownIn t u region) where
    pub grown_placed : IsGrownIn t placed_tree region
    grown_placed = record {
      added = h.added;
      last = layout_same region ∙ h.last;
      fresh = h.fresh;
      operation_count = let x = length-append u.operations (made_entry ∷ []) in let y = h.operation_count in omega (arith, x, y);
      block_count = let x = length-set u.bodies c (body_of made c ++ length u.operations ∷ []) in let y = h.block_count in omega (arith, x, y);
      value_count = let x = length-append u.definitions (result_definitions (length u.operations) count) in let y = h.value_count in omega (arith, x, y);
      slots = append-nil u.slots ∙ h.slots;
      rows = λ j lt. row_old j (let y = h.operation_count in omega (arith, y, lt)) ∙ h.rows j lt;
      operands = λ j lt. operand_same j ∙ h.operands j lt;
      successors = λ j lt. successor_same j ∙ h.successors j lt;
      parents = λ j lt. parent_old j (λ e. let y = h.operation_count in absurd (omega (arith, e, y, lt))) ∙ h.parents j lt;
      bodies = λ b lt. get_or-set_other u.bodies c b (body_of made c ++ length u.operations ∷ []) [] (λ e. absurd (omega (arith, e, new, lt))) ∙ h.bodies b lt;
      arguments = h.arguments;
      block_parents = h.block_parents;
      layouts = λ r ne. layout_same r ∙ h.layouts r ne;
      definitions = λ v d e. slice_get_kept u.definitions (result_definitions (length u.operations) count) v d (h.definitions v d e);
      childless = λ j le. ⊎_elim (λ e. ap (λ z. z.regions) e ∙ h.childless j le) (λ x. ap (λ z. z.regions) x.0) (row_at j);
      placed = λ j le l. elim (cases_eq j (length u.operations)) [
        | inl e ↦ (c, ap (parent_of placed_tree) e ∙ parent_new, new)
        | inr ne ↦
            let same : row_of placed_tree j ≡ row_of u j = ⊎_elim (λ e. e) (λ x. absurd (ne x.2)) (row_at j) in
            let p = h.placed j le (subst (λ z. IsSome z.head) same l) in
            (p.0, parent_old j ne ∙ p.1, p.2)
      ];
    }

    pub grown_operation : IsGrownIn t (moved_last made (length u.operations) c) region
    grown_operation = subst (λ (z : Tree). IsGrownIn t z region) placed_is grown_placed
