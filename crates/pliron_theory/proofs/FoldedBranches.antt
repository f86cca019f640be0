-- What folding a branch in place leaves.
use Rattle.std.proofs.Common.{◌≡◌, ◌≢◌, ◌⊎◌, inl, inr, ⊎_elim, ℕ, zero, suc, ◌<◌, ◌≤◌, Bool, true, false, true≢false, nat_eq, List, [], ◌∷◌, ◌++◌, length, map, get_or, Option, Some, None, is_some, slice_get, slice_set, refl, sym, ap, ◌∙◌, subst, IsTrue, append_assoc, append-nil, length-append, arith}
use Rattle.std.proofs.lemmas.List.{get_or-set_other, get_or-set_same, get_or_past, length-map}
use Rattle.pliron_core.specs.declared.attrs.AttrObj.{AttrObj}
use Rattle.pliron_core.specs.declared.attrs.Head.{Head}
use Rattle.pliron_core.specs.declared.context.OperationEntry.{OperationEntry}
use Rattle.pliron_core.specs.Lists.{IsDistinct, without, put_before}
use Rattle.pliron_core.specs.Tree.{Tree, In, IsLive, IsInside, IsInside.Directly, IsInside.Deeper, no_entry, row_of, head_of, operands_of, successors_of, results_of, regions_of, parent_of, body_of, arguments_of, block_parent_of, layout_of, region_parent_of, block_parent_operation_of, up_from, op_of_slot}
use Rattle.pliron_core.specs.Invariant.{IsTree}
use Rattle.pliron_core.specs.Writes.{after_creating, taken_from, put_next_to}
use Rattle.pliron_core.specs.Erased.{is_met_above, after_clearing, after_erasing}
use Rattle.pliron_core.proofs.TreeLemmas.{live-within}
use Rattle.pliron_core.proofs.ListLemmas.{In-right, In-cases, put_before-split, without-split, distinct-apart}
use Rattle.pliron_core.proofs.BlankLemmas.{blanked_gone, blanked_kept}
use Rattle.pliron_core.proofs.ClearedLemmas.{met_above, met_itself}
use Rattle.pliron_core.proofs.WithinLemmas.{within_is}
use Rattle.pliron_core.proofs.HoldingLemmas.{some_is, not_none, some_of, in_slice, slot_is, region_parent_is, block_held, held_block, holder_is}
use Rattle.pliron_core.proofs.LastLemmas.{last_front}
use Rattle.pliron_core.proofs.WalkLemmas.{inside_live}
use Rattle.pliron_laws.specs.Datum.{Shape, Meaning}
use Rattle.pliron_laws.specs.Tree.{Operation, op_at, entry_block, count_arguments, shape_of}
use Rattle.pliron_laws.specs.Acting.{pick}
use Rattle.pliron_laws.specs.Answers.{HeadPasses}
use Rattle.pliron_theory.specs.Keeps.{KeepsRuns}
use Rattle.pliron_laws.specs.Linked.{IsWellLinked}
use Rattle.pliron_theory.specs.Rebranching.{IsRebranched}
use Rattle.pliron_laws.specs.Replacing.{ReplacesBranch, with_edges, branch_replaced, FoldsBranch, FoldsBranch.Kept, FoldsBranch.Replaced}
use Rattle.pliron_laws.specs.Folding.{Constants, Feasible, AnswersJumps}
use Rattle.pliron_laws.specs.Laws.{ForwardsOperands}
use Rattle.pliron_laws.specs.InPlace.{Outcome, FoldsInPlace}
use Rattle.pliron_laws.proofs.Records.{operation_of, op_shows, make_op}
use Rattle.pliron_laws.proofs.LinkedLemmas.{linked_same}
use Rattle.pliron_laws.proofs.RisingLemmas.{rising_same}
use Rattle.pliron_theory.proofs.RebranchedStays.{rebranched_linked}
use Rattle.pliron_theory.proofs.SweptKeeps.{admitted_shape, same_keeps}
use Rattle.pliron_theory.specs.Refolded.{AreReadAs, IsRefolded}
use Rattle.pliron_theory.specs.Folded.{BranchFoldsLaw, BranchLinksLaw, BranchOutcomesLaw}
use Rattle.pliron_core.specs.Changes.{IsSameTree}
use Rattle.pliron_theory.proofs.Refolded.{refolded, refolded_admitted}

reported : (b : Bool) → (b ≡ true → ⊥) → b ≡ false
reported true f = absurd (f refl)
reported false f = refl

app_other : {A : Type 0} (xs : List A) (x d : A) (k : ℕ) → k ≢ length xs → get_or (xs ++ x ∷ []) k d ≡ get_or xs k d
app_other [] x d zero ne = absurd (ne refl)
app_other [] x d (suc k) ne = refl
app_other (y ∷ xs) x d zero ne = refl
app_other (y ∷ xs) x d (suc k) ne = app_other xs x d k (λ e. ne (ap suc e))

app_same : {A : Type 0} (xs : List A) (x d : A) (n : ℕ) → n ≡ length xs → get_or (xs ++ x ∷ []) n d ≡ x
app_same [] x d n e = ap (λ z. get_or (x ∷ []) z d) e
app_same (y ∷ xs) x d n e = ap (λ z. get_or (y ∷ (xs ++ x ∷ [])) z d) e ∙ app_same xs x d (length xs) refl

module _ (t : Tree) (a op : ℕ) (head : Head) (operands successors : List ℕ) (front : List ℕ) (w : IsTree t) (w' : IsTree (branch_replaced t op head operands successors)) (split : body_of t a ≡ front ++ op ∷ []) (childless : regions_of t op ≡ []) where
  abbrev n : ℕ
  n = length t.operations

  abbrev t' : Tree
  t' = branch_replaced t op head operands successors

  in_a : parent_of t op ≡ Some a
  in_a = w.bodies.owned op a (subst (In op) (sym split) (In-right op front (op ∷ []) (inl refl)))

  op_in : op < length t.operations
  op_in = live-within t op (w.joined.all_in_place op a in_a).0

  not_new : op ≢ n
  not_new e = let lt = op_in in absurd (omega (arith, lt, e))

  abbrev u : Tree
  u = put_next_to (with_edges (after_creating t head 0 0) (length t.operations) operands successors) (length t.operations) op (Some a)

  abbrev free : Tree
  free = taken_from u op (Some a)

  abbrev last : Tree
  last = after_clearing (taken_from u op (Some a)) (nat_eq op)

  parents_long : length t.parents ≡ length t.operations
  parents_long = w.keys.parents

  parent_u : parent_of u op ≡ Some a
  parent_u = get_or-set_other (t.parents ++ None ∷ []) n op (Some a) None not_new ∙ app_other t.parents None None op (λ e. not_new (e ∙ parents_long)) ∙ in_a

  same : t' ≡ last
  same = ap {A = Option ℕ} (λ o. after_erasing (put_next_to (with_edges (after_creating t head 0 0) (length t.operations) operands successors) (length t.operations) op o) op) in_a ∙ ap {A = Option ℕ} (λ o. after_clearing (taken_from u op o) (nat_eq op)) parent_u

  -- nothing stands inside the branch that goes
  no_block : (c : ℕ) → block_parent_operation_of t c ≡ Some op → ⊥
  no_block c e =
      let x = block_held t c w.joined (held_block t c op e) in
      let s = slot_is t x.0 x.3 in
      let here : s.0.op ≡ op = some_is (sym (region_parent_is t x.0 s.0 s.1) ∙ x.4 ∙ sym x.5 ∙ e) in
      not_none (sym (ap (λ l. slice_get l s.0.index) (ap (regions_of t) here ∙ childless)) ∙ s.2)

  block_same : (c : ℕ) → block_parent_operation_of free c ≡ block_parent_operation_of t c
  block_same c = go (block_parent_of t c)
    where
      go : (o : Option ℕ) → up_from o (λ r. region_parent_of free r) ≡ up_from o (λ r. region_parent_of t r)
      go None = refl
      go (Some r) = ap (λ l. op_of_slot (slice_get l r)) (append-nil t.slots)

  nothing_inside : (x : ℕ) → IsInside free op x → ⊥
  nothing_inside x (Directly e) = let y = holder_is free x op e in no_block y.0 (sym (block_same y.0) ∙ y.2)
  nothing_inside x (Deeper q e i) = nothing_inside q i

  kept : (k : ℕ) → k ≢ op → is_met_above free (nat_eq op) (Some k) ≡ false
  kept k ne = reported _ (λ e. ⊎_elim ne (λ i. nothing_inside k i) (within_is free op k e))

  block_kept : (c : ℕ) → is_met_above free (nat_eq op) (block_parent_operation_of free c) ≡ false
  block_kept c = reported _ (λ e. let y = met_above free op (block_parent_operation_of free c) e in ⊎_elim (λ s. no_block c (sym (block_same c) ∙ y.1 ∙ ap Some s)) (λ i. nothing_inside y.0 i) y.2)

  long : length free.operations ≡ suc (length t.operations)
  long = let x = length-append t.operations (record { head = Some head; results = []; regions = [] } ∷ []) in omega (arith, x)

  op_gone : is_met_above free (nat_eq op) (Some op) ≡ true
  op_gone = met_itself free op (let x = long in let y = op_in in omega (arith, x, y))

  block_parents : (c : ℕ) → block_parent_of last c ≡ block_parent_of t c
  block_parents c = blanked_kept _ None free.block_parents c (block_kept c)

  new_entry : OperationEntry
  new_entry = record { head = Some head; results = []; regions = [] }

  row_new : row_of last n ≡ record { head = Some head; results = []; regions = [] }
  row_new = blanked_kept _ no_entry free.operations n (kept n (λ e. not_new (sym e))) ∙ app_same t.operations (record { head = Some head; results = []; regions = [] }) no_entry n refl

  rows : (k : ℕ) → k ≢ op → k ≢ n → row_of last k ≡ row_of t k
  rows k ne nn = blanked_kept _ no_entry free.operations k (kept k ne) ∙ app_other t.operations (record { head = Some head; results = []; regions = [] }) no_entry k nn

  operands_k : (k : ℕ) → k ≢ op → k ≢ n → operands_of last k ≡ operands_of t k
  operands_k k ne nn = blanked_kept _ [] free.operands k (kept k ne) ∙ get_or-set_other (t.operands ++ [] ∷ []) n k operands [] nn ∙ app_other t.operands [] [] k (λ e. nn (e ∙ w.keys.operands))

  successors_k : (k : ℕ) → k ≢ op → k ≢ n → successors_of last k ≡ successors_of t k
  successors_k k ne nn = blanked_kept _ [] free.successors k (kept k ne) ∙ get_or-set_other (t.successors ++ [] ∷ []) n k successors [] nn ∙ app_other t.successors [] [] k (λ e. nn (e ∙ w.keys.successors))

  operands_new : operands_of last n ≡ operands
  operands_new = blanked_kept _ [] free.operands n (kept n (λ e. not_new (sym e))) ∙ get_or-set_same (t.operands ++ [] ∷ []) n operands [] (let x = length-append t.operations t.operations in let y = w.keys.operands in let z = length-append t.operands ([] ∷ []) in omega (arith, y, z))

  successors_new : successors_of last n ≡ successors
  successors_new = blanked_kept _ [] free.successors n (kept n (λ e. not_new (sym e))) ∙ get_or-set_same (t.successors ++ [] ∷ []) n successors [] (let y = w.keys.successors in let z = length-append t.successors ([] ∷ []) in omega (arith, y, z))

  parents_k : (k : ℕ) → k ≢ op → k ≢ n → parent_of last k ≡ parent_of t k
  parents_k k ne nn = blanked_kept _ None free.parents k (kept k ne) ∙ get_or-set_other u.parents op k None None ne ∙ get_or-set_other (t.parents ++ None ∷ []) n k (Some a) None nn ∙ app_other t.parents None None k (λ e. nn (e ∙ parents_long))

  bodies_c : (c : ℕ) → c ≢ a → body_of last c ≡ body_of t c
  bodies_c c ne = blanked_kept _ [] free.bodies c (block_kept c) ∙ get_or-set_other u.bodies a c (without op (body_of u a)) [] ne ∙ get_or-set_other t.bodies a c (put_before op n (body_of t a)) [] ne

  a_in : a < length t.bodies
  a_in = go (cases a (length t.bodies))
    where
      cases : (x k : ℕ) → (x < k) ⊎ (k ≤ x)
      cases x k = grind arith

      go : (a < length t.bodies) ⊎ (length t.bodies ≤ a) → a < length t.bodies
      go (inl lt) = lt
      go (inr le) = absurd (subst (In op) (get_or_past t.bodies a [] le) (w.bodies.listed op a in_a))

  not_in_front : In op front → ⊥
  not_in_front i = distinct-apart front (op ∷ []) (subst IsDistinct split (w.bodies.distinct a)) op i (inl refl)

  length_set : {A : Type 0} (xs : List A) (k : ℕ) (x : A) → length (slice_set xs k x) ≡ length xs
  length_set [] k x = refl
  length_set (y ∷ xs) zero x = refl
  length_set (y ∷ xs) (suc k) x = ap suc (length_set xs k x)

  body_u : body_of u a ≡ front ++ n ∷ op ∷ []
  body_u = get_or-set_same t.bodies a (put_before op n (body_of t a)) [] a_in ∙ ap (put_before op n) split ∙ put_before-split op n front [] not_in_front

  body_a : body_of last a ≡ front ++ n ∷ []
  body_a =
      blanked_kept _ [] free.bodies a (block_kept a)
      ∙ get_or-set_same u.bodies a (without op (body_of u a)) [] (let x = length_set t.bodies a (put_before op n (body_of t a)) in let y = a_in in omega (arith, x, y))
      ∙ ap (without op) (body_u ∙ sym (append_assoc front (n ∷ []) (op ∷ [])))
      ∙ without-split op (front ++ n ∷ []) [] (λ i. ⊎_elim not_in_front (λ j. ⊎_elim (λ e. not_new e) (λ z. z) j) (In-cases op front (n ∷ []) i))
      ∙ append-nil (front ++ n ∷ [])

  arguments_c : (c : ℕ) → arguments_of last c ≡ arguments_of t c
  arguments_c c = blanked_kept _ [] free.arguments c (block_kept c)

  -- the layouts follow from where blocks stand
  layouts : IsTree last → (r : ℕ) → layout_of last r ≡ layout_of t r
  layouts wl r = rising_same (layout_of last r) (layout_of t r) (wl.joined.ordered r) (w.joined.ordered r) (λ c i. w.layouts.listed c r (sym (block_parents c) ∙ wl.layouts.owned c r i)) (λ c i. wl.layouts.listed c r (block_parents c ∙ w.layouts.owned c r i))

  pub rebranched : results_of t op ≡ [] → ((v : ℕ) → In v operands → In v (operands_of t op)) → ((c : ℕ) → In c successors → In c (successors_of t op)) → IsRebranched t last a op n front
  rebranched no_results fewer fewer_targets = record {
    split = split;
    put = body_a;
    fresh = ap (λ z. z.head) (get_or_past t.operations n no_entry (omega arith));
    deleted = ap (λ z. z.head) (blanked_gone _ no_entry free.operations op op_gone);
    childless = childless;
    new_childless = ap (λ z. z.regions) row_new;
    no_results = no_results;
    new_no_results = ap (λ z. z.results) row_new;
    new_operands = λ v i. fewer v (subst (In v) operands_new i);
    new_successors = λ c i. fewer_targets c (subst (In c) successors_new i);
    rows = rows;
    operands = operands_k;
    successors = successors_k;
    parents = parents_k;
    bodies = bodies_c;
    arguments = arguments_c;
    block_parents = block_parents;
    layouts = layouts (subst IsTree same w');
  }

-- what is picked is one of the list
picked_in : (xs ys places : List ℕ) → map Some xs ≡ pick places ys → (x : ℕ) → In x xs → In x ys
picked_in [] ys places e x i = absurd i
picked_in (z ∷ xs) ys [] e x i = grind arith
picked_in (z ∷ xs) ys (p ∷ places) e x (inl s) = let here : Some z ≡ slice_get ys p = cc in in_slice ys p x (sym here ∙ ap Some (sym s))
picked_in (z ∷ xs) ys (p ∷ places) e x (inr i) = let rest : map Some xs ≡ pick places ys = cc in picked_in xs ys places rest x i

-- what folding puts in the place of a branch that ends its block, without results and regions
refolded_as : (m : Meaning) (t : Tree) (a op : ℕ) (front : List ℕ) (known : List (Option AttrObj)) (o : Operation) (head : Head) (operands successors places edges : List ℕ) → IsTree t → IsTree (branch_replaced t op head operands successors) → body_of t a ≡ front ++ op ∷ [] → regions_of t op ≡ [] → results_of t op ≡ [] → op_at t op ≡ Some o → map Some operands ≡ pick places o.operands → ReplacesBranch m (shape_of m t o) o.successors successors known head places edges → IsRefolded m t (branch_replaced t op head operands successors) a op (length t.operations) front known
refolded_as m t a op front known o head operands successors places edges w w' split childless no_results liveness picked replaces =
    let x = op_shows t op o liveness in
    let r = rebranched t a op head operands successors front w w' split childless no_results
    (λ v i. subst (In v) (sym x.operands) (picked_in operands o.operands places picked v i))
    (λ c i. subst (In c) (sym x.successors) (picked_in successors o.successors edges replaces.targets_kept c i)) in
    let new_ops = operands_new t a op head operands successors front w w' split childless in
    let new_targets = successors_new t a op head operands successors front w w' split childless in
    let row = row_new t a op head operands successors front w w' split childless in
    subst (λ (z : Tree). IsRefolded m t z a op (length t.operations) front known) (sym (same t a op head operands successors front w w' split childless))
    (record { placed = r; operation = o; liveness = liveness; head = head; places = places; edges = edges; new_head = ap (λ z. z.head) row; operands = ap (map Some) new_ops ∙ picked; replaces = subst (λ ts. ReplacesBranch m (shape_of m t o) o.successors ts known head places edges) (sym new_targets) replaces })

-- a branch that ends its block, without results and regions
record EndsAlone (m : Meaning) (t : Tree) (op : ℕ) : Type 0 where
  pub block : ℕ
  pub front : List ℕ
  pub split : body_of t block ≡ front ++ op ∷ []
  pub childless : regions_of t op ≡ []
  pub no_results : results_of t op ≡ []
  pub branch : HeadPasses m.is_branch t op

folding : (m : Meaning) (t t' : Tree) (op : ℕ) (known : List (Option AttrObj)) → IsTree t → IsTree t' → length t.operations ≤ length t'.operations → EndsAlone m t op → length known ≡ length (operands_of t op) → AreReadAs m t op known → FoldsBranch m op known t t' → KeepsRuns m t t'
folding m t t' op known w w' longer ends long so (Kept s) = same_keeps m t t' w w' s longer
folding m t t' op known w w' longer ends long so (Replaced o head operands successors places edges liveness picked replaces) =
    refolded m t t' ends.block op (length t.operations) ends.front known w w' longer (omega arith) ends.branch long (refolded_as m t ends.block op ends.front known o head operands successors places edges w w' ends.split ends.childless ends.no_results liveness picked replaces) so

linking : (m : Meaning) (t t' : Tree) (op : ℕ) (known : List (Option AttrObj)) → IsTree t → IsTree t' → EndsAlone m t op → (root : ℕ) → IsWellLinked m t root → IsLive t root → IsLive t' root → FoldsBranch m op known t t' → IsWellLinked m t' root
linking m t t' op known w w' ends root links live left (Kept s) = linked_same m t t' root w w' s links
linking m t t' op known w w' ends root links live left (Replaced o head operands successors places edges liveness picked replaces) =
    let h = refolded_as m t ends.block op ends.front known o head operands successors places edges w w' ends.split ends.childless ends.no_results liveness picked replaces in
    rebranched_linked m t t' ends.block op (length t.operations) ends.front w w' h.placed root links live (λ e. true≢false (sym left ∙ ap (λ z. is_some (head_of t' z)) e ∙ ap is_some h.placed.deleted))
    (λ i. refolded_admitted m t t' ends.block op (length t.operations) ends.front known h)

replacing : (m : Meaning) (t u : Tree) (op : ℕ) (known : List (Option AttrObj)) → IsTree t → IsTree u → EndsAlone m t op → FoldsBranch m op known t u → IsSameTree t u ⊎ ((a new : ℕ) × (front : List ℕ) × IsRebranched t u a op new front)
replacing m t u op known w w' ends (Kept s) = inl s
replacing m t u op known w w' ends (Replaced o head operands successors places edges liveness picked replaces) =
    inr (ends.block, length t.operations, ends.front, (refolded_as m t ends.block op ends.front known o head operands successors places edges w w' ends.split ends.childless ends.no_results liveness picked replaces).placed)

no_items : {A : Type 0} (xs : List A) → length xs ≡ 0 → xs ≡ []
no_items [] e = refl
no_items (x ∷ xs) e = grind arith

some_item : (xs : List ℕ) → 0 < length xs → (x : ℕ) × In x xs
some_item [] lt = absurd (omega (arith, lt))
some_item (x ∷ xs) lt = (x, inl refl)

-- a branch of a lawful dialect that folds, inside a root where the tree is well linked
module _ (m : Meaning) (can_fold can_fold_branch : Head → Bool) (feasible : Feasible) (SameTests : Head → Head → Type 0) (shortened : Shape → ℕ → ℕ → Head) (forwards : ForwardsOperands m can_fold SameTests shortened) (jumps : AnswersJumps m can_fold_branch feasible) where
  ends_alone : (t : Tree) (root op : ℕ) → IsTree t → IsWellLinked m t root → IsInside t root op → HeadPasses can_fold_branch t op → EndsAlone m t op
  unfolding shape_of
  ends_alone t root op w linked inside tests =
      let h = some_of (head_of t op) (inside_live t w root op inside) in
      let o = operation_of t op h.0 in
      let oe : op_at t op ≡ Some o = make_op t op h.0 h.1 in
      let s = op_shows t op o oe in
      let ad = admitted_shape m t op o oe (linked.admitted op (inr inside)) in
      let br : IsTrue (m.is_branch o.head) = jumps.branches (shape_of m t o) ad (tests o.head s.head) in
      let alone = forwards.alone (shape_of m t o) ad br in
      let edge = some_item o.successors (forwards.some_edge (shape_of m t o) ad br) in
      let ends = linked.edges op edge.0 (subst (In edge.0) (sym s.successors) edge.1) (inl inside) in
      let split = last_front (body_of t ends.block) op ends.last in
      let childless : o.regions ≡ [] = no_items o.regions (sym (length-map o.regions (λ r. count_arguments (entry_block t r))) ∙ ap length alone.1) in
      record {
        block = ends.block;
        front = split.0;
        split = split.1;
        childless = s.regions ∙ childless;
        no_results = s.results ∙ no_items o.results alone.0;
        branch = λ x e. subst (λ z. IsTrue (m.is_branch z)) (some_is (sym s.head ∙ e)) br;
      }

  module _ (constants : Constants) (accepts : AttrObj → Bool) (head : AttrObj → Head) (fold branch_fold : Outcome) (folds : FoldsInPlace m constants accepts head fold branch_fold) where
    pub branch_folds : BranchFoldsLaw m can_fold_branch branch_fold
    branch_folds t t' root op known answer w w' longer linked inside tests entries reads outcome =
        folding m t t' op known w w' longer (ends_alone t root op w linked inside tests) entries reads (folds.branch t t' op known answer outcome).0

    pub branch_links : BranchLinksLaw m can_fold_branch branch_fold
    branch_links t t' root other op known answer w w' linked inside tests outcome links live left =
        linking m t t' op known w w' (ends_alone t root op w linked inside tests) other links live left (folds.branch t t' op known answer outcome).0

    pub branch_outcomes : BranchOutcomesLaw m can_fold_branch branch_fold
    branch_outcomes t t' root op known answer w w' linked inside tests outcome =
        replacing m t t' op known w w' (ends_alone t root op w linked inside tests) (folds.branch t t' op known answer outcome).0
