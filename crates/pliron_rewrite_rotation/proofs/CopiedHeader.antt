-- A header that was copied, before anything leads to the copy.
use Rattle.std.proofs.Common.{◌≡◌, ◌≢◌, ◌⊎◌, inl, inr, ⊎_elim, ℕ, zero, suc, ◌+◌, ◌-◌, ◌<◌, ◌≤◌, List, [], ◌∷◌, ◌++◌, length, get_or, map, Option, Some, None, IsSome, is_some, slice_get, refl, sym, ap, ◌∙◌, subst, append-nil, arith}
use Rattle.std.specs.Option.{option_map}
use Rattle.std.proofs.lemmas.Bool.{cases_eq}
use Rattle.std.proofs.lemmas.Option.{slice_get_within}
use Rattle.pliron_core.specs.declared.attrs.Head.{Head}
use Rattle.pliron_core.specs.declared.context.Def.{Def}
use Rattle.pliron_core.specs.declared.context.Def.TheVariants.{Result, Argument}
use Rattle.pliron_core.specs.Changes.{IsInsideChange, IsOutside, IsBlockOutside}
use Rattle.pliron_core.specs.Invariant.{IsTree}
use Rattle.pliron_core.specs.Tree.{Tree, In, IsDistinct, first_of, IsLive, IsBlock, IsDefined, IsMadeBy, IsInside, IsWithin, HoldsBlock, head_of, operands_of, successors_of, results_of, regions_of, parent_of, body_of, arguments_of, block_parent_of, layout_of, slot_of, definition_of, region_parent_of, block_parent_operation_of, parent_operation_of, up_from, op_of_slot}
use Rattle.pliron_core.proofs.HoldingLemmas.{some_is, not_none, in_slice, slice_in, maker_is, result_live, argument_stands, holder_is, holder_by, inside_more, within_more, inside_block}
use Rattle.pliron_core.proofs.InsideLemmas.{AreKeptOutside, change_of_kept}
use Rattle.pliron_core.proofs.TreeLemmas.{live-within, block-within, cases_lt}
use Rattle.pliron_core.proofs.FlatLemmas.{In-flat_map}
use Rattle.pliron_core.proofs.ListLemmas.{In-left, In-right}
use Rattle.pliron_laws.specs.Root.{defining_block}
use Rattle.pliron_rewrite_copies.specs.Copies.{Originals, HasOriginals, IsCopiedOperation, IsCopiedBlock}
use Rattle.pliron_rewrite_copies.specs.ClosedBlock.{IsClosedBlock, IsBlockCopied}
use Rattle.pliron_rewrite_copies.proofs.Maps.{in_map, from_map}
use Rattle.pliron_rewrite_calls.specs.Copying.{parts_of, originals_of, AreCopiedInto}
use Rattle.pliron_rewrite_rotation.proofs.OriginalLists.{old_itself, new_item, original_in, original_apart}
use Rattle.pliron_rewrite_rotation.specs.HeaderSteps.{EnteredHeader, copy_of, IsEnteredHeader, StandsAsBefore, IsLeadingIn}
use Rattle.pliron_rewrite_rotation.proofs.LeadingSteps.{leader_live, no_member}

-- members that a function leaves alone
itself : (f : ℕ → ℕ) (xs : List ℕ) → ((x : ℕ) → In x xs → f x ≡ x) → xs ≡ map f xs
itself f [] same = refl
itself f (x ∷ xs) same = ap (λ z. z ∷ xs) (sym (same x (inl refl))) ∙ ap (λ z. f x ∷ z) (itself f xs (λ y i. same y (inr i)))

first_before : (xs ys : List ℕ) (x : ℕ) → In x xs → first_of (xs ++ ys) None ≡ first_of xs None
first_before [] ys x i = absurd i
first_before (y ∷ xs) ys x i = refl

first_in : (xs : List ℕ) (x : ℕ) → first_of xs None ≡ Some x → In x xs
first_in [] x e = absurd (not_none e)
first_in (y ∷ ys) x e = inl (sym (some_is e))

module _ (x : EnteredHeader) (src : IsEnteredHeader x) (u : Tree) (w' : IsTree u) (h : AreCopiedInto x.tree u x.region (x.header ∷ [])) where
  abbrev t : Tree
  t = x.tree

  w : IsTree x.tree
  w = src.tree

  abbrev o : Originals
  o = originals_of x.tree (x.header ∷ [])

  abbrev c : ℕ
  c = copy_of x

  header_less : x.header < length x.tree.bodies
  header_less = block-within x.tree x.header w.keys src.may.stands

  -- ---- what was there has itself as original

  op_own : (k : ℕ) → k < length x.tree.operations → o.operation k ≡ k
  op_own k lt = old_itself _ (length x.tree.operations) k lt

  block_own : (b : ℕ) → b < length x.tree.bodies → o.block b ≡ b
  block_own b lt = old_itself (x.header ∷ []) (length x.tree.bodies) b lt

  value_own : (v : ℕ) → v < length x.tree.definitions → o.value v ≡ v
  value_own v lt = old_itself _ (length x.tree.definitions) v lt

  value_less : (v : ℕ) → IsDefined x.tree v → v < length x.tree.definitions
  value_less v d = let y = maker_is x.tree v d in slice_get_within x.tree.definitions v y.0 y.1

  block_less : (b : ℕ) → IsBlock x.tree b → b < length x.tree.bodies
  block_less b is = block-within x.tree b w.keys is

  result_less : (k v : ℕ) → In v (results_of x.tree k) → v < length x.tree.definitions
  result_less k v i = let n = slice_in (results_of x.tree k) v i in slice_get_within x.tree.definitions v _ (w.joined.results k n.0 v n.1)

  argument_less : (b v : ℕ) → In v (arguments_of x.tree b) → v < length x.tree.definitions
  argument_less b v i = let n = slice_in (arguments_of x.tree b) v i in slice_get_within x.tree.definitions v _ (w.joined.arguments b n.0 v n.1)

  member_less : (b k : ℕ) → In k (body_of x.tree b) → k < length x.tree.operations
  member_less b k i = live-within x.tree k (w.joined.all_in_place k b (w.bodies.owned k b i)).0

  -- ---- the copy

  many : length (parts_of x.tree (x.header ∷ [])).blocks ≡ 1
  many = refl

  blocks_now : length u.bodies ≡ c + 1
  blocks_now = h.block_count

  copy_less : c < length u.bodies
  copy_less = let n = blocks_now in omega (arith, n)

  new_is_copy : (b : ℕ) → IsBlock u b → c ≤ b → b ≡ c
  new_is_copy b is le = let lt = block-within u b w'.keys is in let n = blocks_now in omega (arith, lt, n, le)

  of_copy : o.block c ≡ x.header
  of_copy = new_item (x.header ∷ []) c c (omega arith) ∙ ap (λ n. get_or (x.header ∷ []) n c) zero_left
    where
      zero_left : c - c ≡ 0
      zero_left = omega arith

  others : (b : ℕ) → b ≢ c → o.block b ≡ b
  others b ne = ⊎_elim
      (λ lt. block_own b lt)
      (λ le. new_item (x.header ∷ []) c b le ∙ past (b - c) (some_left le))
      (cases_lt b c)
    where
      some_left : c ≤ b → 0 < b - c
      some_left le = omega (arith, ne, le)

      past : (n : ℕ) → 0 < n → get_or (x.header ∷ []) n b ≡ b
      past zero lt = absurd (omega (arith, lt))
      past (suc n) lt = refl

  copy_home : block_parent_of u c ≡ Some x.region
  copy_home = (h.block_copies c (omega arith) copy_less).parent

  copy_body : body_of x.tree x.header ≡ map o.operation (body_of u c)
  copy_body = ap (body_of x.tree) (sym of_copy) ∙ (h.block_copies c (omega arith) copy_less).body

  parts_body : (parts_of x.tree (x.header ∷ [])).operations ≡ body_of x.tree x.header
  parts_body = append-nil (body_of x.tree x.header)

  -- what is new is in the copy
  in_header : (k : ℕ) → length x.tree.operations ≤ k → k < length u.operations → In (o.operation k) (body_of x.tree x.header)
  in_header k le lt = subst (In (o.operation k)) parts_body (original_in (parts_of x.tree (x.header ∷ [])).operations (length x.tree.operations) k le (subst (λ n. k < n) h.operation_count lt))

  not_in_copy : (k : ℕ) → k < length x.tree.operations → parent_of u k ≡ Some c → ⊥
  not_in_copy k lt e = let is = block_less c (w.joined.all_in_place k c (sym (h.parents k lt) ∙ e)).1 in omega (arith, is)

  new_in_copy : (k : ℕ) → length x.tree.operations ≤ k → k < length u.operations → parent_of u k ≡ Some c
  new_in_copy k le lt = ⊎_elim
      (λ old. absurd (not_in_copy y.0 old in_c))
      (λ new. subst (λ z. parent_of u z ≡ Some c) (original_apart (parts_of x.tree (x.header ∷ [])).operations (length x.tree.operations) y.0 k distinct new (less y.0 (w'.joined.all_in_place y.0 c in_c).0) le (less' k lt) y.2) in_c)
      (cases_lt y.0 (length x.tree.operations))
    where
      y : (j : ℕ) × In j (body_of u c) × (o.operation j ≡ o.operation k)
      y = from_map o.operation (body_of u c) (o.operation k) (subst (In (o.operation k)) copy_body (in_header k le lt))

      in_c : parent_of u y.0 ≡ Some c
      in_c = w'.bodies.owned y.0 c y.1

      distinct : IsDistinct (parts_of x.tree (x.header ∷ [])).operations
      distinct = subst IsDistinct (sym parts_body) (w.bodies.distinct x.header)

      less' : (j : ℕ) → j < length u.operations → j < length x.tree.operations + length (parts_of x.tree (x.header ∷ [])).operations
      less' j l = subst (λ n. j < n) h.operation_count l

      less : (j : ℕ) → IsLive u j → j < length x.tree.operations + length (parts_of x.tree (x.header ∷ [])).operations
      less j l = less' j (live-within u j l)

  -- ---- originals

  old_live : (k : ℕ) → k < length x.tree.operations → IsLive u k → IsLive x.tree k
  old_live k lt l = subst (λ z. IsSome z.head) (h.rows k lt) l

  copied_old : (k : ℕ) → k < length x.tree.operations → IsCopiedOperation x.tree u o k
  copied_old k lt = record {
    head = ap (head_of x.tree) (op_own k lt) ∙ sym (ap (λ z. z.head) (h.rows k lt));
    operands = ap (operands_of x.tree) (op_own k lt) ∙ itself o.value (operands_of x.tree k) (λ v i. value_own v (value_less v (w.joined.operands k v i))) ∙ ap (map o.value) (sym (h.operands k lt));
    results = ap (results_of x.tree) (op_own k lt) ∙ itself o.value (results_of x.tree k) (λ v i. value_own v (result_less k v i)) ∙ sym (ap (λ z. map o.value z.results) (h.rows k lt));
    successors = ap (successors_of x.tree) (op_own k lt) ∙ itself o.block (successors_of x.tree k) (λ b i. block_own b (block_less b (w.joined.successors k b i))) ∙ ap (map o.block) (sym (h.successors k lt));
    regions = ap (regions_of x.tree) (op_own k lt) ∙ itself o.region (regions_of x.tree k) (λ r i. refl) ∙ sym (ap (λ z. map o.region z.regions) (h.rows k lt));
  }

  old_or_new : (k : ℕ) → IsLive u k → (k < length x.tree.operations) ⊎ ((length x.tree.operations ≤ k) × (k < length u.operations))
  old_or_new k l = ⊎_elim (λ lt. inl lt) (λ le. inr (le, live-within u k l)) (cases_lt k (length x.tree.operations))

  home_now : (b r : ℕ) → block_parent_of u b ≡ Some r → c ≤ b → (b ≡ c) × (r ≡ x.region)
  home_now b r e le = let s = new_is_copy b (ap is_some e) le in (s, some_is (sym e ∙ ap (block_parent_of u) s ∙ copy_home))

  copied_block : (b r : ℕ) → block_parent_of u b ≡ Some r → IsCopiedBlock x.tree u o b r
  copied_block b r e = ⊎_elim
      (λ lt. record {
        arguments = ap (arguments_of x.tree) (block_own b lt) ∙ itself o.value (arguments_of x.tree b) (λ v i. value_own v (argument_less b v i)) ∙ ap (map o.value) (sym (h.arguments b lt));
        body = ap (body_of x.tree) (block_own b lt) ∙ itself o.operation (body_of x.tree b) (λ k i. op_own k (member_less b k i)) ∙ ap (map o.operation) (sym (h.bodies b lt));
        parent = ap (block_parent_of x.tree) (block_own b lt) ∙ sym (h.block_parents b lt) ∙ e;
      })
      (λ le.
      let s = home_now b r e le in
      let q = h.block_copies b le (block-within u b w'.keys (ap is_some e)) in
      record { arguments = q.arguments; body = q.body; parent = ap (λ z. block_parent_of x.tree (o.block z)) s.0 ∙ ap (block_parent_of x.tree) of_copy ∙ src.in_region ∙ ap Some (sym s.1) })
      (cases_lt b c)

  header_listed : In x.header (layout_of x.tree x.region)
  header_listed = w.layouts.listed x.header x.region src.in_region

  first_now : (r : ℕ) → first_of (layout_of u r) None ≡ first_of (layout_of x.tree r) None
  first_now r = ⊎_elim
      (λ s. ap (λ z. first_of (layout_of u z) None) s ∙ ap (λ z. first_of z None) h.last ∙ first_before (layout_of x.tree x.region) _ x.header header_listed ∙ ap (λ z. first_of (layout_of x.tree z) None) (sym s))
      (λ ne. ap (λ z. first_of z None) (h.layouts r ne))
      (cases_eq r x.region)

  entry_same : (r : ℕ) → first_of (layout_of x.tree r) None ≡ option_map o.block (first_of (layout_of u r) None)
  entry_same r = go (first_of (layout_of x.tree r) None) refl ∙ ap (option_map o.block) (sym (first_now r))
    where
      go : (z : Option ℕ) → first_of (layout_of x.tree r) None ≡ z → first_of (layout_of x.tree r) None ≡ option_map o.block (first_of (layout_of x.tree r) None)
      go None e = e ∙ sym (ap (option_map o.block) e)
      go (Some b) e =
          let is : IsBlock x.tree b = ap is_some (w.layouts.owned b r (first_in (layout_of x.tree r) b e)) in
          e ∙ ap Some (sym (block_own b (block_less b is))) ∙ sym (ap (option_map o.block) e)

  has_originals : HasOriginals x.tree u o
  has_originals = record {
    operations = λ k l. ⊎_elim (λ lt. copied_old k lt) (λ new. (h.copies k new.0 new.1).same) (old_or_new k l);
    blocks = copied_block;
    entries = λ k r i. entry_same r;
  }

  -- ---- the two blocks are closed

  old_definition : (v : ℕ) → IsDefined x.tree v → definition_of u v ≡ definition_of x.tree v
  old_definition v d = h.definitions v (value_less v d)

  -- a value of the header is an old one that the header defines
  home_old : (v : ℕ) → IsDefined u v → defining_block u (definition_of u v) ≡ Some x.header → IsDefined x.tree v × (defining_block x.tree (definition_of x.tree v) ≡ Some x.header) × In v (parts_of x.tree (x.header ∷ [])).values
  home_old v made q = let y = maker_is u v made in go y.0 y.1 y.2
    where
      go : (d : Def) → definition_of u v ≡ Some d → IsMadeBy u v (Some d) → IsDefined x.tree v × (defining_block x.tree (definition_of x.tree v) ≡ Some x.header) × In v (parts_of x.tree (x.header ∷ [])).values
      go (Argument b i) e j =
          let s : b ≡ x.header = some_is (sym (ap (defining_block u) e) ∙ q) in
          let lt : b < c = subst (λ z. z < c) (sym s) header_less in
          let there : slice_get (arguments_of x.tree b) i ≡ Some v = ap (λ z. slice_get z i) (sym (h.arguments b lt)) ∙ j in
          let def = w.joined.arguments b i v there in (
            subst (IsMadeBy x.tree v) (sym def) there,
            ap (defining_block x.tree) def ∙ ap Some s,
            In-left v _ _ (subst (In v) (sym (append-nil (arguments_of x.tree x.header))) (subst (λ z. In v (arguments_of x.tree z)) s (in_slice (arguments_of x.tree b) i v there))),
          )
      go (Result k i) e j =
          let placed : parent_of u k ≡ Some x.header = sym (ap (defining_block u) e) ∙ q in
          let stands : In k (body_of x.tree x.header) = subst (In k) (h.bodies x.header header_less) (w'.bodies.listed k x.header placed) in
          let lt = member_less x.header k stands in
          let there : slice_get (results_of x.tree k) i ≡ Some v = ap (λ z. slice_get z.results i) (sym (h.rows k lt)) ∙ j in
          let def = w.joined.results k i v there in (
            subst (IsMadeBy x.tree v) (sym def) there,
            ap (defining_block x.tree) def ∙ w.bodies.owned k x.header stands,
            In-right v _ _ (In-flat_map (λ z. results_of x.tree z) _ k v (subst (In k) (sym parts_body) stands) (in_slice (results_of x.tree k) i v there)),
          )

  closed : IsClosedBlock u x.header
  closed k v i q =
      let y = home_old v (w'.joined.operands k v i) q in
      ⊎_elim
      (λ lt. h.parents k lt ∙ src.may.closed k v (subst (In v) (h.operands k lt) i) y.1)
      (λ new. absurd (h.named k v new.0 i y.2))
      (old_or_new k (user_live k v i))
    where
      user_live : (k v : ℕ) → In v (operands_of u k) → IsLive u k
      user_live k v i = go (head_of u k) refl
        where
          go : (z : Option Head) → head_of u k ≡ z → IsLive u k
          go None e = absurd (no_member (operands_of u k) v (w'.joined.erased k e).0 i)
          go (Some y) e = ap is_some e

  -- an old value isn't defined in the copy
  not_of_copy : (v : ℕ) → IsDefined x.tree v → defining_block u (definition_of u v) ≡ Some c → ⊥
  not_of_copy v d q = let y = maker_is x.tree v d in go y.0 y.1 y.2
    where
      go : (z : Def) → definition_of x.tree v ≡ Some z → IsMadeBy x.tree v (Some z) → ⊥
      go (Argument b i) e j =
          let s : b ≡ c = some_is (sym (ap (defining_block u) (old_definition v d ∙ e)) ∙ q) in
          let lt = block_less b (argument_stands x.tree w.joined b i v j) in omega (arith, lt, s)
      go (Result k i) e j =
          let lt = live-within x.tree k (result_live x.tree w.joined k i v j) in
          not_in_copy k lt (sym (ap (defining_block u) (old_definition v d ∙ e)) ∙ q)

  closed_copy : IsClosedBlock u c
  closed_copy k v i q = ⊎_elim
      (λ lt. absurd (not_of_copy v (w.joined.operands k v (subst (In v) (h.operands k lt) i)) q))
      (λ new. new_in_copy k new.0 new.1)
      (old_or_new k live)
    where
      live : IsLive u k
      live = go (head_of u k) refl
        where
          go : (z : Option Head) → head_of u k ≡ z → IsLive u k
          go None e = absurd (no_member (operands_of u k) v (w'.joined.erased k e).0 i)
          go (Some y) e = ap is_some e

  block_copied : IsBlockCopied x.tree u o x.header c
  block_copied = record {
    originals = has_originals;
    apart = λ s. (let lt = header_less in omega (arith, lt, s));
    copied = of_copy;
    others = others;
    regions = λ r. refl;
    holders = λ k l ne. ⊎_elim (λ lt. op_own k lt) (λ new. absurd (ne (h.copies k new.0 new.1).childless)) (old_or_new k l);
    placed = λ k b l e. ⊎_elim
        (λ lt. (b, h.parents k lt ∙ ap (parent_of x.tree) (sym (op_own k lt)) ∙ e))
        (λ new. (c, new_in_copy k new.0 new.1))
        (old_or_new k l);
    closed = closed;
    closed_copy = closed_copy;
  }

  -- ---- nothing leads to the copy

  target_old : (k : ℕ) → k < length x.tree.operations → In c (successors_of u k) → ⊥
  target_old k lt i = let is = block_less c (w.joined.successors k c (subst (In c) (h.successors k lt) i)) in omega (arith, is)

  target_new : (k : ℕ) → length x.tree.operations ≤ k → k < length u.operations → In c (successors_of u k) → ⊥
  target_new k le lt i = src.may.no_ring (o.operation k) (in_header k le lt) (subst (In x.header) (sym (h.copies k le lt).same.successors) (subst (λ z. In z (map o.block (successors_of u k))) of_copy (in_map o.block (successors_of u k) c i)))

  no_target : (k : ℕ) → In c (successors_of u k) → ⊥
  no_target k i = ⊎_elim (λ lt. target_old k lt i) (λ new. target_new k new.0 new.1 i) (old_or_new k (leader_live u w' k c i))

  -- ---- what enters stands as it stood

  enters_less : (k : ℕ) → In k x.entering → k < length x.tree.operations
  enters_less k i = let d = src.may.enter k i in live-within x.tree k (w.joined.all_in_place k d.block d.in_block).0

  enters_old : (k : ℕ) → In k x.entering → IsLive x.tree k
  enters_old k i = let d = src.may.enter k i in (w.joined.all_in_place k d.block d.in_block).0

  waits : (k : ℕ) → In k x.entering → StandsAsBefore x.tree u k
  waits k i =
      let lt = enters_less k i in
      record { row = h.rows k lt; operands = h.operands k lt; successors = h.successors k lt; parent = h.parents k lt; body = λ b e. h.bodies b (block_less b (w.joined.all_in_place k b e).1) }

  alone : (k j : ℕ) → In j x.entering → IsLive u k → o.operation k ≡ j → k ≡ j
  alone k j i l q = ⊎_elim
      (λ lt. sym (op_own k lt) ∙ q)
      (λ new.
      let d = src.may.enter j i in
      absurd (d.apart (some_is (sym d.in_block ∙ w.bodies.owned j x.header (subst (λ z. In z (body_of x.tree x.header)) q (in_header k new.0 new.1))))))
      (old_or_new k l)

  -- ---- what holds the header

  slot_now : (r : ℕ) → slot_of u r ≡ slot_of x.tree r
  slot_now r = ap (λ z. slice_get z r) h.slots

  block_holder : (b : ℕ) → b < c → block_parent_operation_of u b ≡ block_parent_operation_of x.tree b
  block_holder b lt = ap (λ z. up_from z (λ r. region_parent_of u r)) (h.block_parents b lt) ∙ go (block_parent_of x.tree b)
    where
      go : (z : Option ℕ) → up_from z (λ r. region_parent_of u r) ≡ up_from z (λ r. region_parent_of x.tree r)
      go None = refl
      go (Some r) = ap op_of_slot (slot_now r)

  holders_more : (k p : ℕ) → parent_operation_of x.tree k ≡ Some p → parent_operation_of u k ≡ Some p
  holders_more k p e =
      let y = holder_is x.tree k p e in
      let is = w.joined.all_in_place k y.0 y.1 in
      holder_by u k y.0 p (h.parents k (live-within x.tree k is.0) ∙ y.1) (block_holder y.0 (block_less y.0 is.1) ∙ y.2)

  copy_holder : (p : ℕ) → block_parent_operation_of x.tree x.header ≡ Some p → block_parent_operation_of u c ≡ Some p
  copy_holder p e = ap (λ z. up_from z (λ r. region_parent_of u r)) copy_home ∙ ap op_of_slot (slot_now x.region) ∙ sym (ap (λ z. up_from z (λ r. region_parent_of x.tree r)) src.in_region) ∙ e

  module _ (root : ℕ) (held : HoldsBlock x.tree root x.header) where
    copy_held : HoldsBlock u root c
    copy_held = (held.0, copy_holder held.0 held.1, within_more x.tree u holders_more held.2)

    new_inside : (k : ℕ) → length x.tree.operations ≤ k → k < length u.operations → IsInside u root k
    new_inside k le lt = inside_block c (new_in_copy k le lt) copy_held

    old_outside : (k : ℕ) → IsOutside u root k → IsOutside x.tree root k
    old_outside k out = ⊎_elim
        (λ lt. (old_live k lt out.0, λ i. out.1 (inside_more x.tree u holders_more i)))
        (λ new. absurd (out.1 (new_inside k new.0 new.1)))
        (old_or_new k out.0)

    held_more : (b : ℕ) → b < c → HoldsBlock x.tree root b → HoldsBlock u root b
    held_more b lt y = (y.0, block_holder b lt ∙ y.1, within_more x.tree u holders_more y.2)

    block_outside : (b : ℕ) → IsBlockOutside u root b → IsBlockOutside x.tree root b
    block_outside b out = ⊎_elim
        (λ lt. (subst IsSome (h.block_parents b lt) out.0, λ y. out.1 (held_more b lt y)))
        (λ le. absurd (out.1 (subst (HoldsBlock u root) (sym (new_is_copy b out.0 le)) copy_held)))
        (cases_lt b c)

    region_apart : (r : ℕ) → ((k : ℕ) × (region_parent_of x.tree r ≡ Some k) × IsWithin x.tree root k → ⊥) → r ≢ x.region
    region_apart r out s = out (held.0, ap (region_parent_of x.tree) s ∙ sym (ap (λ z. up_from z (λ q. region_parent_of x.tree q)) src.in_region) ∙ held.1, held.2)

    kept : AreKeptOutside x.tree u root
    kept = record {
      operations = λ k out.
          let lt = live-within x.tree k out.0 in
          record { row = h.rows k lt; successors = h.successors k lt; parent = h.parents k lt; count = ap length (h.operands k lt); operands = λ i v e free. ap (λ z. slice_get z i) (h.operands k lt) ∙ e };
      blocks = λ b out. let lt = block_less b out.0 in record { arguments = h.arguments b lt; body = h.bodies b lt; parent = h.block_parents b lt };
      regions = λ r out. record { layout = h.layouts r (region_apart r out.1); slot = slot_now r };
      values = λ v out. old_definition v out.0;
    }

    inside_change : IsInsideChange x.tree u root
    inside_change = change_of_kept x.tree u root w.joined kept old_outside block_outside

  pub leading_none : IsLeadingIn x u
  leading_none = record {
    originals = o;
    copied = block_copied;
    old = λ k lt l. (old_live k lt l, op_own k lt);
    longer = (let n = h.operation_count in omega (arith, n));
    waiting = λ k i l. waits k i;
    alone = λ k j i lj lk q. alone k j i lk q;
    to_copy = λ k i. absurd (no_target k i);
    to_header = λ k i j. entering_live (o.operation k) j;
    home = λ b lt. h.block_parents b lt;
    copy_home = copy_home;
    last = h.last;
    inside = inside_change;
    held = λ root k i l q. inside_more x.tree u holders_more (entering_held root k i q);
  }
    where
      entering_live : (k : ℕ) → In k x.entering → IsLive u k
      entering_live k i = subst (λ z. IsSome z.head) (sym (h.rows k (enters_less k i))) (enters_old k i)

      entering_held : (root k : ℕ) → In k x.entering → HoldsBlock x.tree root x.header → IsInside x.tree root k
      entering_held root k i q =
          let d = src.may.enter k i in
          inside_block d.block d.in_block (q.0, ap (λ z. up_from z (λ r. region_parent_of x.tree r)) d.beside ∙ q.1, q.2)

  -- as many operations were made as the header has
  pub made_so_many : length u.operations ≡ length x.tree.operations + length (body_of x.tree x.header)
  made_so_many = h.operation_count ∙ ap (λ z. length x.tree.operations + length z) parts_body

  pub is_copy : (b : ℕ) → IsBlock u b → c ≤ b → b ≡ c
  is_copy = new_is_copy
