-- The stages by which blocks are copied.
use Rattle.std.proofs.Common.{◌≡◌, ◌≢◌, ◌⊎◌, inl, inr, ⊎_elim, ℕ, zero, suc, ◌+◌, ◌<◌, ◌≤◌, true, false, true≢false, cond, List, [], ◌∷◌, ◌++◌, length, get_or, map, take, drop, filter, Option, Some, None, IsSome, is_some, slice_get, refl, sym, ap, ◌∙◌, subst, append_assoc, append-nil, arith}
use Rattle.std.specs.List.{flat_map, range_with_len}
use Rattle.std.proofs.lemmas.Bool.{cases_eq, cases_lt, cases_Bool}
use Rattle.std.proofs.lemmas.List.{length-set, get_or-set_other, get_or-set_same, length-append, get_or_past, map-append, length-take-le}
use Rattle.std.proofs.lemmas.List.FromFn.{length-map-range_with_len}
use Rattle.std.proofs.lemmas.List.Elements.{filter-append}
use Rattle.std.proofs.lemmas.Option.{slice_get_within}
use Rattle.pliron_core.specs.declared.attrs.Head.{Head}
use Rattle.pliron_core.specs.declared.context.Def.TheVariants.{Result, Argument}
use Rattle.pliron_core.specs.Invariant.{IsTree}
use Rattle.pliron_core.specs.Erased.{is_the}
use Rattle.pliron_core.specs.Tree.{Tree, In, IsLive, IsBlock, IsDefined, IsMadeBy, row_of, head_of, operands_of, successors_of, results_of, parent_of, body_of, arguments_of, block_parent_of, layout_of}
use Rattle.pliron_core.specs.Writes.{block_created, argument_definitions, result_definitions}
use Rattle.pliron_core.proofs.FlatLemmas.{flat_map-In, slice_get-In}
use Rattle.pliron_core.proofs.CreatedLemmas.{defined_kept}
use Rattle.pliron_core.proofs.GrownLemmas.{get_grown, get_last, get_last_same, range_at, range_more, slice_get_kept}
use Rattle.pliron_core.proofs.HoldingLemmas.{some_is, not_none, slice_in, maker_is}
use Rattle.pliron_core.proofs.ListLemmas.{In-cases, In-left, In-right}
use Rattle.pliron_core.proofs.TreeLemmas.{block-within, live-within}
use Rattle.pliron_core.proofs.UsedLemmas.{in_map}
use Rattle.pliron_laws.specs.Tree.{is_one_key}
use Rattle.pliron_rewrite_calls.specs.declared.copies.Copies.{Copies}
use Rattle.pliron_rewrite_calls.specs.CopyTables.{block_copy, value_copy, or_itself, block_or_copy_in, value_or_copy_in}
use Rattle.pliron_rewrite_calls.specs.Copying.{AreCopiedInto, KnowsCopies, operations_of}
use Rattle.pliron_rewrite_calls.specs.CopySteps.{CopySource, MayCopy, copy_originals, IsGrownIn, AreBare, IsOperationMade, IsBlockMade, AreCopiesMade, AreMapped, IsCopying, AreValuesAdded, HasNames, AreConnected, values_made}
use Rattle.pliron_rewrite_calls.proofs.CopyLists.{original_at, original_range, original_in, original_apart, old_itself, mapped_back, split_at, take_next, flat_split, flat_next, there, filter_in, filter_out, is_own, not_own, own_part}
use Rattle.pliron_rewrite_calls.proofs.Growing.{empty_slice, grown_none, block_grown, defined_grown, region_grown, region_in, grown_block, placed_tree, made_entry, row_at, row_new, row_old, layout_same, operand_same, successor_same, grown_placed}

-- ---- values

pub result_defined : (v : Tree) → IsTree v → (k i w : ℕ) → slice_get (results_of v k) i ≡ Some w → IsDefined v w
result_defined v wv k i w e = subst (IsMadeBy v w) (sym (wv.joined.results k i w e)) e

pub argument_defined : (v : Tree) → IsTree v → (b i w : ℕ) → slice_get (arguments_of v b) i ≡ Some w → IsDefined v w
argument_defined v wv b i w e = subst (IsMadeBy v w) (sym (wv.joined.arguments b i w e)) e

slice_get_item : {A : Type 0} (xs : List A) (i : ℕ) → i < length xs → (d : A) × (slice_get xs i ≡ Some d)
slice_get_item [] i lt = absurd (omega arith)
slice_get_item (y ∷ ys) zero lt = (y, refl)
slice_get_item (y ∷ ys) (suc i) lt = slice_get_item ys i (omega arith)

mapped_slice : (f : ℕ → ℕ) (ys : List ℕ) (i v w : ℕ) → slice_get (map f ys) i ≡ Some v → slice_get ys i ≡ Some w → f w ≡ v
mapped_slice f [] i v w e g = absurd (let l = slice_get_within {A = ℕ} [] i w g in omega (arith, l))
mapped_slice f (y ∷ ys) zero v w e g = ap f (sym (some_is g)) ∙ some_is e
mapped_slice f (y ∷ ys) (suc i) v w e g = mapped_slice f ys i v w e g

one_key : (x y : ℕ) → is_one_key x y ≡ true → x ≡ y
one_key x y e = grind arith

own_key : (x y : ℕ) → x ≡ y → is_one_key x y ≡ true
own_key x y e = grind arith

module _ (x : CopySource) (may : MayCopy x) where
  abbrev t : Tree
  t = x.tree

  abbrev ops : List ℕ
  ops = operations_of x.tree x.blocks

  abbrev args_of : List ℕ → List ℕ
  args_of bs = flat_map (λ b. arguments_of x.tree b) bs

  abbrev res_of : List ℕ → List ℕ
  res_of ks = flat_map (λ k. results_of x.tree k) ks

  pub block_stands : (b : ℕ) → In b x.blocks → b < length t.bodies
  block_stands b i = block-within t b may.tree.keys (may.live b i)

  pub op_stands : (k : ℕ) → In k ops → (b : ℕ) × In b x.blocks × (parent_of t k ≡ Some b) × IsLive t k × In k (body_of t b)
  op_stands k i =
      let s = flat_map-In (λ b. body_of t b) x.blocks k i in
      let p = may.tree.bodies.owned k s.0 s.2 in
      (s.0, s.1, p, (may.tree.joined.all_in_place k s.0 p).0, s.2)

  pub value_old : (v : ℕ) → In v (args_of x.blocks ++ res_of ops) → v < length t.definitions
  value_old v i = ⊎_elim
      (λ j.
      let s = flat_map-In (λ b. arguments_of t b) x.blocks v j in
      let p = slice_in (arguments_of t s.0) v s.2 in
      slice_get_within t.definitions v (Argument s.0 p.0) (may.tree.joined.arguments s.0 p.0 v p.1))
      (λ j.
      let s = flat_map-In (λ k. results_of t k) ops v j in
      let p = slice_in (results_of t s.0) v s.2 in
      slice_get_within t.definitions v (Result s.0 p.0) (may.tree.joined.results s.0 p.0 v p.1))
      (In-cases v (args_of x.blocks) (res_of ops) i)

  -- ---- nothing was copied yet

  pub copying_none : (copies : Copies) → ((b : ℕ) → block_copy copies b ≡ None) → ((v : ℕ) → value_copy copies v ≡ None) → IsCopying x t [] [] copies
  copying_none copies no_block no_value = record {
    made = record {
      grown = grown_none t x.region;
      operation_count = omega arith;
      block_count = omega arith;
      value_count = omega arith;
      operations = λ k le lt. absurd (omega (arith, le, lt));
      blocks = λ b le lt. absurd (omega (arith, le, lt));
      last = sym (append-nil (layout_of t x.region));
    };
    mapped = record {
      block = λ b c e. absurd (not_none (sym (no_block b) ∙ e));
      value = λ v w e. absurd (not_none (sym (no_value v) ∙ e));
      blocks = λ b i. absurd i;
      values = λ v i. absurd i;
    };
  }

  -- without new operations nothing new names anything
  pub bare_still : (u : Tree) → IsTree u → (bs : List ℕ) → AreCopiesMade x u bs [] → AreBare t u
  bare_still u wu bs m k le =
      let n = m.operation_count in
      (get_or_past u.operands k [] (let e = wu.keys.operands in omega (arith, e, n, le)), get_or_past u.successors k [] (let e = wu.keys.successors in omega (arith, e, n, le)))

  -- ---- the values that are known grow

  module _ (u v : Tree) (defined : (w : ℕ) → IsDefined u w → IsDefined v w) (xs ys bs vs : List ℕ) (copies now next : Copies) (m : AreMapped x u bs vs copies) (same : (z : ℕ) → value_copy now z ≡ value_copy copies z) (a : AreValuesAdded xs ys (length xs) now next) (new : (j w : ℕ) → slice_get ys j ≡ Some w → (length t.definitions ≤ w) × IsDefined v w) (back : xs ≡ map (copy_originals x).value ys) where
    value_after : (z w : ℕ) → value_copy next z ≡ Some w → (length t.definitions ≤ w) × ((copy_originals x).value w ≡ z) × IsDefined v w
    value_after z w e = ⊎_elim
        (λ s. let q = m.value z w (sym (s ∙ same z) ∙ e) in (q.0, q.1, defined w q.2))
        (λ s.
        let is : s.1 ≡ w = some_is (sym s.4 ∙ e) in
        let at : slice_get ys s.0 ≡ Some w = s.3 ∙ ap Some is in
        let q = new s.0 w at in
        (q.0, mapped_slice (copy_originals x).value ys s.0 z w (ap (λ l. slice_get l s.0) (sym back) ∙ s.2) at, q.1))
        (a.values z)

    known_after : (z : ℕ) → In z vs ⊎ In z xs → IsSome (value_copy next z)
    known_after z i = ⊎_elim
        (λ j. a.more z (subst IsSome (sym (same z)) (m.values z j)))
        (λ j. let p = slice_get-In z xs j in a.known p.0 z (slice_get_within xs p.0 z p.1) p.1)
        i

  -- ---- one block more

  module _ (u : Tree) (wu : IsTree u) (i b : ℕ) (lt : i < length x.blocks) (at : b ≡ get_or x.blocks i b) (m : AreCopiesMade x u (take i x.blocks) []) where
    abbrev pub with_block : Tree
    with_block = block_created u x.region (length (arguments_of u b))

    abbrev c : ℕ
    c = length u.bodies

    b_in : In b x.blocks
    b_in = there x.blocks i b lt at

    args_same : arguments_of u b ≡ arguments_of t b
    args_same = m.grown.arguments b (block_stands b b_in)

    original_c : (copy_originals x).block c ≡ b
    original_c = original_at x.blocks (take i x.blocks) (drop (i + 1) x.blocks) b (length t.bodies) c (split_at x.blocks i b lt at) m.block_count

    first_is : length u.definitions ≡ length t.definitions + length (args_of (take i x.blocks))
    first_is = let e = m.value_count in omega (arith, e)

    parts_split : args_of x.blocks ++ res_of ops ≡ args_of (take i x.blocks) ++ (arguments_of t b ++ (args_of (drop (i + 1) x.blocks) ++ res_of ops))
    parts_split =
        ap (λ z. z ++ res_of ops) (flat_split (λ d. arguments_of t d) x.blocks i b lt at) ∙ append_assoc (args_of (take i x.blocks)) (arguments_of t b ++ args_of (drop (i + 1) x.blocks)) (res_of ops) ∙ ap (λ z. args_of (take i x.blocks) ++ z) (append_assoc (arguments_of t b) (args_of (drop (i + 1) x.blocks)) (res_of ops))

    pub args_new : arguments_of with_block c ≡ range_with_len (length u.definitions) (length (arguments_of u b))
    args_new = ap (λ k. get_or with_block.arguments k []) (sym wu.keys.arguments) ∙ get_last_same u.arguments (range_with_len (length u.definitions) (length (arguments_of u b))) []

    args_copied : arguments_of t b ≡ map (copy_originals x).value (arguments_of with_block c)
    args_copied =
        original_range (arguments_of t b) (args_of x.blocks ++ res_of ops) (args_of (take i x.blocks)) (args_of (drop (i + 1) x.blocks) ++ res_of ops) (length t.definitions) (length u.definitions) parts_split first_is ∙ ap (λ z. map (copy_originals x).value (range_with_len (length u.definitions) (length z))) (sym args_same) ∙ ap (map (copy_originals x).value) (sym args_new)

    pub args_old : (d : ℕ) → d < c → arguments_of with_block d ≡ arguments_of u d
    args_old d less = elim (get_last u.arguments (range_with_len (length u.definitions) (length (arguments_of u b))) [] d) [
      | inl e ↦ e
      | inr y ↦ absurd (let e = y.2 in let k = wu.keys.arguments in omega (arith, e, k, less))
    ]

    home_old : (d : ℕ) → d < c → block_parent_of with_block d ≡ block_parent_of u d
    home_old d less = elim (get_last u.block_parents (Some x.region) None d) [
      | inl e ↦ e
      | inr y ↦ absurd (let e = y.2 in let k = wu.keys.block_parents in omega (arith, e, k, less))
    ]

    pub home_new : block_parent_of with_block c ≡ Some x.region
    home_new = ap (λ k. get_or with_block.block_parents k None) (sym wu.keys.block_parents) ∙ get_last_same u.block_parents (Some x.region) None

    pub block_grows : IsGrownIn t with_block x.region
    block_grows = grown_block t u x.region (length (arguments_of u b)) wu (region_grown t u x.region may.tree m.grown x.region may.into) m.grown

    -- the tree before grew, too
    block_grows_on : IsGrownIn u with_block x.region
    block_grows_on = grown_block u u x.region (length (arguments_of u b)) wu (region_grown t u x.region may.tree m.grown x.region may.into) (grown_none u x.region)

    next_blocks : take (i + 1) x.blocks ≡ take i x.blocks ++ b ∷ []
    next_blocks = take_next x.blocks i b lt at

    next_args : args_of (take (i + 1) x.blocks) ≡ args_of (take i x.blocks) ++ arguments_of t b
    next_args = flat_next (λ d. arguments_of t d) x.blocks i b lt at

    next_count : length (take (i + 1) x.blocks) ≡ length (take i x.blocks) + 1
    next_count = ap length next_blocks ∙ length-append (take i x.blocks) (b ∷ [])

    pub block_made : AreCopiesMade x with_block (take (i + 1) x.blocks) []
    block_made = record {
      grown = block_grows;
      operation_count = m.operation_count;
      block_count = let e = length-append u.bodies ([] ∷ []) in let f = m.block_count in let n = next_count in omega (arith, e, f, n);
      value_count =
          let e = length-append u.definitions (argument_definitions (length u.bodies) (length (arguments_of u b))) in
          let f = length-map-range_with_len (λ j. Argument (length u.bodies) j) 0 (length (arguments_of u b)) in
          let g = first_is in
          let h = ap length next_args ∙ length-append (args_of (take i x.blocks)) (arguments_of t b) in
          let s = ap length args_same in
          omega (arith, e, f, g, h, s);
      operations = λ k le less. let q = m.operations k le less in record { live = q.live; head = q.head; results = q.results };
      blocks = λ d le less. elim (cases_eq d c) [
        | inl e ↦ subst (IsBlockMade t with_block (copy_originals x) x.region []) (sym e) (record {
          arguments = ap (arguments_of t) original_c ∙ args_copied;
          body = ap (map (copy_originals x).operation) (get_grown u.bodies [] c ∙ get_or_past u.bodies c [] (omega arith));
          parent = home_new;
        })
        | inr ne ↦
            let below : d < c = (let e = length-append u.bodies ([] ∷ []) in omega (arith, e, less, ne)) in
            let q = m.blocks d le below in
            record {
              arguments = q.arguments ∙ ap (map (copy_originals x).value) (sym (args_old d below));
              body = ap (map (copy_originals x).operation) (get_grown u.bodies [] d) ∙ q.body;
              parent = home_old d below ∙ q.parent;
            }
      ];
      last = get_or-set_same u.layouts x.region (layout_of u x.region ++ c ∷ []) [] (region_in t u x.region (length (arguments_of u b)) wu (region_grown t u x.region may.tree m.grown x.region may.into) m.grown) ∙ ap (λ z. z ++ c ∷ []) m.last ∙ append_assoc (layout_of t x.region) (range_with_len (length t.bodies) (length (take i x.blocks))) (c ∷ []) ∙ ap (λ z. layout_of t x.region ++ z) (ap (λ z. range_with_len (length t.bodies) (length (take i x.blocks)) ++ z ∷ []) m.block_count ∙ sym (range_more (length t.bodies) (length (take i x.blocks))) ∙ ap (range_with_len (length t.bodies)) (sym next_count));
    }

    module _ (wv : IsTree with_block) (copies now next : Copies) (k : AreMapped x u (take i x.blocks) (values_made x (take i x.blocks) []) copies) (put : (d : ℕ) → block_copy now d ≡ cond (is_one_key b d) (Some c) (block_copy copies d)) (same : (z : ℕ) → value_copy now z ≡ value_copy copies z) (a : AreValuesAdded (arguments_of with_block b) (arguments_of with_block c) (length (arguments_of with_block b)) now next) where
      args_there : arguments_of with_block b ≡ arguments_of t b
      args_there = block_grows.arguments b (block_stands b b_in)

      new_values : (j w : ℕ) → slice_get (arguments_of with_block c) j ≡ Some w → (length t.definitions ≤ w) × IsDefined with_block w
      new_values j w e =
          let p = range_at (length u.definitions) (length (arguments_of u b)) j w (ap (λ z. slice_get z j) (sym args_new) ∙ e) in
          let q = p.0 in
          let f = first_is in
          (omega (arith, q, f), argument_defined with_block wv c j w e)

      block_after : (d e : ℕ) → block_copy next d ≡ Some e → (length t.bodies ≤ e) × ((copy_originals x).block e ≡ d) × IsBlock with_block e
      block_after d e is = ⊎_elim
          (λ f.
          let s : c ≡ e = some_is (sym (put d ∙ ap (λ q. cond q (Some c) (block_copy copies d)) f) ∙ sym (a.blocks d) ∙ is) in
          (subst (λ z. length t.bodies ≤ z) s m.grown.block_count, ap (copy_originals x).block (sym s) ∙ original_c ∙ one_key b d f, subst (IsBlock with_block) s (ap is_some home_new)))
          (λ f.
          let q = k.block d e (sym (put d ∙ ap (λ q. cond q (Some c) (block_copy copies d)) f) ∙ sym (a.blocks d) ∙ is) in
          (q.0, q.1, block_grown u with_block x.region wu block_grows_on e q.2))
          (cases_Bool (is_one_key b d))

      known_block : (d : ℕ) → In d (take (i + 1) x.blocks) → IsSome (block_copy next d)
      known_block d j = ⊎_elim
          (λ f. ap is_some (a.blocks d ∙ put d ∙ ap (λ q. cond q (Some c) (block_copy copies d)) f))
          (λ f.
          let old : In d (take i x.blocks) = ⊎_elim (λ l. l) (λ l. ⊎_elim (λ e. absurd (true≢false (sym (own_key b d (sym e)) ∙ f))) (λ z. absurd z) l) (In-cases d (take i x.blocks) (b ∷ []) (subst (In d) next_blocks j)) in
          subst IsSome (sym (a.blocks d ∙ put d ∙ ap (λ q. cond q (Some c) (block_copy copies d)) f)) (k.blocks d old))
          (cases_Bool (is_one_key b d))

      split_values : (z : ℕ) → In z (values_made x (take (i + 1) x.blocks) []) → In z (values_made x (take i x.blocks) []) ⊎ In z (arguments_of with_block b)
      split_values z j = ⊎_elim
          (λ l. ⊎_elim (λ q. inl (In-left z (args_of (take i x.blocks)) [] q)) (λ q. inr (subst (In z) (sym args_there) q)) (In-cases z (args_of (take i x.blocks)) (arguments_of t b) (subst (In z) next_args l)))
          (λ l. absurd l)
          (In-cases z (args_of (take (i + 1) x.blocks)) [] j)

      pub block_copied : IsCopying x with_block (take (i + 1) x.blocks) [] next
      block_copied = record {
        made = block_made;
        mapped = record {
          block = block_after;
          value = value_after u with_block (defined_grown u with_block x.region wu block_grows_on) (arguments_of with_block b) (arguments_of with_block c) (take i x.blocks) (values_made x (take i x.blocks) []) copies now next k same a new_values (args_there ∙ args_copied);
          blocks = known_block;
          values = λ z j. known_after u with_block (defined_grown u with_block x.region wu block_grows_on) (arguments_of with_block b) (arguments_of with_block c) (take i x.blocks) (values_made x (take i x.blocks) []) copies now next k same a new_values (args_there ∙ args_copied) z (split_values z j);
        };
      }

  -- ---- one operation more

  module _ (u : Tree) (wu : IsTree u) (i op b c : ℕ) (lt : i < length ops) (at : op ≡ get_or ops i op) (m : AreCopiesMade x u x.blocks (take i ops)) (holds : parent_of u op ≡ Some b) (head : Head) (has : head_of u op ≡ Some head) (to : IsBlock u c) (new : length t.bodies ≤ c) (of : (copy_originals x).block c ≡ b) where
    abbrev pub with_op : Tree
    with_op = placed_tree u head (length (results_of u op)) c wu

    abbrev k : ℕ
    k = length u.operations

    op_in : In op ops
    op_in = there ops i op lt at

    op_old : op < length t.operations
    op_old = live-within t op (op_stands op op_in).3

    row_same : row_of u op ≡ row_of t op
    row_same = m.grown.rows op op_old

    stood : parent_of t op ≡ Some b
    stood = sym (m.grown.parents op op_old) ∙ holds

    original_k : (copy_originals x).operation k ≡ op
    original_k = original_at ops (take i ops) (drop (i + 1) ops) op (length t.operations) k (split_at ops i op lt at) m.operation_count

    first_at : length u.definitions ≡ length t.definitions + length (args_of x.blocks ++ res_of (take i ops))
    first_at = let e = m.value_count in let l = length-append (args_of x.blocks) (res_of (take i ops)) in omega (arith, e, l)

    results_split : args_of x.blocks ++ res_of ops ≡ (args_of x.blocks ++ res_of (take i ops)) ++ (results_of t op ++ res_of (drop (i + 1) ops))
    results_split =
        ap (λ z. args_of x.blocks ++ z) (flat_split (λ j. results_of t j) ops i op lt at) ∙ sym (append_assoc (args_of x.blocks) (res_of (take i ops)) (results_of t op ++ res_of (drop (i + 1) ops)))

    results_same : results_of u op ≡ results_of t op
    results_same = ap (λ z. z.results) row_same

    results_new : results_of with_op k ≡ range_with_len (length u.definitions) (length (results_of u op))
    results_new = ap (λ z. z.results) (row_new u head (length (results_of u op)) c wu)

    results_copied : results_of t op ≡ map (copy_originals x).value (results_of with_op k)
    results_copied =
        original_range (results_of t op) (args_of x.blocks ++ res_of ops) (args_of x.blocks ++ res_of (take i ops)) (res_of (drop (i + 1) ops)) (length t.definitions) (length u.definitions) results_split first_at ∙ ap (λ z. map (copy_originals x).value (range_with_len (length u.definitions) (length z))) (sym results_same) ∙ ap (map (copy_originals x).value) (sym results_new)

    next_ops : take (i + 1) ops ≡ take i ops ++ op ∷ []
    next_ops = take_next ops i op lt at

    next_results : res_of (take (i + 1) ops) ≡ res_of (take i ops) ++ results_of t op
    next_results = flat_next (λ j. results_of t j) ops i op lt at

    pub op_grows : IsGrownIn t with_op x.region
    op_grows = grown_placed u head (length (results_of u op)) c wu t x.region new m.grown

    pub own_row : row_of with_op op ≡ row_of u op
    own_row = row_old u head (length (results_of u op)) c wu op (let y = op_old in let z = m.grown.operation_count in omega (arith, y, z))

    below : c < length u.bodies
    below = block-within u c wu.keys to

    op_grows_on : (d : ℕ) → IsBlock u d → IsBlock with_op d
    op_grows_on d is = is

    body_new : body_of with_op c ≡ body_of u c ++ k ∷ []
    body_new = get_or-set_same u.bodies c (body_of u c ++ k ∷ []) [] below

    body_old : (d : ℕ) → d ≢ c → body_of with_op d ≡ body_of u d
    body_old d ne = get_or-set_other u.bodies c d (body_of u c ++ k ∷ []) [] ne

    bodies_long : length with_op.bodies ≡ length u.bodies
    bodies_long = length-set u.bodies c (body_of u c ++ k ∷ [])

    -- the operations of the block d, with one more
    filtered : (d : ℕ) → filter (λ j. is_the d (parent_of t j)) (take (i + 1) ops) ≡ filter (λ j. is_the d (parent_of t j)) (take i ops) ++ filter (λ j. is_the d (parent_of t j)) (op ∷ [])
    filtered d = ap (filter (λ j. is_the d (parent_of t j))) next_ops ∙ filter-append (λ j. is_the d (parent_of t j)) (take i ops) (op ∷ [])

    other_block : (d : ℕ) → length t.bodies ≤ d → d < length u.bodies → d ≢ c → (copy_originals x).block d ≢ b
    other_block d le less ne e =
        let n = m.block_count in
        let x1 = below in
        ne (original_apart x.blocks (length t.bodies) d c may.apart le (omega (arith, less, n)) new (omega (arith, x1, n)) (e ∙ sym of))

    pub op_made : AreCopiesMade x with_op x.blocks (take (i + 1) ops)
    op_made = record {
      grown = op_grows;
      operation_count = let e = length-append u.operations (made_entry u head (length (results_of u op)) c wu ∷ []) in let f = m.operation_count in let n = ap length next_ops ∙ length-append (take i ops) (op ∷ []) in omega (arith, e, f, n);
      block_count = bodies_long ∙ m.block_count;
      value_count =
          let e = length-append u.definitions (result_definitions (length u.operations) (length (results_of u op))) in
          let f = length-map-range_with_len (λ j. Result (length u.operations) j) 0 (length (results_of u op)) in
          let g = m.value_count in
          let h = ap length next_results ∙ length-append (res_of (take i ops)) (results_of t op) in
          let s = ap length results_same in
          omega (arith, e, f, g, h, s);
      operations = λ j le less. elim (cases_eq j k) [
        | inl e ↦ subst (IsOperationMade t with_op (copy_originals x)) (sym e) (record {
          live = ap (λ z. is_some z.head) (row_new u head (length (results_of u op)) c wu);
          head = ap (head_of t) original_k ∙ sym (ap (λ z. z.head) row_same) ∙ has ∙ sym (ap (λ z. z.head) (row_new u head (length (results_of u op)) c wu));
          results = ap (results_of t) original_k ∙ results_copied;
        })
        | inr ne ↦
            let l = length-append u.operations (made_entry u head (length (results_of u op)) c wu ∷ []) in
            let under : j < k = omega (arith, l, less, ne) in
            let row = row_old u head (length (results_of u op)) c wu j under in
            let q = m.operations j le under in
            record {
              live = subst (λ z. IsSome z.head) (sym row) q.live;
              head = q.head ∙ sym (ap (λ z. z.head) row);
              results = q.results ∙ ap (λ z. map (copy_originals x).value z.results) (sym row);
            }
      ];
      blocks = λ d le less.
          let under : d < length u.bodies = (let l = bodies_long in omega (arith, l, less)) in
          let q = m.blocks d le under in
          record {
            arguments = q.arguments;
            body = elim (cases_eq d c) [
              | inl e ↦
                  let own_one : is_the ((copy_originals x).block d) (parent_of t op) ≡ true = is_own t may.tree ((copy_originals x).block d) op (stood ∙ ap Some (sym (ap (copy_originals x).block e ∙ of))) in
                  ap (λ z. map (copy_originals x).operation (body_of with_op z)) e ∙ ap (map (copy_originals x).operation) body_new ∙ map-append (copy_originals x).operation (body_of u c) (k ∷ []) ∙ ap (λ z. z ++ (copy_originals x).operation k ∷ []) (ap (λ z. map (copy_originals x).operation (body_of u z)) (sym e) ∙ q.body) ∙ ap (λ z. filter (λ j. is_the ((copy_originals x).block d) (parent_of t j)) (take i ops) ++ z ∷ []) original_k ∙ ap (λ z. filter (λ j. is_the ((copy_originals x).block d) (parent_of t j)) (take i ops) ++ z) (sym (filter_in (λ j. is_the ((copy_originals x).block d) (parent_of t j)) op [] own_one)) ∙ sym (filtered ((copy_originals x).block d))
              | inr ne ↦
                  let other_one : is_the ((copy_originals x).block d) (parent_of t op) ≡ false = not_own t may.tree ((copy_originals x).block d) op b stood (λ e. other_block d le under ne (sym e)) in
                  ap (map (copy_originals x).operation) (body_old d ne) ∙ q.body ∙ sym (append-nil (filter (λ j. is_the ((copy_originals x).block d) (parent_of t j)) (take i ops))) ∙ ap (λ z. filter (λ j. is_the ((copy_originals x).block d) (parent_of t j)) (take i ops) ++ z) (sym (filter_out (λ j. is_the ((copy_originals x).block d) (parent_of t j)) op [] other_one)) ∙ sym (filtered ((copy_originals x).block d))
            ];
            parent = q.parent;
          };
      last = layout_same u head (length (results_of u op)) c wu x.region ∙ m.last;
    }

    module _ (wv : IsTree with_op) (copies next : Copies) (q : AreMapped x u x.blocks (values_made x x.blocks (take i ops)) copies) (a : AreValuesAdded (results_of with_op op) (results_of with_op k) (length (results_of with_op op)) copies next) where
      results_there : results_of with_op op ≡ results_of t op
      results_there = ap (λ z. z.results) own_row ∙ results_same

      defined_on : (w : ℕ) → IsDefined u w → IsDefined with_op w
      defined_on w is = defined_kept u with_op w (λ d e. slice_get_kept u.definitions (result_definitions (length u.operations) (length (results_of u op))) w d e) results (λ d j e. e) is
        where
          results : (j n : ℕ) → slice_get (results_of u j) n ≡ Some w → slice_get (results_of with_op j) n ≡ Some w
          results j n e = ⊎_elim
              (λ s. ap (λ z. slice_get z.results n) s ∙ e)
              (λ s. absurd (empty_slice (results_of u j) n w (ap (λ z. z.results) s.1) e))
              (row_at u head (length (results_of u op)) c wu j)

      new_results : (j w : ℕ) → slice_get (results_of with_op k) j ≡ Some w → (length t.definitions ≤ w) × IsDefined with_op w
      new_results j w e =
          let p = range_at (length u.definitions) (length (results_of u op)) j w (ap (λ z. slice_get z j) (sym results_new) ∙ e) in
          let y = p.0 in
          let f = m.value_count in
          (omega (arith, y, f), result_defined with_op wv k j w e)

      split_results : (z : ℕ) → In z (values_made x x.blocks (take (i + 1) ops)) → In z (values_made x x.blocks (take i ops)) ⊎ In z (results_of with_op op)
      split_results z j = ⊎_elim
          (λ l. inl (In-left z (args_of x.blocks) (res_of (take i ops)) l))
          (λ l. ⊎_elim
          (λ y. inl (In-right z (args_of x.blocks) (res_of (take i ops)) y))
          (λ y. inr (subst (In z) (sym results_there) y))
          (In-cases z (res_of (take i ops)) (results_of t op) (subst (In z) next_results l)))
          (In-cases z (args_of x.blocks) (res_of (take (i + 1) ops)) j)

      pub op_copied_here : IsCopying x with_op x.blocks (take (i + 1) ops) next
      op_copied_here = record {
        made = op_made;
        mapped = record {
          block = λ d e is. let y = q.block d e (sym (a.blocks d) ∙ is) in (y.0, y.1, op_grows_on e y.2);
          value = value_after u with_op defined_on (results_of with_op op) (results_of with_op k) x.blocks (values_made x x.blocks (take i ops)) copies copies next q (λ z. refl) a new_results (results_there ∙ results_copied);
          blocks = λ d j. subst IsSome (sym (a.blocks d)) (q.blocks d j);
          values = λ z j. known_after u with_op defined_on (results_of with_op op) (results_of with_op k) x.blocks (values_made x x.blocks (take i ops)) copies copies next q (λ z. refl) a new_results (results_there ∙ results_copied) z (split_results z j);
        };
      }

    pub op_bare : AreBare t u → AreBare t with_op
    op_bare bare j le = (operand_same u head (length (results_of u op)) c wu j ∙ (bare j le).0, successor_same u head (length (results_of u op)) c wu j ∙ (bare j le).1)

  -- ---- what a copy names

  module _ (u v : Tree) (k : ℕ) (le : length t.operations ≤ k) (bs ks : List ℕ) (copies : Copies) (q : IsCopying x u bs ks copies) (xs ys : List ℕ) (n : HasNames u v k xs ys) where
    abbrev named_tree : Tree
    named_tree = record u { operands = v.operands; successors = v.successors }

    not_k : (j : ℕ) → j < length t.operations → j ≢ k
    not_k j lt e = absurd (omega (arith, e, le, lt))

    named_here : IsCopying x named_tree bs ks copies
    named_here =
        let g = q.made.grown in
        record {
          made = record {
            grown = record {
              added = g.added;
              last = g.last;
              fresh = g.fresh;
              operation_count = g.operation_count;
              block_count = g.block_count;
              value_count = g.value_count;
              slots = g.slots;
              rows = g.rows;
              operands = λ j lt. n.other_operands j (not_k j lt) ∙ g.operands j lt;
              successors = λ j lt. n.other_successors j (not_k j lt) ∙ g.successors j lt;
              parents = g.parents;
              bodies = g.bodies;
              arguments = g.arguments;
              block_parents = g.block_parents;
              layouts = g.layouts;
              definitions = g.definitions;
              childless = g.childless;
              placed = g.placed;
            };
            operation_count = q.made.operation_count;
            block_count = q.made.block_count;
            value_count = q.made.value_count;
            operations = λ j ge lt. let y = q.made.operations j ge lt in record { live = y.live; head = y.head; results = y.results };
            blocks = λ b ge lt. let y = q.made.blocks b ge lt in record { arguments = y.arguments; body = y.body; parent = y.parent };
            last = q.made.last;
          };
          mapped = record {
            block = q.mapped.block;
            value = q.mapped.value;
            blocks = q.mapped.blocks;
            values = q.mapped.values;
          };
        }

    pub named_copying : IsCopying x v bs ks copies
    named_copying = subst (λ (z : Tree). IsCopying x z bs ks copies) (sym n.same) named_here

  module _ (u : Tree) (copies : Copies) (q : IsCopying x u x.blocks ops copies) where
    -- what a copy names in the place of a value, of a block
    pub value_stands : (v : ℕ) → IsDefined t v → IsDefined u (value_or_copy_in copies v)
    value_stands v is = go (value_copy copies v) refl
      where
        go : (o : Option ℕ) → value_copy copies v ≡ o → IsDefined u (or_itself v o)
        go None e = defined_grown t u x.region may.tree q.made.grown v is
        go (Some w) e = (q.mapped.value v w e).2

    pub target_stands : (b : ℕ) → IsBlock t b → IsBlock u (block_or_copy_in copies b)
    target_stands b is = go (block_copy copies b) refl
      where
        go : (o : Option ℕ) → block_copy copies b ≡ o → IsBlock u (or_itself b o)
        go None e = block_grown t u x.region may.tree q.made.grown b is
        go (Some c) e = (q.mapped.block b c e).2

    value_back : (v : ℕ) → v < length t.definitions → (copy_originals x).value (value_or_copy_in copies v) ≡ v
    value_back v lt = go (value_copy copies v) refl
      where
        go : (o : Option ℕ) → value_copy copies v ≡ o → (copy_originals x).value (or_itself v o) ≡ v
        go None e = old_itself (args_of x.blocks ++ res_of ops) (length t.definitions) v lt
        go (Some w) e = (q.mapped.value v w e).1

    target_back : (b : ℕ) → b < length t.bodies → (copy_originals x).block (block_or_copy_in copies b) ≡ b
    target_back b lt = go (block_copy copies b) refl
      where
        go : (o : Option ℕ) → block_copy copies b ≡ o → (copy_originals x).block (or_itself b o) ≡ b
        go None e = old_itself x.blocks (length t.bodies) b lt
        go (Some c) e = (q.mapped.block b c e).1

    not_original : (v : ℕ) → In (value_or_copy_in copies v) (args_of x.blocks ++ res_of ops) → ⊥
    not_original v i = go (value_copy copies v) refl i
      where
        go : (o : Option ℕ) → value_copy copies v ≡ o → In (or_itself v o) (args_of x.blocks ++ res_of ops) → ⊥
        go None e j = true≢false (sym (q.mapped.values v j) ∙ ap is_some e)
        go (Some w) e j = let lt = value_old w j in let ge = (q.mapped.value v w e).0 in omega (arith, lt, ge)

    not_copied : (b : ℕ) → In (block_or_copy_in copies b) x.blocks → ⊥
    not_copied b i = go (block_copy copies b) refl i
      where
        go : (o : Option ℕ) → block_copy copies b ≡ o → In (or_itself b o) x.blocks → ⊥
        go None e j = true≢false (sym (q.mapped.blocks b j) ∙ ap is_some e)
        go (Some c) e j = let lt = block_stands c j in let ge = (q.mapped.block b c e).0 in omega (arith, lt, ge)

    pub connected_none : AreBare t u → AreConnected x u copies 0
    connected_none bare = record {
      operands = λ k le lt. absurd (omega (arith, le, lt));
      successors = λ k le lt. absurd (omega (arith, le, lt));
      bare = λ k le. bare k (omega (arith, le));
    }

    -- one copy more names what it should
    module _ (v : Tree) (i op k : ℕ) (lt : i < length ops) (at : op ≡ get_or ops i op) (is_k : k ≡ length t.operations + i) (a : AreConnected x u copies i) (n : HasNames u v k (map (value_or_copy_in copies) (operands_of t op)) (map (block_or_copy_in copies) (successors_of t op))) where
      original_op : (copy_originals x).operation k ≡ op
      original_op = original_at ops (take i ops) (drop (i + 1) ops) op (length t.operations) k (split_at ops i op lt at) (is_k ∙ ap (λ z. length t.operations + z) (sym (length-take-le i ops (omega (arith, lt)))))

      pub connected_next : AreConnected x v copies (i + 1)
      connected_next = record {
        operands = λ j le less. elim (cases_eq j k) [
          | inl e ↦ ap (operands_of v) e ∙ n.operands ∙ ap (λ z. map (value_or_copy_in copies) (operands_of t z)) (sym (ap (copy_originals x).operation e ∙ original_op))
          | inr ne ↦ n.other_operands j ne ∙ a.operands j le (omega (arith, le, less, ne, is_k))
        ];
        successors = λ j le less. elim (cases_eq j k) [
          | inl e ↦ ap (successors_of v) e ∙ n.successors ∙ ap (λ z. map (block_or_copy_in copies) (successors_of t z)) (sym (ap (copy_originals x).operation e ∙ original_op))
          | inr ne ↦ n.other_successors j ne ∙ a.successors j le (omega (arith, le, less, ne, is_k))
        ];
        bare = λ j le.
            let ne : j ≢ k = (λ e. absurd (omega (arith, e, le, is_k))) in
            let y = a.bare j (omega (arith, le)) in
            (n.other_operands j ne ∙ y.0, n.other_successors j ne ∙ y.1);
      }

    -- ---- the whole

    module _ (a : AreConnected x u copies (length ops)) where
      within : (k : ℕ) → k < length u.operations → k < length t.operations + length ops
      within k less = let e = q.made.operation_count in omega (arith, e, less)

      original_op_in : (k : ℕ) → length t.operations ≤ k → k < length u.operations → In ((copy_originals x).operation k) ops
      original_op_in k le less = original_in ops (length t.operations) k le (within k less)

      named_there : (k v : ℕ) → length t.operations ≤ k → In v (operands_of u k) → (w : ℕ) × (v ≡ value_or_copy_in copies w)
      named_there k v le i = elim (cases_lt k (length u.operations)) [
        | inl less ↦ let s = in_map (value_or_copy_in copies) (operands_of t ((copy_originals x).operation k)) v (subst (In v) (a.operands k le (within k less)) i) in (s.0, s.2)
        | inr past ↦ absurd (subst (In v) (a.bare k (let e = q.made.operation_count in omega (arith, e, past))).0 i)
      ]

      led_there : (k b : ℕ) → length t.operations ≤ k → In b (successors_of u k) → (d : ℕ) × (b ≡ block_or_copy_in copies d)
      led_there k b le i = elim (cases_lt k (length u.operations)) [
        | inl less ↦ let s = in_map (block_or_copy_in copies) (successors_of t ((copy_originals x).operation k)) b (subst (In b) (a.successors k le (within k less)) i) in (s.0, s.2)
        | inr past ↦ absurd (subst (In b) (a.bare k (let e = q.made.operation_count in omega (arith, e, past))).1 i)
      ]

      defined_below : (v : ℕ) → IsDefined t v → v < length t.definitions
      defined_below v is = let d = maker_is t v is in slice_get_within t.definitions v d.0 d.1

      pub all_copied : AreCopiedInto t u x.region x.blocks
      all_copied = record {
        operation_count = q.made.operation_count;
        block_count = q.made.block_count;
        value_count = q.made.value_count ∙ ap (λ z. length t.definitions + z) (sym (length-append (args_of x.blocks) (res_of ops)));
        copies = λ k le less.
            let y = q.made.operations k le less in
            let o = (copy_originals x).operation k in
            let s = op_stands o (original_op_in k le less) in
            let none = q.made.grown.childless k le in
            record {
              live = y.live;
              same = record {
                head = y.head;
                operands = mapped_back (copy_originals x).value (value_or_copy_in copies) (operands_of t o) (λ v i. value_back v (defined_below v (may.tree.joined.operands o v i))) ∙ ap (map (copy_originals x).value) (sym (a.operands k le (within k less)));
                results = y.results;
                successors = mapped_back (copy_originals x).block (block_or_copy_in copies) (successors_of t o) (λ b i. target_back b (block-within t b may.tree.keys (may.tree.joined.successors o b i))) ∙ ap (map (copy_originals x).block) (sym (a.successors k le (within k less)));
                regions = may.childless s.0 o s.1 s.4 ∙ sym (ap (map (copy_originals x).region) none);
              };
              childless = none;
            };
        block_copies = λ b le less.
            let y = q.made.blocks b le less in
            let i = original_in x.blocks (length t.bodies) b le (let e = q.made.block_count in omega (arith, e, less)) in
            record {
              arguments = y.arguments;
              body = sym (y.body ∙ own_part t may.tree ((copy_originals x).block b) x.blocks may.apart i);
              parent = y.parent;
            };
        named = λ k v le i j. let s = named_there k v le i in not_original s.0 (subst (λ z. In z (args_of x.blocks ++ res_of ops)) s.1 j);
        led = λ k b le i j. let s = led_there k b le i in not_copied s.0 (subst (λ z. In z x.blocks) s.1 j);
        last = q.made.last;
        slots = q.made.grown.slots;
        rows = q.made.grown.rows;
        operands = q.made.grown.operands;
        successors = q.made.grown.successors;
        parents = q.made.grown.parents;
        bodies = q.made.grown.bodies;
        arguments = q.made.grown.arguments;
        block_parents = q.made.grown.block_parents;
        layouts = q.made.grown.layouts;
        definitions = λ v lt. let e = slice_get_item t.definitions v lt in q.made.grown.definitions v e.0 e.1 ∙ sym e.1;
      }

    pub all_known : KnowsCopies t u x.blocks copies
    all_known = record {
      block = q.mapped.block;
      value = λ v w e. let y = q.mapped.value v w e in (y.0, y.1);
      blocks_known = q.mapped.blocks;
      values_known = q.mapped.values;
    }
