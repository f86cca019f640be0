-- What each call that copies asks, and what it leaves.
use Rattle.std.proofs.Common.{◌≡◌, ℕ, ◌+◌, ◌<◌, ◌≤◌, cond, List, [], ◌∷◌, ◌++◌, length, get_or, map, take, Some, IsSome, is_some, slice_get, slice_set, refl, sym, ap, ◌∙◌, subst, arith}
use Rattle.std.specs.List.{range_with_len}
use Rattle.std.proofs.lemmas.List.{length-set, get_or-set_other, get_or-set_same, map-append}
use Rattle.std.proofs.lemmas.List.FromFn.{length-range_with_len, get_or-range_with_len}
use Rattle.std.proofs.lemmas.Option.{slice_get_within, get_or_from_slice_get}
use Rattle.pliron_core.specs.declared.attrs.Head.{Head}
use Rattle.pliron_core.specs.Invariant.{IsTree}
use Rattle.pliron_core.specs.Tree.{Tree, In, IsLive, IsBlock, IsRegion, IsDefined, head_of, operands_of, successors_of, results_of, parent_of, body_of, arguments_of}
use Rattle.pliron_core.specs.Writes.{after_creating, block_created, moved_last, operand_pushed, successor_pushed}
use Rattle.pliron_core.proofs.HoldingLemmas.{some_is, some_of}
use Rattle.pliron_core.proofs.TreeLemmas.{live-within}
use Rattle.pliron_laws.specs.Tree.{is_one_key}
use Rattle.pliron_rewrite_calls.specs.declared.copies.Copies.{Copies}
use Rattle.pliron_rewrite_calls.specs.CopyTables.{block_copy, value_copy, or_itself, block_or_copy_in, value_or_copy_in}
use Rattle.pliron_rewrite_calls.specs.Copying.{operations_of}
use Rattle.pliron_rewrite_calls.specs.CopySteps.{CopySource, MayCopy, copy_originals, IsGrownIn, AreBare, IsCopying, AreValuesAdded, HasNames, AreConnected}
use Rattle.pliron_rewrite_calls.proofs.CopyLists.{take_next, there}
use Rattle.pliron_rewrite_calls.proofs.Growing.{live_grown, block_grown, region_grown, placed_tree, placed_is, row_new}
use Rattle.pliron_rewrite_calls.proofs.CopyStages.{block_stands, op_stands, args_new, args_old, home_new, block_grows, block_copied, op_grows, own_row, op_copied_here, op_bare, named_copying, value_stands, target_stands, connected_next}

-- what the call that copies a block asks
pub record IsBlockStep (x : CopySource) (u : Tree) (b : ℕ) : Type 0 where
  pub stands : IsBlock u b
  pub into : IsRegion u x.region
  pub grown : IsGrownIn x.tree (block_created u x.region (length (arguments_of u b))) x.region
  pub still : IsBlock (block_created u x.region (length (arguments_of u b))) b
  pub copy : IsBlock (block_created u x.region (length (arguments_of u b))) (length u.bodies)
  pub long : length (arguments_of (block_created u x.region (length (arguments_of u b))) b) ≡ length (arguments_of (block_created u x.region (length (arguments_of u b))) (length u.bodies))

module _ (x : CopySource) (may : MayCopy x) (bs : List ℕ) (same : x.blocks ≡ bs) (u : Tree) (wu : IsTree u) (i b : ℕ) (lt : i < length bs) (at : b ≡ get_or bs i b) (copies : Copies) (q : IsCopying x u (take i bs) [] copies) where
  lt_x : i < length x.blocks
  lt_x = subst (λ z. i < length z) (sym same) lt

  at_x : b ≡ get_or x.blocks i b
  at_x = at ∙ ap (λ z. get_or z i b) (sym same)

  q_x : IsCopying x u (take i x.blocks) [] copies
  q_x = subst (λ z. IsCopying x u (take i z) [] copies) (sym same) q

  pub block_step : IsBlockStep x u b
  block_step = record {
    stands = block_grown x.tree u x.region may.tree q.made.grown b (may.live b (there x.blocks i b lt_x at_x));
    into = region_grown x.tree u x.region may.tree q.made.grown x.region may.into;
    grown = block_grows x may u wu i b lt_x at_x q_x.made;
    still = block_grown x.tree (block_created u x.region (length (arguments_of u b))) x.region may.tree (block_grows x may u wu i b lt_x at_x q_x.made) b (may.live b (there x.blocks i b lt_x at_x));
    copy = ap is_some (home_new x may u wu i b lt_x at_x q_x.made);
    long = ap length (args_old x may u wu i b lt_x at_x q_x.made b (let l = block_stands x may b (there x.blocks i b lt_x at_x) in let g = q.made.grown.block_count in omega (arith, l, g))) ∙ sym (length-range_with_len (length u.definitions) (length (arguments_of u b))) ∙ sym (ap length (args_new x may u wu i b lt_x at_x q_x.made));
  }

  pub block_whole : (v : Tree) (c : ℕ) (now next : Copies) → IsTree v → v ≡ block_created u x.region (length (arguments_of u b)) → c ≡ length u.bodies → ((d : ℕ) → block_copy now d ≡ cond (is_one_key b d) (Some c) (block_copy copies d)) → ((z : ℕ) → value_copy now z ≡ value_copy copies z) → AreValuesAdded (arguments_of v b) (arguments_of v c) (length (arguments_of v b)) now next → IsCopying x v (take (i + 1) bs) [] next
  block_whole v c now next wv is key put kept a =
      let w = block_created u x.region (length (arguments_of u b)) in
      let a_w : AreValuesAdded (arguments_of w b) (arguments_of w (length u.bodies)) (length (arguments_of w b)) now next = subst (λ (z : Tree). AreValuesAdded (arguments_of z b) (arguments_of z (length u.bodies)) (length (arguments_of z b)) now next) is (subst (λ d. AreValuesAdded (arguments_of v b) (arguments_of v d) (length (arguments_of v b)) now next) key a) in
      let put_w : (d : ℕ) → block_copy now d ≡ cond (is_one_key b d) (Some (length u.bodies)) (block_copy copies d) = λ d. put d ∙ ap (λ z. cond (is_one_key b d) (Some z) (block_copy copies d)) key in
      subst (λ (z : Tree). IsCopying x z (take (i + 1) bs) [] next) (sym is) (subst (λ z. IsCopying x w (take (i + 1) z) [] next) same (block_copied x may u wu i b lt_x at_x q_x.made (subst IsTree is wv) copies now next q_x.mapped put_w kept a_w))

-- what the call that copies an operation asks
pub record IsOpStep (x : CopySource) (u : Tree) (op : ℕ) (copies : Copies) : Type 0 where
  pub live : IsLive u op
  pub placed : (b : ℕ) × (parent_of u op ≡ Some b)
  pub target : (b : ℕ) → parent_of u op ≡ Some b → IsBlock u (block_or_copy_in copies b)

-- what it makes
pub record IsOpPlaced (x : CopySource) (u v : Tree) (op : ℕ) : Type 0 where
  pub grown : IsGrownIn x.tree v x.region
  pub live : IsLive v op
  pub copy : IsLive v (length u.operations)
  pub long : length (results_of v op) ≡ length (results_of v (length u.operations))
  pub bare : AreBare x.tree u → AreBare x.tree v

module _ (x : CopySource) (may : MayCopy x) (ks : List ℕ) (same : ks ≡ operations_of x.tree x.blocks) (u : Tree) (wu : IsTree u) (i op : ℕ) (lt : i < length ks) (at : op ≡ get_or ks i op) (copies : Copies) (q : IsCopying x u x.blocks (take i ks) copies) where
  lt_o : i < length (operations_of x.tree x.blocks)
  lt_o = subst (λ z. i < length z) same lt

  at_o : op ≡ get_or (operations_of x.tree x.blocks) i op
  at_o = at ∙ ap (λ z. get_or z i op) same

  q_o : IsCopying x u x.blocks (take i (operations_of x.tree x.blocks)) copies
  q_o = subst (λ z. IsCopying x u x.blocks (take i z) copies) same q

  stands : (b : ℕ) × In b x.blocks × (parent_of x.tree op ≡ Some b) × IsLive x.tree op × In op (body_of x.tree b)
  stands = op_stands x may op (there (operations_of x.tree x.blocks) i op lt_o at_o)

  parent_kept : parent_of u op ≡ parent_of x.tree op
  parent_kept = q.made.grown.parents op (live-within x.tree op stands.3)

  target_of : (b : ℕ) → parent_of u op ≡ Some b → (c : ℕ) × (block_or_copy_in copies b ≡ c) × (length x.tree.bodies ≤ c) × ((copy_originals x).block c ≡ b) × IsBlock u c
  target_of b e =
      let is : stands.0 ≡ b = some_is (sym stands.2 ∙ sym parent_kept ∙ e) in
      let c = some_of (block_copy copies b) (q.mapped.blocks b (subst (λ z. In z x.blocks) is stands.1)) in
      let y = q.mapped.block b c.0 c.1 in
      (c.0, ap (or_itself b) c.1, y.0, y.1, y.2)

  pub op_step : IsOpStep x u op copies
  op_step = record {
    live = live_grown x.tree u x.region may.tree q.made.grown op stands.3;
    placed = (stands.0, parent_kept ∙ stands.2);
    target = λ b e. let c = target_of b e in subst (IsBlock u) (sym c.1) c.4;
  }

  module _ (b : ℕ) (holds : parent_of u op ≡ Some b) (head : Head) (has : head_of u op ≡ Some head) (c : ℕ) (to : c ≡ block_or_copy_in copies b) (v : Tree) (wv : IsTree v) (is : v ≡ moved_last (after_creating u head (length (results_of u op)) 0) (length u.operations) c) where
    goal_at : (length x.tree.bodies ≤ c) × ((copy_originals x).block c ≡ b) × IsBlock u c
    goal_at = let y = target_of b holds in let e : y.0 ≡ c = sym y.1 ∙ sym to in (subst (λ z. length x.tree.bodies ≤ z) e y.2, ap (copy_originals x).block (sym e) ∙ y.3, subst (IsBlock u) e y.4)

    abbrev w : Tree
    w = placed_tree u head (length (results_of u op)) c wu

    w_is : w ≡ v
    w_is = placed_is u head (length (results_of u op)) c wu ∙ sym is

    pub op_placed : IsOpPlaced x u v op
    op_placed = subst (λ (z : Tree). IsOpPlaced x u z op) w_is (record {
      grown = op_grows x may u wu i op b c lt_o at_o q_o.made holds head has goal_at.2 goal_at.0 goal_at.1;
      live = subst (λ z. IsSome z.head) (sym (own_row x may u wu i op b c lt_o at_o q_o.made holds head has goal_at.2 goal_at.0 goal_at.1)) op_step.live;
      copy = ap (λ z. is_some z.head) (row_new u head (length (results_of u op)) c wu);
      long = ap (λ z. length z.results) (own_row x may u wu i op b c lt_o at_o q_o.made holds head has goal_at.2 goal_at.0 goal_at.1) ∙ sym (length-range_with_len (length u.definitions) (length (results_of u op))) ∙ sym (ap (λ z. length z.results) (row_new u head (length (results_of u op)) c wu));
      bare = op_bare x may u wu i op b c lt_o at_o q_o.made holds head has goal_at.2 goal_at.0 goal_at.1;
    })

    pub op_whole : (k : ℕ) (next : Copies) → k ≡ length u.operations → AreValuesAdded (results_of v op) (results_of v k) (length (results_of v op)) copies next → IsCopying x v x.blocks (take (i + 1) ks) next
    op_whole k next key a =
        let a_w : AreValuesAdded (results_of w op) (results_of w (length u.operations)) (length (results_of w op)) copies next = subst (λ (z : Tree). AreValuesAdded (results_of z op) (results_of z (length u.operations)) (length (results_of z op)) copies next) (sym w_is) (subst (λ d. AreValuesAdded (results_of v op) (results_of v d) (length (results_of v op)) copies next) key a) in
        subst (λ (z : Tree). IsCopying x z x.blocks (take (i + 1) ks) next) w_is (subst (λ z. IsCopying x w x.blocks (take (i + 1) z) next) (sym same) (op_copied_here x may u wu i op b c lt_o at_o q_o.made holds head has goal_at.2 goal_at.0 goal_at.1 (subst IsTree (sym w_is) wv) copies next q_o.mapped a_w))

-- what the call that connects a copy asks
pub record IsConnectStep (x : CopySource) (u : Tree) (op k : ℕ) (copies : Copies) : Type 0 where
  pub live : IsLive u op
  pub copy : IsLive u k
  pub apart : op ≡ k → ⊥
  pub bare : (operands_of u k ≡ []) × (successors_of u k ≡ [])
  pub values : (v : ℕ) → In v (operands_of u op) → IsDefined u (value_or_copy_in copies v)
  pub blocks : (b : ℕ) → In b (successors_of u op) → IsBlock u (block_or_copy_in copies b)

module _ (x : CopySource) (may : MayCopy x) (ks made : List ℕ) (same : ks ≡ operations_of x.tree x.blocks) (is_made : made ≡ range_with_len (length x.tree.operations) (length ks)) (u : Tree) (i op k : ℕ) (lt : i < length ks) (at : op ≡ get_or ks i op) (at_k : k ≡ get_or made i k) (copies : Copies) (q : IsCopying x u x.blocks ks copies) (a : AreConnected x u copies i) where
  lt_c : i < length (operations_of x.tree x.blocks)
  lt_c = subst (λ z. i < length z) same lt

  at_c : op ≡ get_or (operations_of x.tree x.blocks) i op
  at_c = at ∙ ap (λ z. get_or z i op) same

  q_c : IsCopying x u x.blocks (operations_of x.tree x.blocks) copies
  q_c = subst (λ z. IsCopying x u x.blocks z copies) same q

  k_is : k ≡ length x.tree.operations + i
  k_is = at_k ∙ ap (λ z. get_or z i k) is_made ∙ get_or-range_with_len (length x.tree.operations) (length ks) i k lt

  live_c : IsLive x.tree op
  live_c = (op_stands x may op (there (operations_of x.tree x.blocks) i op lt_c at_c)).3

  op_less : op < length x.tree.operations
  op_less = live-within x.tree op live_c

  pub connect_step : IsConnectStep x u op k copies
  connect_step = record {
    live = live_grown x.tree u x.region may.tree q.made.grown op live_c;
    copy = (q.made.operations k (omega (arith, k_is)) (let e = q.made.operation_count in omega (arith, e, k_is, lt))).live;
    apart = λ e. let l = op_less in omega (arith, e, l, k_is);
    bare = a.bare k (omega (arith, k_is));
    values = λ v j. value_stands x may u copies q_c v (may.tree.joined.operands op v (subst (In v) (q.made.grown.operands op op_less) j));
    blocks = λ b j. target_stands x may u copies q_c b (may.tree.joined.successors op b (subst (In b) (q.made.grown.successors op op_less) j));
  }

  -- names were pushed
  pub connect_kept : (v : Tree) (xs ys : List ℕ) → HasNames u v k xs ys → IsCopying x v x.blocks ks copies
  connect_kept v xs ys n = named_copying x may u v k (omega (arith, k_is)) x.blocks ks copies q xs ys n

  pub connect_whole : (v : Tree) (xs ys : List ℕ) → HasNames u v k xs ys → xs ≡ map (value_or_copy_in copies) (operands_of u op) → ys ≡ map (block_or_copy_in copies) (successors_of u op) → AreConnected x v copies (i + 1)
  connect_whole v xs ys n ex ey =
      let ex_t : xs ≡ map (value_or_copy_in copies) (operands_of x.tree op) = ex ∙ ap (map (value_or_copy_in copies)) (q.made.grown.operands op op_less) in
      let ey_t : ys ≡ map (block_or_copy_in copies) (successors_of x.tree op) = ey ∙ ap (map (block_or_copy_in copies)) (q.made.grown.successors op op_less) in
      connected_next x may u copies q_c v i op k lt_c at_c k_is a (subst (λ z. HasNames u v k (map (value_or_copy_in copies) (operands_of x.tree op)) z) ey_t (subst (λ z. HasNames u v k z ys) ex_t n))

-- ---- names

pub names_none : (t : Tree) (k : ℕ) → HasNames t t k (operands_of t k) (successors_of t k)
names_none t k = record {
  same = refl;
  operands = refl;
  successors = refl;
  other_operands = λ j ne. refl;
  other_successors = λ j ne. refl;
  long = (refl, refl);
}

pub names_both : (t u v : Tree) (k : ℕ) (xs ys : List ℕ) → HasNames t u k xs (successors_of t k) → HasNames u v k (operands_of u k) ys → HasNames t v k xs ys
names_both t u v k xs ys a b = record {
  same = b.same ∙ ap {A = Tree} (λ (z : Tree). record z { operands = v.operands; successors = v.successors }) a.same;
  operands = b.operands ∙ a.operands;
  successors = b.successors;
  other_operands = λ j ne. b.other_operands j ne ∙ a.other_operands j ne;
  other_successors = λ j ne. b.other_successors j ne ∙ a.other_successors j ne;
  long = (b.long.0 ∙ a.long.0, b.long.1 ∙ a.long.1);
}

module _ (t u : Tree) (w : IsTree t) (k : ℕ) (live : IsLive t k) where
  k_within : k < length t.operations
  k_within = live-within t k live

  pub operand_more : (xs ys : List ℕ) (v : ℕ) → HasNames t u k xs ys → HasNames t (operand_pushed u k v) k (xs ++ v ∷ []) ys
  operand_more xs ys v n =
      let l = n.long.0 in
      let e = w.keys.operands in
      let i = k_within in
      record {
        same = ap {A = Tree} (λ (z : Tree). record z { operands = slice_set u.operands k (operands_of u k ++ v ∷ []) }) n.same;
        operands = get_or-set_same u.operands k (operands_of u k ++ v ∷ []) [] (omega (arith, l, e, i)) ∙ ap (λ z. z ++ v ∷ []) n.operands;
        successors = n.successors;
        other_operands = λ j ne. get_or-set_other u.operands k j (operands_of u k ++ v ∷ []) [] ne ∙ n.other_operands j ne;
        other_successors = n.other_successors;
        long = (length-set u.operands k (operands_of u k ++ v ∷ []) ∙ n.long.0, n.long.1);
      }

  pub successor_more : (xs ys : List ℕ) (b : ℕ) → HasNames t u k xs ys → HasNames t (successor_pushed u k b) k xs (ys ++ b ∷ [])
  successor_more xs ys b n =
      let l = n.long.1 in
      let e = w.keys.successors in
      let i = k_within in
      record {
        same = ap {A = Tree} (λ (z : Tree). record z { successors = slice_set u.successors k (successors_of u k ++ b ∷ []) }) n.same;
        operands = n.operands;
        successors = get_or-set_same u.successors k (successors_of u k ++ b ∷ []) [] (omega (arith, l, e, i)) ∙ ap (λ z. z ++ b ∷ []) n.successors;
        other_operands = n.other_operands;
        other_successors = λ j ne. get_or-set_other u.successors k j (successors_of u k ++ b ∷ []) [] ne ∙ n.other_successors j ne;
        long = (n.long.0, length-set u.successors k (successors_of u k ++ b ∷ []) ∙ n.long.1);
      }

pub map_next : (f : ℕ → ℕ) (xs : List ℕ) (i x : ℕ) → slice_get xs i ≡ Some x → map f (take (i + 1) xs) ≡ map f (take i xs) ++ f x ∷ []
map_next f xs i x e = ap (map f) (take_next xs i x (slice_get_within xs i x e) (sym (get_or_from_slice_get xs i x x e))) ∙ map-append f (take i xs) (x ∷ [])

module _ (t u : Tree) (k : ℕ) (xs ys : List ℕ) (n : HasNames t u k xs ys) where
  pub names_live : (j : ℕ) → IsLive t j → IsLive u j
  names_live j l = subst (λ (z : Tree). IsLive z j) (sym n.same) l

  pub names_defined : (v : ℕ) → IsDefined t v → IsDefined u v
  names_defined v is = subst (λ (z : Tree). IsDefined z v) (sym n.same) is

  pub names_block : (b : ℕ) → IsBlock t b → IsBlock u b
  names_block b is = subst (λ (z : Tree). IsBlock z b) (sym n.same) is

-- one operand more of as many as the operation op has
pub operand_next : (t u v : Tree) → IsTree t → (op k j a x : ℕ) (f : ℕ → ℕ) (ys : List ℕ) → IsLive t k → (op ≡ k → ⊥) → HasNames t u k (map f (take j (operands_of t op))) ys → slice_get (operands_of u op) j ≡ Some a → x ≡ f a → v ≡ operand_pushed u k x → HasNames t v k (map f (take (j + 1) (operands_of t op))) ys
operand_next t u v w op k j a x f ys live apart n at is pushed =
    let at_t : slice_get (operands_of t op) j ≡ Some a = ap (λ z. slice_get z j) (sym (n.other_operands op apart)) ∙ at in
    let whole : v ≡ operand_pushed u k (f a) = pushed ∙ ap (λ z. operand_pushed u k z) is in
    subst (λ (z : Tree). HasNames t z k (map f (take (j + 1) (operands_of t op))) ys) (sym whole)
    (subst (λ z. HasNames t (operand_pushed u k (f a)) k z ys) (sym (map_next f (operands_of t op) j a at_t)) (operand_more t u w k live (map f (take j (operands_of t op))) ys (f a) n))

pub successor_next : (t u v : Tree) → IsTree t → (op k j a x : ℕ) (f : ℕ → ℕ) (xs : List ℕ) → IsLive t k → (op ≡ k → ⊥) → HasNames t u k xs (map f (take j (successors_of t op))) → slice_get (successors_of u op) j ≡ Some a → x ≡ f a → v ≡ successor_pushed u k x → HasNames t v k xs (map f (take (j + 1) (successors_of t op)))
successor_next t u v w op k j a x f xs live apart n at is pushed =
    let at_t : slice_get (successors_of t op) j ≡ Some a = ap (λ z. slice_get z j) (sym (n.other_successors op apart)) ∙ at in
    let whole : v ≡ successor_pushed u k (f a) = pushed ∙ ap (λ z. successor_pushed u k z) is in
    subst (λ (z : Tree). HasNames t z k xs (map f (take (j + 1) (successors_of t op)))) (sym whole)
    (subst (λ z. HasNames t (successor_pushed u k (f a)) k xs z) (sym (map_next f (successors_of t op) j a at_t)) (successor_more t u w k live xs (map f (take j (successors_of t op))) (f a) n))
