-- When two blocks are a pair.
use Rattle.std.proofs.Common.{◌≡◌, ◌≢◌, inl, inr, ℕ, zero, suc, Bool, true, false, not, IsTrue, List, [], ◌∷◌, length, map, Option, Some, None, IsSome, is_some, slice_get, refl, sym, ap, ◌∙◌, subst, arith}
use Rattle.std.proofs.lemmas.Bool.{false≢true}
use Rattle.pliron_core.specs.declared.context.Def.{Def}
use Rattle.pliron_core.specs.declared.context.Def.TheVariants.{Argument, Result}
use Rattle.pliron_core.specs.declared.uses.Use.{Use}
use Rattle.pliron_core.specs.Tree.{Tree, View, In, first_of, last_of, IsBlock, IsDefined, IsMadeBy, IsInside.Directly, uses_of, successors_of, operands_of, body_of, arguments_of, block_parent_of, block_parent_operation_of, region_parent_of, layout_of, definition_of, head_of, up_from}
use Rattle.pliron_core.specs.Invariant.{IsTree, HaveUses}
use Rattle.pliron_core.specs.Reads.{prev_block_of}
use Rattle.pliron_core.specs.Lists.{prev_in}
use Rattle.pliron_core.specs.Edges.{succs_from, preds_of}
use Rattle.pliron_core.specs.EdgeUses.{IsSource, IsEdge}
use Rattle.pliron_core.proofs.NeighbourLemmas.{first_of-In, last_of-In, first_of-prev_in, prev_in-head}
use Rattle.pliron_core.proofs.EdgeLemmas.{source-pred, preds-distinct, pred-edge, edge-one}
use Rattle.pliron_core.proofs.FilterLemmas.{one_all}
use Rattle.pliron_core.proofs.HoldingLemmas.{some_is, not_none, some_of, in_slice, slice_in, block_held, holder_by, maker_is}
use Rattle.pliron_laws.specs.Datum.{Meaning}
use Rattle.pliron_laws.specs.Tree.{shape_of}
use Rattle.pliron_laws.specs.Acting.{pick}
use Rattle.pliron_laws.specs.Answers.{AreForwarded}
use Rattle.pliron_laws.specs.Linked.{EdgesLast, EndsBlock}
use Rattle.pliron_laws.proofs.Records.{operation_of, make_op}
use Rattle.pliron_rewrite_blocks.proofs.ListLemmas.{in_one}
use Rattle.pliron_rewrite_blocks.specs.Pairs.{IsMergeable}
use Rattle.pliron_opt_cfg.specs.Internal.MergeSteps.{IsOnlyWay}

-- a block with none before it is the first of its region, and the other way round
pub entry_is : (t : Tree) → IsTree t → (block : ℕ) → IsBlock t block → prev_block_of t block ≡ None → (r : ℕ) × (first_of (layout_of t r) None ≡ Some block)
entry_is t w block is e =
    let r = some_of (block_parent_of t block) is in
    (r.0, first_of-prev_in block (layout_of t r.0) (w.layouts.listed block r.0 r.1) (ap (λ o. up_from o (λ z. prev_in None block (layout_of t z))) (sym r.1) ∙ e))

pub entry_has : (t : Tree) → IsTree t → (block r : ℕ) → first_of (layout_of t r) None ≡ Some block → prev_block_of t block ≡ None
entry_has t w block r e =
    let in_r = w.layouts.owned block r (first_of-In block (layout_of t r) e) in
    ap (λ o. up_from o (λ z. prev_in None block (layout_of t z))) in_r ∙ prev_in-head block (layout_of t r) e

pub none_by : (o : Option ℕ) (z : Bool) → is_some o ≡ not z → IsTrue z → o ≡ None
none_by None z e i = refl
none_by (Some x) true e i = grind arith
none_by (Some x) false e i = grind arith

pub none_so : (o : Option ℕ) (z : Bool) → is_some o ≡ not z → o ≡ None → IsTrue z
none_so None true e i = refl
none_so None false e i = grind arith
none_so (Some x) z e i = absurd (not_none (sym i))

-- a list in which all is one, and nothing stands twice
one_use : (xs : List Use) (u : Use) → ((i : ℕ) (x : Use) → slice_get xs i ≡ Some x → x ≡ u) → ((i j : ℕ) → slice_get xs i ≡ Some u → slice_get xs j ≡ Some u → i ≡ j) → (i : ℕ) × (slice_get xs i ≡ Some u) → length xs ≡ 1
one_use [] u all once here = absurd (not_none here.1)
one_use (x ∷ []) u all once here = refl
one_use (x ∷ y ∷ ys) u all once here =
    let e : 0 ≡ 1 = once 0 1 (ap Some (all 0 x refl)) (ap Some (all 1 y refl)) in
    absurd (omega (arith, e))

pub one_item : (xs : List ℕ) (x : ℕ) → length xs ≡ 1 → slice_get xs 0 ≡ Some x → xs ≡ x ∷ []
one_item [] x l e = absurd (not_none e)
one_item (y ∷ []) x l e = ap (λ z. z ∷ []) (some_is e)
one_item (y ∷ z ∷ ys) x l e = absurd (omega (arith, l))

-- the block to which a jump leads alone
module _ (v : View) (block jump : ℕ) (w : IsTree v.tree) (u : HaveUses v) (is : IsBlock v.tree block) (goes : successors_of v.tree jump ≡ block ∷ []) (edges : (holder : ℕ) → block_parent_operation_of v.tree block ≡ Some holder → EdgesLast v.tree holder) where
  ends : (k : ℕ) → In block (successors_of v.tree k) → EndsBlock v.tree k
  ends k i =
      let h = block_held v.tree block w.joined is in
      edges h.1 h.5 k block i (inr (h.1, h.5, inl refl))

  jumps : In block (successors_of v.tree jump)
  jumps = subst (In block) (sym goes) (inl refl)

  source : (k : ℕ) (i : In block (successors_of v.tree k)) → IsSource v.tree block k (ends k i).block
  source k i = record { parent = (ends k i).in_block; last = (ends k i).last; beside = sym ((ends k i).own_region block i) }

  pred : (k : ℕ) (i : In block (successors_of v.tree k)) → In (ends k i).block (preds_of v.tree block)
  pred k i = let x = slice_in (successors_of v.tree k) block i in source-pred v.tree w block k x.0 (ends k i).block is (source k i) x.1

  only : length (preds_of v.tree block) ≡ 1 → (k : ℕ) → In block (successors_of v.tree k) → k ≡ jump
  only one k i =
      let same = in_one (preds_of v.tree block) (ends k i).block (ends jump jumps).block one (pred k i) (pred jump jumps) in
      some_is (sym (ends k i).last ∙ ap (λ c. last_of None (body_of v.tree c)) same ∙ (ends jump jumps).last)

  pub use_is_one : length (preds_of v.tree block) ≡ 1 → length (uses_of v.block_uses block) ≡ 1
  use_is_one one = one_use (uses_of v.block_uses block) (record { user = jump; place = 0 }) all (λ i j. u.block_uses.once block i j (record { user = jump; place = 0 })) (u.block_uses.complete jump 0 block (ap (λ l. slice_get l 0) goes))
    where
      at : (place : ℕ) → slice_get (block ∷ []) place ≡ Some block → place ≡ 0
      at zero e = refl
      at (suc n) e = absurd (not_none e)

      all : (i : ℕ) (x : Use) → slice_get (uses_of v.block_uses block) i ≡ Some x → x ≡ record { user = jump; place = 0 }
      all i x e =
          let there = u.block_uses.listed block i x e in
          let user = only one x.user (in_slice (successors_of v.tree x.user) x.place block there) in
          let place = at x.place (ap (λ l. slice_get l x.place) (sym goes ∙ ap (successors_of v.tree) (sym user)) ∙ there) in
          ap {A = ℕ} (λ z. record { user = z; place = x.place }) user ∙ ap {A = ℕ} (λ z. record { user = jump; place = z }) place

  pub pred_is_one : length (uses_of v.block_uses block) ≡ 1 → length (preds_of v.tree block) ≡ 1
  pred_is_one one = one_all (preds_of v.tree block) (ends jump jumps).block (preds-distinct v.tree w block) (pred jump jumps) same
    where
      same : (x : ℕ) → In x (preds_of v.tree block) → x ≡ (ends jump jumps).block
      same x i =
          let p = pred-edge v w u block x i in
          let q = pred-edge v w u block (ends jump jumps).block (pred jump jumps) in
          let e : p.0 ≡ q.0 = omega (arith, one, p.1, q.1) in
          let first : IsEdge v block p.0 x = record { one = p.2.one; listed = p.2.listed; source = p.2.source } in
          let second : IsEdge v block q.0 (ends jump jumps).block = record { one = q.2.one; listed = q.2.listed; source = q.2.source } in
          edge-one v block q.0 x (ends jump jumps).block (subst (λ z. IsEdge v block z x) e first) second

-- what the way out of a block says of its last operation
pub way_jump : (m : Meaning) (t : Tree) (a b j jump : ℕ) → IsOnlyWay m t a b j → Some jump ≡ last_of None (body_of t a) → (j ≡ jump) × (successors_of t jump ≡ b ∷ [])
way_jump m t a b j jump h e = (some_is (sym h.ends ∙ sym e), ap (succs_from t) e ∙ h.goes)

-- where edges stand last, a block's only successor stands beside it
pub second_beside : (t : Tree) → IsTree t → (a b jump : ℕ) → IsBlock t a → ((holder : ℕ) → block_parent_operation_of t a ≡ Some holder → EdgesLast t holder) → Some jump ≡ last_of None (body_of t a) → successors_of t jump ≡ b ∷ [] → block_parent_of t b ≡ block_parent_of t a
second_beside t w a b jump is edges e goes =
    let h = block_held t a w.joined is in
    let in_a = w.bodies.owned jump a (last_of-In jump (body_of t a) (sym e)) in
    let b_in : In b (successors_of t jump) = subst (In b) (sym goes) (inl refl) in
    let x = edges h.1 h.5 jump b b_in (inl (Directly (holder_by t jump a h.1 in_a h.5))) in
    x.own_region b b_in ∙ ap (block_parent_of t) (some_is (sym x.in_block ∙ in_a))

pub same_holder_beside : (t : Tree) (a b : ℕ) → block_parent_of t b ≡ block_parent_of t a → block_parent_operation_of t b ≡ block_parent_operation_of t a
same_holder_beside t a b e = ap (λ o. up_from o (λ r. region_parent_of t r)) e

-- an argument of a block is told by what makes it
pub argument_told : (t : Tree) → IsTree t → (block i v : ℕ) → IsDefined t v → definition_of t v ≡ Some (Argument block i) → In v (arguments_of t block)
argument_told t w block i v d e =
    let x = maker_is t v d in
    let same : x.0 ≡ Argument block i = some_is (sym x.1 ∙ e) in
    in_slice (arguments_of t block) i v (subst (λ z. IsMadeBy t v (Some z)) same x.2)

pub argument_made : (t : Tree) → IsTree t → (block v : ℕ) → In v (arguments_of t block) → (i : ℕ) × (definition_of t v ≡ Some (Argument block i))
argument_made t w block v k = let x = slice_in (arguments_of t block) v k in (x.0, w.joined.arguments block x.0 v x.1)

-- another block has it
pub other_argument : (t : Tree) → IsTree t → (block owner i v : ℕ) → definition_of t v ≡ Some (Argument owner i) → owner ≢ block → In v (arguments_of t block) → ⊥
other_argument t w block owner i v e ne k =
    let x = argument_made t w block v k in
    let same : Argument owner i ≡ Argument block x.0 = some_is (sym e ∙ x.1) in
    ne cc

pub no_argument : (t : Tree) → IsTree t → (block op i v : ℕ) → definition_of t v ≡ Some (Result op i) → In v (arguments_of t block) → ⊥
no_argument t w block op i v e k =
    let x = argument_made t w block v k in
    let same : Result op i ≡ Argument block x.0 = some_is (sym e ∙ x.1) in
    cc

-- what a branch forwards are operands of it
pub forwarded_operand : (m : Meaning) (t : Tree) (jump : ℕ) (values : List ℕ) → IsSome (head_of t jump) → AreForwarded m t jump 0 values → (v : ℕ) → In v values → In v (operands_of t jump)
forwarded_operand m t jump values live f v i =
    let x = some_of (head_of t jump) live in
    picked (m.forwarded (shape_of m t (operation_of t jump x.0)) 0) (operands_of t jump) values (f (operation_of t jump x.0) (make_op t jump x.0 x.1)) i
  where
    picked : (places operands vs : List ℕ) → map Some vs ≡ pick places operands → In v vs → In v operands
    picked [] operands [] e i = absurd i
    picked [] operands (x ∷ vs) e i = grind arith
    picked (p ∷ places) operands [] e i = absurd i
    picked (p ∷ places) operands (x ∷ vs) e (inl s) = let here : Some x ≡ slice_get operands p = cc in in_slice operands p v (sym here ∙ ap Some (sym s))
    picked (p ∷ places) operands (x ∷ vs) e (inr k) = let rest : map Some vs ≡ pick places operands = cc in picked places operands vs rest k

-- and these are all that it forwards
pub same_forwarded : (m : Meaning) (t : Tree) (jump : ℕ) (values others : List ℕ) → IsSome (head_of t jump) → AreForwarded m t jump 0 values → AreForwarded m t jump 0 others → values ≡ others
same_forwarded m t jump values others live f g =
    let x = some_of (head_of t jump) live in
    let o = operation_of t jump x.0 in
    let at = make_op t jump x.0 x.1 in
    unmapped values others (f o at ∙ sym (g o at))
  where
    unmapped : (xs ys : List ℕ) → map {B = Option ℕ} Some xs ≡ map Some ys → xs ≡ ys
    unmapped [] [] e = refl
    unmapped [] (y ∷ ys) e = grind arith
    unmapped (x ∷ xs) [] e = grind arith
    unmapped (x ∷ xs) (y ∷ ys) e =
        let h : x ≡ y = cc in
        let rest : map {B = Option ℕ} Some xs ≡ map Some ys = cc in
        ap (λ z. z ∷ xs) h ∙ ap (λ z. y ∷ z) (unmapped xs ys rest)

pub way_of_pair : (m : Meaning) (t : Tree) (a b jump : ℕ) (values : List ℕ) → IsMergeable m t a b jump values → IsOnlyWay m t a b jump
way_of_pair m t a b jump values h = record { goes = h.goes; ends = h.ends; apart = h.apart; no_entry = h.no_entry; single = h.single; branch = h.branch }

pub not_branch : (m : Meaning) (t : Tree) (a b j jump : ℕ) (r : Bool) → IsOnlyWay m t a b j → Some jump ≡ last_of None (body_of t a) → IsSome (head_of t jump) → ((x : _) → head_of t jump ≡ Some x → r ≡ m.is_branch x) → r ≡ false → ⊥
not_branch m t a b j jump r h e live reads is =
    let x = some_of (head_of t jump) live in
    false≢true (sym is ∙ reads x.0 x.1 ∙ h.branch x.0 (ap (head_of t) (way_jump m t a b j jump h e).0 ∙ x.1))

pub another_maker : (t : Tree) → IsTree t → (block v : ℕ) (d : Def) → definition_of t v ≡ Some d → ((b i : ℕ) → d ≡ Argument b i → ⊥) → In v (arguments_of t block) → ⊥
another_maker t w block v d e other k =
    let x = argument_made t w block v k in
    other block x.0 (some_is (sym e ∙ x.1))

pub way_live : (m : Meaning) (t : Tree) → IsTree t → (a b jump : ℕ) → IsOnlyWay m t a b jump → IsSome (head_of t jump)
way_live m t w a b jump h = (w.joined.all_in_place jump a (w.bodies.owned jump a (last_of-In jump (body_of t a) h.ends))).0

pub values_defined : (m : Meaning) (t : Tree) → IsTree t → (a b jump : ℕ) (values : List ℕ) → IsOnlyWay m t a b jump → AreForwarded m t jump 0 values → (v : ℕ) → In v values → IsDefined t v
values_defined m t w a b jump values h f v i = w.joined.operands jump v (forwarded_operand m t jump values (way_live m t w a b jump h) f v i)

-- one way out, and what is forwarded along it, leave one pair at most
pub record IsThePair (b s : ℕ) (values others : List ℕ) : Type 0 where
  pub block : b ≡ s
  pub same : others ≡ values

pub the_pair : (m : Meaning) (t : Tree) → IsTree t → (a b jump s j : ℕ) (values others : List ℕ) → IsOnlyWay m t a b jump → AreForwarded m t jump 0 values → IsMergeable m t a s j others → IsThePair b s values others
the_pair m t w a b jump s j values others way f h =
    let same : j ≡ jump = some_is (sym h.ends ∙ way.ends) in
    let xs : s ∷ [] ≡ b ∷ [] = sym h.goes ∙ way.goes in
    record {
      block = sym cc;
      same = sym (same_forwarded m t jump values others (way_live m t w a b jump way) f (subst (λ z. AreForwarded m t z 0 others) same h.forwarded));
    }

pub not_by_count : (m : Meaning) (t : Tree) → IsTree t → (a b jump s j : ℕ) (values others : List ℕ) → IsOnlyWay m t a b jump → AreForwarded m t jump 0 values → (length values ≡ length (arguments_of t b) → ⊥) → IsMergeable m t a s j others → ⊥
not_by_count m t w a b jump s j values others way f ne h =
    let x = the_pair m t w a b jump s j values others way f h in
    ne (ap length (sym x.same) ∙ h.counts ∙ ap (λ z. length (arguments_of t z)) (sym x.block))

pub not_by_argument : (m : Meaning) (t : Tree) → IsTree t → (a b jump s j : ℕ) (values others : List ℕ) → IsOnlyWay m t a b jump → AreForwarded m t jump 0 values → (v : ℕ) × In v values × In v (arguments_of t b) → IsMergeable m t a s j others → ⊥
not_by_argument m t w a b jump s j values others way f v h =
    let x = the_pair m t w a b jump s j values others way f h in
    h.no_argument v.0 (subst (In v.0) (sym x.same) v.1) (subst (λ z. In v.0 (arguments_of t z)) x.block v.2)

pub pair_of : (m : Meaning) (t : Tree) (a b jump : ℕ) (values : List ℕ) → IsOnlyWay m t a b jump → AreForwarded m t jump 0 values → length values ≡ length (arguments_of t b) → ((v : ℕ) → In v values → In v (arguments_of t b) → ⊥) → IsMergeable m t a b jump values
pair_of m t a b jump values h f counts apart = record { goes = h.goes; ends = h.ends; apart = h.apart; no_entry = h.no_entry; single = h.single; branch = h.branch; forwarded = f; counts = counts; no_argument = apart }
