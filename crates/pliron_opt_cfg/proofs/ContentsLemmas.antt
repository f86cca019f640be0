-- The lists of what stands in blocks have exactly that.
use Rattle.std.proofs.Common.{◌≡◌, inl, inr, ⊎_elim, ℕ, List, ◌++◌, Some, IsSome, refl, sym, ap, ◌∙◌, subst}
use Rattle.std.specs.List.{flat_map, slice_get}
use Rattle.pliron_core.specs.declared.context.Def.{Def}
use Rattle.pliron_core.specs.declared.context.Def.TheVariants.{Result, Argument}
use Rattle.pliron_core.specs.Tree.{Tree, In, IsLive, IsBlock, IsDefined, IsMadeBy, results_of, regions_of, body_of, arguments_of, layout_of, region_parent_of, block_parent_operation_of, definition_of, op_of_slot}
use Rattle.pliron_core.specs.Invariant.{IsTree}
use Rattle.pliron_core.specs.Walks.{preorder}
use Rattle.pliron_core.specs.Erased.{IsInOperation, IsBlockWithin, IsDefinedInBlock}
use Rattle.pliron_core.proofs.FlatLemmas.{In-flat_map, flat_map-In}
use Rattle.pliron_core.proofs.ListLemmas.{In-left, In-right, In-cases}
use Rattle.pliron_core.proofs.WalkLemmas.{In-preorder, within_live}
use Rattle.pliron_core.proofs.WithinLemmas.{block_steps, block_holder_from}
use Rattle.pliron_core.proofs.HoldingLemmas.{some_is, in_slice, slice_in, slot_is, region_parent_is, maker_is}
use Rattle.pliron_opt_cfg.specs.Internal.Contents.{contents_of, contents_in, blocks_directly_in, values_made_by, IsUsedWithin, HasUseOutside}
use Rattle.pliron_opt_cfg.specs.Internal.OtherUses.{HaveNoOtherUse, HaveOtherUse}

module _ (t : Tree) (w : IsTree t) (bs : List ℕ) where
  abbrev pub ops : List ℕ
  ops = contents_in t bs

  abbrev pub all : List ℕ
  all = bs ++ flat_map (λ k. blocks_directly_in t k) ops

  pub op_stands : (k : ℕ) → In k ops → (b : ℕ) × In b bs × IsInOperation t b k
  op_stands k i =
      let b = flat_map-In (λ b. contents_of t b) bs k i in
      let j = flat_map-In (λ j. preorder t j) (body_of t b.0) k b.2 in
      (b.0, b.1, (j.0, w.bodies.owned j.0 b.0 j.1, (In-preorder t w j.0 k).0 j.2))

  pub stands_op : (k b : ℕ) → In b bs → IsInOperation t b k → In k ops
  stands_op k b i s =
      In-flat_map (λ b. contents_of t b) bs b k i (In-flat_map (λ j. preorder t j) (body_of t b) s.0 k (w.bodies.listed s.0 b s.1) ((In-preorder t w s.0 k).1 s.2))

  pub op_live : (k : ℕ) → In k ops → IsLive t k
  op_live k i =
      let b = flat_map-In (λ b. contents_of t b) bs k i in
      let j = flat_map-In (λ j. preorder t j) (body_of t b.0) k b.2 in
      within_live t w j.0 k (w.joined.all_in_place j.0 b.0 (w.bodies.owned j.0 b.0 j.1)).0 ((In-preorder t w j.0 k).0 j.2)

  held_by : (k r : ℕ) → In r (regions_of t k) → region_parent_of t r ≡ Some k
  held_by k r i = let x = slice_in (regions_of t k) r i in ap op_of_slot (w.joined.regions k x.0 r x.1)

  -- a block directly in an operation
  below_held : (k c : ℕ) → In c (blocks_directly_in t k) → (block_parent_operation_of t c ≡ Some k) × IsBlock t c
  below_held k c i =
      let r = flat_map-In (λ r. layout_of t r) (regions_of t k) c i in
      let p = w.layouts.owned c r.0 r.2 in
      (block_holder_from t c r.0 p ∙ held_by k r.0 r.1, subst IsSome (sym p) refl)

  held_below : (k c : ℕ) → block_parent_operation_of t c ≡ Some k → In c (blocks_directly_in t k)
  held_below k c e =
      let s = block_steps t c k e in
      let slot = slot_is t s.0 (w.joined.placed c s.0 s.1) in
      let same : slot.0.op ≡ k = some_is (sym (region_parent_is t s.0 slot.0 slot.1) ∙ s.2) in
      In-flat_map (λ r. layout_of t r) (regions_of t k) s.0 c (subst (λ z. In s.0 (regions_of t z)) same (in_slice (regions_of t slot.0.op) slot.0.index s.0 slot.2)) (w.layouts.listed c s.0 s.1)

  pub block_within : (c : ℕ) → In c all → (b : ℕ) × In b bs × IsBlockWithin t b c
  block_within c i = ⊎_elim
      (λ j. (c, j, inl refl))
      (λ j. let k = flat_map-In (λ k. blocks_directly_in t k) ops c j in let b = op_stands k.0 k.1 in (b.0, b.1, inr (k.0, (below_held k.0 c k.2).0, b.2)))
      (In-cases c bs (flat_map (λ k. blocks_directly_in t k) ops) i)

  pub within_block : (c b : ℕ) → In b bs → IsBlockWithin t b c → In c all
  within_block c b i (inl e) = In-left c bs (flat_map (λ k. blocks_directly_in t k) ops) (subst (λ z. In z bs) (sym e) i)
  within_block c b i (inr y) = In-right c bs (flat_map (λ k. blocks_directly_in t k) ops) (In-flat_map (λ k. blocks_directly_in t k) ops y.0 c (stands_op y.0 b i y.2) (held_below y.0 c y.1))

  pub block_stands : ((b : ℕ) → In b bs → IsBlock t b) → (c : ℕ) → In c all → IsBlock t c
  block_stands stand c i = ⊎_elim (λ j. stand c j) (λ j. let k = flat_map-In (λ k. blocks_directly_in t k) ops c j in (below_held k.0 c k.2).1) (In-cases c bs (flat_map (λ k. blocks_directly_in t k) ops) i)

  result_made : (k v : ℕ) → In v (results_of t k) → (i : ℕ) × (definition_of t v ≡ Some (Result k i)) × (slice_get (results_of t k) i ≡ Some v)
  result_made k v j = let x = slice_in (results_of t k) v j in (x.0, w.joined.results k x.0 v x.1, x.1)

  argument_made : (c v : ℕ) → In v (arguments_of t c) → (i : ℕ) × (definition_of t v ≡ Some (Argument c i)) × (slice_get (arguments_of t c) i ≡ Some v)
  argument_made c v j = let x = slice_in (arguments_of t c) v j in (x.0, w.joined.arguments c x.0 v x.1, x.1)

  abbrev pub values : List ℕ
  values = values_made_by t ops all

  pub value_made : (v : ℕ) → In v values → (b : ℕ) × In b bs × IsDefinedInBlock t b (definition_of t v)
  value_made v i = ⊎_elim
      (λ j. let k = flat_map-In (λ k. results_of t k) ops v j in let b = op_stands k.0 k.1 in let d = result_made k.0 v k.2 in (b.0, b.1, subst (IsDefinedInBlock t b.0) (sym d.1) b.2))
      (λ j. let c = flat_map-In (λ c. arguments_of t c) all v j in let b = block_within c.0 c.1 in let d = argument_made c.0 v c.2 in (b.0, b.1, subst (IsDefinedInBlock t b.0) (sym d.1) b.2))
      (In-cases v (flat_map (λ k. results_of t k) ops) (flat_map (λ c. arguments_of t c) all) i)

  pub value_defined : (v : ℕ) → In v values → IsDefined t v
  value_defined v i = ⊎_elim
      (λ j. let k = flat_map-In (λ k. results_of t k) ops v j in let d = result_made k.0 v k.2 in subst (IsMadeBy t v) (sym d.1) d.2)
      (λ j. let c = flat_map-In (λ c. arguments_of t c) all v j in let d = argument_made c.0 v c.2 in subst (IsMadeBy t v) (sym d.1) d.2)
      (In-cases v (flat_map (λ k. results_of t k) ops) (flat_map (λ c. arguments_of t c) all) i)

  made_listed : (v b : ℕ) (d : Def) → In b bs → IsMadeBy t v (Some d) → IsDefinedInBlock t b (Some d) → In v values
  made_listed v b (Result k i) j m s = In-left v (flat_map (λ k. results_of t k) ops) (flat_map (λ c. arguments_of t c) all) (In-flat_map (λ k. results_of t k) ops k v (stands_op k b j s) (in_slice (results_of t k) i v m))
  made_listed v b (Argument c i) j m s = In-right v (flat_map (λ k. results_of t k) ops) (flat_map (λ c. arguments_of t c) all) (In-flat_map (λ c. arguments_of t c) all c v (within_block c b j s) (in_slice (arguments_of t c) i v m))

  pub made_value : (v b : ℕ) → IsDefined t v → In b bs → IsDefinedInBlock t b (definition_of t v) → In v values
  made_value v b is j s = let d = maker_is t v is in made_listed v b d.0 j d.2 (subst (IsDefinedInBlock t b) d.1 s)

  -- the checks say what is asked
  pub no_other_use : (inside : List ℕ) → ((k : ℕ) → In k inside → In k ops) → ((v : ℕ) → In v values → IsUsedWithin t inside v) → HaveNoOtherUse t bs
  no_other_use inside sub used k v b i j m = op_stands k (sub k (used v (made_value v b (w.joined.operands k v i) j m) k i))

  pub other_use : (inside : List ℕ) → ((k : ℕ) → In k ops → In k inside) → (v : ℕ) → In v values → HasUseOutside t inside v → HaveOtherUse t bs
  other_use inside sup v i h =
      let m = value_made v i in
      record { block = m.0; among = m.1; value = v; made = m.2; user = h.0; names = h.1; outside = λ c j s. h.2 (sup h.0 (stands_op h.0 c j s)) }
