-- What stands in a tree after some of it went, and when it stays well linked.
use Rattle.std.proofs.Common.{◌≡◌, ◌⊎◌, inl, inr, ℕ, Option, Some, None, IsSome, is_some, slice_get, refl, sym, ap, ◌∙◌, subst}
use Rattle.pliron_core.specs.declared.context.Def.{Def}
use Rattle.pliron_core.specs.declared.context.Def.TheVariants.{Result, Argument}
use Rattle.pliron_core.specs.Changes.{IsOutside, IsBlockOutside, IsRegionOutside, IsValueOutside}
use Rattle.pliron_core.specs.Tree.{Tree, In, last_of, row_of, arguments_of, definition_of, IsMadeBy, IsLive, IsBlock, IsInside, IsInside.Directly, IsInside.Deeper, IsWithin, HoldsBlock, head_of, successors_of, regions_of, parent_of, body_of, block_parent_of, slot_of, region_parent_of, block_parent_operation_of, parent_operation_of, up_from, op_of_slot}
use Rattle.pliron_core.specs.Invariant.{IsTree}
use Rattle.pliron_core.proofs.WithinLemmas.{block_holder_from, parent_holder}
use Rattle.pliron_core.proofs.HoldingLemmas.{some_is, some_of, slot_is, maker_is, region_live, region_parent_is, block_held, held_block, holder_is, holder_by, holder_live, inside_more, within_more}
use Rattle.pliron_core.proofs.InsideLemmas.{region_holder_outside, result_outside, argument_outside}
use Rattle.pliron_laws.specs.Datum.{Meaning}
use Rattle.pliron_laws.specs.Linked.{EndsBlock, IsAdmitted}
use Rattle.pliron_rewrite_blocks.specs.Links.{KeepsLinks}

-- what has successors stands
pub live_by : (v : Tree) → IsTree v → (k s : ℕ) → In s (successors_of v k) → IsLive v k
live_by v wv k s i = go (head_of v k) refl
  where
    go : (o : Option _) → head_of v k ≡ o → IsLive v k
    go None e = absurd (subst (In s) (wv.joined.erased k e).1 i)
    go (Some h) e = ap is_some e

module _ (t v : Tree) (w : IsTree t) (wv : IsTree v) (regions : (k : ℕ) → IsLive v k → regions_of v k ≡ regions_of t k) (block_parents : (b : ℕ) → IsBlock v b → block_parent_of v b ≡ block_parent_of t b) where
  -- what holds a block held it
  pub block_was : (b k : ℕ) → block_parent_operation_of v b ≡ Some k → block_parent_operation_of t b ≡ Some k
  block_was b k e =
      let is = held_block v b k e in
      let x = block_held v b wv.joined is in
      let s = slot_is v x.0 x.3 in
      let live = region_live v wv.joined s.0.op s.0.index x.0 s.2 in
      let there = w.joined.regions s.0.op s.0.index x.0 (ap (λ l. slice_get l s.0.index) (sym (regions s.0.op live)) ∙ s.2) in
      let up : region_parent_of t x.0 ≡ Some k = region_parent_is t x.0 s.0 there ∙ sym (region_parent_is v x.0 s.0 s.1) ∙ x.4 ∙ sym x.5 ∙ e in
      block_holder_from t b x.0 (sym (block_parents b is) ∙ x.2) ∙ up

  pub block_still : (b k : ℕ) → IsBlock v b → block_parent_operation_of t b ≡ Some k → block_parent_operation_of v b ≡ Some k
  block_still b k is e =
      let x = block_held v b wv.joined is in
      x.5 ∙ sym (block_was b x.1 x.5) ∙ e

  -- where what stands stood before, and inside the same, nothing new stands outside
  module _ (lives : (x : ℕ) → IsLive v x → IsLive t x) (holders : (x y : ℕ) → parent_operation_of v x ≡ Some y → parent_operation_of t x ≡ Some y) (placed : (x d : ℕ) → IsLive v x → parent_of t x ≡ Some d → IsSome (parent_of v x)) where
    holder_still : (x p : ℕ) → IsLive v x → parent_operation_of t x ≡ Some p → parent_operation_of v x ≡ Some p
    holder_still x p l e =
        let h = holder_is t x p e in
        let at = some_of (parent_of v x) (placed x h.0 l h.1) in
        let up = parent_holder v x at.0 wv.joined at.1 in
        let now : parent_operation_of v x ≡ Some up.0 = holder_by v x at.0 up.0 at.1 up.1 in
        now ∙ sym (holders x up.0 now) ∙ e

    inside_still : (op x : ℕ) → IsLive v x → IsInside t op x → IsInside v op x
    inside_still op x l (Directly e) = Directly (holder_still x op l e)
    inside_still op x l (Deeper p e i) = let h = holder_still x p l e in Deeper p h (inside_still op p (holder_live v x p wv.joined h).1 i)

    pub none_outside : (op x : ℕ) → IsOutside v op x → IsOutside t op x
    none_outside op x o = (lives x o.0, λ i. o.1 (inside_still op x o.0 i))

    pub no_block_outside : (op b : ℕ) → IsBlockOutside v op b → IsBlockOutside t op b
    no_block_outside op b o = (subst IsSome (block_parents b o.0) o.0, λ h. let up = block_still b h.0 o.0 h.1 in o.1 (h.0, up, within h.0 (subst (IsLive v) (some_is (sym (block_held v b wv.joined o.0).5 ∙ up)) (block_held v b wv.joined o.0).6) h.2))
      where
        within : (k : ℕ) → IsLive v k → IsWithin t op k → IsWithin v op k
        within k l (inl e) = inl e
        within k l (inr i) = inr (inside_still op k l i)

-- what is made outside an operation is made by the same, where rows and arguments there are as before
module _ (t v : Tree) (op : ℕ) (w : IsTree t) (wv : IsTree v) (rows : (x : ℕ) → IsOutside t op x → row_of v x ≡ row_of t x) where
  pub slot_still : (r : ℕ) → IsRegionOutside t op r → slot_of v r ≡ slot_of t r
  slot_still r o =
      let s = slot_is t r o.0 in
      let out = region_holder_outside t op w.joined r s.0.op s.0.index o (region_parent_is t r s.0 s.1) s.2 in
      wv.joined.regions s.0.op s.0.index r (ap (λ z. slice_get z.regions s.0.index) (rows s.0.op out) ∙ s.2) ∙ sym s.1

  pub made_still : ((b : ℕ) → IsBlockOutside t op b → arguments_of v b ≡ arguments_of t b) → (x : ℕ) → IsValueOutside t op x → definition_of v x ≡ definition_of t x
  made_still arguments x o = let m = maker_is t x o.0 in go m.0 m.1 m.2 ∙ sym m.1
    where
      go : (d : Def) → definition_of t x ≡ Some d → IsMadeBy t x (Some d) → definition_of v x ≡ Some d
      go (Result k i) e l = wv.joined.results k i x (ap (λ z. slice_get z.results i) (rows k (result_outside t op w.joined x k i o e l)) ∙ l)
      go (Argument b i) e l = wv.joined.arguments b i x (ap (λ z. slice_get z i) (arguments b (argument_outside t op w.joined x b i o e l)) ∙ l)

module _ (m : Meaning) (t v : Tree) where
  -- what stands stood inside the same, no edge is new, what ended its block does so, and what was admitted is
  pub record LinksStay : Type 0 where
    pub holders : (x y : ℕ) → parent_operation_of v x ≡ Some y → parent_operation_of t x ≡ Some y
    pub block_holders : (b y : ℕ) → block_parent_operation_of v b ≡ Some y → block_parent_operation_of t b ≡ Some y
    pub targets : (k s : ℕ) → In s (successors_of v k) → In s (successors_of t k)
    pub ends : (k s : ℕ) → In s (successors_of v k) → EndsBlock t k → EndsBlock v k
    pub admits : (k : ℕ) → IsAdmitted m t k → IsAdmitted m v k

  pub links_stay : LinksStay → KeepsLinks m t v
  links_stay h root l = record {
    edges = λ k s i held. h.ends k s i (l.edges k s (h.targets k s i) (before k s held));
    admitted = λ k i. h.admits k (l.admitted k (within_more v t h.holders i));
  }
    where
      before : (k s : ℕ) → IsInside v root k ⊎ HoldsBlock v root s → IsInside t root k ⊎ HoldsBlock t root s
      before k s (inl i) = inl (inside_more v t h.holders i)
      before k s (inr x) = inr (x.0, h.block_holders s x.0 x.1, within_more v t h.holders x.2)

  -- where everything stands where it stood
  module _ (successors : (k : ℕ) → successors_of v k ≡ successors_of t k) (parents : (k : ℕ) → parent_of v k ≡ parent_of t k) (bodies : (b : ℕ) → body_of v b ≡ body_of t b) (block_parents : (b : ℕ) → block_parent_of v b ≡ block_parent_of t b) (slots : (r : ℕ) → slot_of v r ≡ slot_of t r) (admits : (k : ℕ) → IsAdmitted m t k → IsAdmitted m v k) where
    same_block_holder : (b : ℕ) → block_parent_operation_of v b ≡ block_parent_operation_of t b
    same_block_holder b = ap (λ o. up_from o (λ r. region_parent_of v r)) (block_parents b) ∙ go (block_parent_of t b)
      where
        go : (o : Option ℕ) → up_from o (λ r. region_parent_of v r) ≡ up_from o (λ r. region_parent_of t r)
        go None = refl
        go (Some r) = ap op_of_slot (slots r)

    same_holder : (x : ℕ) → parent_operation_of v x ≡ parent_operation_of t x
    same_holder x = ap (λ o. up_from o (λ b. block_parent_operation_of v b)) (parents x) ∙ go (parent_of t x)
      where
        go : (o : Option ℕ) → up_from o (λ b. block_parent_operation_of v b) ≡ up_from o (λ b. block_parent_operation_of t b)
        go None = refl
        go (Some b) = same_block_holder b

    pub links_in_place : KeepsLinks m t v
    links_in_place = links_stay (record {
      holders = λ x y e. sym (same_holder x) ∙ e;
      block_holders = λ b y e. sym (same_block_holder b) ∙ e;
      targets = λ k s i. subst (In s) (successors k) i;
      ends = λ k s i ends. record {
        block = ends.block;
        in_block = parents k ∙ ends.in_block;
        last = ap (last_of None) (bodies ends.block) ∙ ends.last;
        own_region = λ x j. block_parents x ∙ ends.own_region x (subst (In x) (successors k) j) ∙ sym (block_parents ends.block);
      };
      admits = admits;
    })
