-- What stands in a tree without some of its operations and blocks.
use Rattle.std.proofs.Common.{◌≡◌, inl, inr, ℕ, Bool, true, false, true≢false, [], Option, Some, None, is_some, slice_get, refl, sym, ap, ◌∙◌, subst}
use Rattle.pliron_core.specs.declared.context.Def.{Def}
use Rattle.pliron_core.specs.declared.context.Def.TheVariants.{Result, Argument}
use Rattle.pliron_core.specs.Changes.{IsDefiningOperationInside}
use Rattle.pliron_core.specs.Tree.{Tree, In, IsLive, IsInside, IsInside.Directly, IsInside.Deeper, IsWithin, IsDefined, IsMadeBy, head_of, operands_of, successors_of, regions_of, parent_of, block_parent_of, slot_of, region_parent_of, block_parent_operation_of, parent_operation_of, definition_of, up_from, op_of_slot}
use Rattle.pliron_core.specs.Invariant.{IsTree}
use Rattle.pliron_core.proofs.HoldingLemmas.{some_is, in_slice, slot_is, maker_is}
use Rattle.pliron_core.proofs.WithinLemmas.{block_steps}
use Rattle.pliron_core.proofs.WalkLemmas.{place_of}
use Rattle.pliron_theory.specs.Sweeping.{is_maker_dead, IsSwept, AreNotLive, AreAway}

-- where a block stands that an operation holds
pub record HasBlockPlace (t : Tree) (b k : ℕ) : Type 0 where
  pub region : ℕ
  pub index : ℕ
  pub in_region : block_parent_of t b ≡ Some region
  pub slot : slot_of t region ≡ Some (record { op = k; index = index })
  pub listed : slice_get (regions_of t k) index ≡ Some region

pub block_place_of : (t : Tree) (w : IsTree t) (b k : ℕ) → block_parent_operation_of t b ≡ Some k → HasBlockPlace t b k
block_place_of t w b k e =
    let s = block_steps t b k e in
    let p = slot_is t s.0 (w.joined.placed b s.0 s.1) in
    let same : p.0.op ≡ k = some_is (sym (ap op_of_slot p.1) ∙ s.2) in
    record { region = s.0; index = p.0.index; in_region = s.1; slot = p.1 ∙ ap (λ z. Some (record { op = z; index = p.0.index })) same; listed = subst (λ z. slice_get (regions_of t z) p.0.index ≡ Some s.0) same p.2 }

pub block_held_at : (t : Tree) (b k : ℕ) → HasBlockPlace t b k → block_parent_operation_of t b ≡ Some k
block_held_at t b k p = ap (λ o. up_from o (λ r. region_parent_of t r)) p.in_region ∙ ap op_of_slot p.slot

module _ (t t' : Tree) (dead dead_block : ℕ → Bool) (w : IsTree t) (w' : IsTree t') (h : IsSwept t t' dead dead_block) where
  -- a region of what is left has its place in both trees
  pub region_same : (k i r : ℕ) → dead k ≡ false → slice_get (regions_of t k) i ≡ Some r → (slot_of t' r ≡ Some (record { op = k; index = i })) × (slice_get (regions_of t' k) i ≡ Some r)
  region_same k i r l e = let f = ap (λ z. slice_get z.regions i) (h.rows k l) ∙ e in (w'.joined.regions k i r f, f)

  pub block_place_forth : (b k : ℕ) → dead_block b ≡ false → block_parent_operation_of t b ≡ Some k → (block_parent_operation_of t' b ≡ Some k) × (dead k ≡ false)
  block_place_forth b k l e =
      let p = block_place_of t w b k e in
      let lk = h.block_holders b k e l in
      let s = region_same k p.index p.region lk p.listed in
      (block_held_at t' b k (record { region = p.region; index = p.index; in_region = h.block_parents b l ∙ p.in_region; slot = s.0; listed = s.1 }), lk)

  pub place_forth : (x p : ℕ) → dead x ≡ false → parent_operation_of t x ≡ Some p → (parent_operation_of t' x ≡ Some p) × (dead p ≡ false)
  place_forth x p l e =
      let q = place_of t x p e in
      let b = block_place_forth q.block p (h.holders x q.block q.parent l) (ap (λ o. up_from o (λ r. region_parent_of t r)) q.in_region ∙ ap op_of_slot q.slot) in
      (ap (λ o. up_from o (λ z. block_parent_operation_of t' z)) (h.parents x l ∙ q.parent) ∙ b.0, b.1)

  pub inside_forth : (op x : ℕ) → dead x ≡ false → IsInside t op x → IsInside t' op x × (dead op ≡ false)
  inside_forth op x l (Directly e) = let p = place_forth x op l e in (Directly p.0, p.1)
  inside_forth op x l (Deeper p e i) = let q = place_forth x p l e in let r = inside_forth op p q.1 i in (Deeper p q.0 r.0, r.1)

  pub within_forth : (op x : ℕ) → dead x ≡ false → IsWithin t op x → IsWithin t' op x × (dead op ≡ false)
  within_forth op x l (inl e) = (inl e, ap dead (sym e) ∙ l)
  within_forth op x l (inr i) = let r = inside_forth op x l i in (inr r.0, r.1)

  pub made_forth : (root : ℕ) (d : Option Def) → is_maker_dead dead dead_block d ≡ false → IsDefiningOperationInside t root d → IsDefiningOperationInside t' root d
  made_forth root None l i = i
  made_forth root (Some (Result k j)) l i = (inside_forth root k l i).0
  made_forth root (Some (Argument b j)) l i =
      let p = block_place_forth b i.0 l i.1 in
      (i.0, p.0, (within_forth root i.0 p.1 i.2).0)

  -- what makes a value that is left makes it in both trees
  pub made_same : (v : ℕ) → IsDefined t v → is_maker_dead dead dead_block (definition_of t v) ≡ false → definition_of t' v ≡ definition_of t v
  made_same v is l = let m = maker_is t v is in go m.0 m.1 m.2 (subst (λ d. is_maker_dead dead dead_block d ≡ false) m.1 l) ∙ sym m.1
    where
      go : (d : Def) → definition_of t v ≡ Some d → IsMadeBy t v (Some d) → is_maker_dead dead dead_block (Some d) ≡ false → definition_of t' v ≡ Some d
      go (Result k i) e m l = w'.joined.results k i v (ap (λ z. slice_get z.results i) (h.rows k l) ∙ m)
      go (Argument b i) e m l = w'.joined.arguments b i v (ap (λ z. slice_get z i) (h.arguments b l) ∙ m)

  -- what stands in the second tree stands in the first one at the same place
  module _ (g : AreAway t' dead dead_block) where
    -- what has something that the dead ones lack is left
    left_by : {A : Type 0} (f : ℕ → A) (none : A) → ((k : ℕ) → dead k ≡ true → f k ≡ none) → (k : ℕ) → (f k ≡ none → ⊥) → dead k ≡ false
    left_by f none away k never = go (dead k) refl
      where
        go : (b : Bool) → dead k ≡ b → dead k ≡ false
        go true d = absurd (never (away k d))
        go false d = d

    pub block_lives : (b r : ℕ) → block_parent_of t' b ≡ Some r → dead_block b ≡ false
    block_lives b r e = go (dead_block b) refl
      where
        go : (x : Bool) → dead_block b ≡ x → dead_block b ≡ false
        go true d = let f : None ≡ Some r = sym (g.blocks b d) ∙ e in absurd (cc)
        go false d = d

    pub user_lives : (k v : ℕ) → In v (operands_of t' k) → dead k ≡ false
    user_lives k v i = left_by (operands_of t') [] g.operands k (λ e. subst (In v) e i)

    pub jumper_lives : (k b : ℕ) → In b (successors_of t' k) → dead k ≡ false
    jumper_lives k b i = left_by (successors_of t') [] g.successors k (λ e. subst (In b) e i)

    pub holder_lives : (k r : ℕ) → In r (regions_of t' k) → dead k ≡ false
    holder_lives k r i = left_by (regions_of t') [] g.regions k (λ e. subst (In r) e i)

    pub held_lives : (k b : ℕ) → parent_of t' k ≡ Some b → dead k ≡ false
    held_lives k b i = left_by (parent_of t') None g.parents k (λ e. let f : None ≡ Some b = sym e ∙ i in absurd (cc))

    pub block_place_back : (b k : ℕ) → block_parent_operation_of t' b ≡ Some k → (block_parent_operation_of t b ≡ Some k) × (dead_block b ≡ false) × (dead k ≡ false)
    block_place_back b k e =
        let p = block_place_of t' w' b k e in
        let lb = block_lives b p.region p.in_region in
        let lk = holder_lives k p.region (in_slice (regions_of t' k) p.index p.region p.listed) in
        let f = ap (λ z. slice_get z.regions p.index) (sym (h.rows k lk)) ∙ p.listed in
        (block_held_at t b k (record { region = p.region; index = p.index; in_region = sym (h.block_parents b lb) ∙ p.in_region; slot = w.joined.regions k p.index p.region f; listed = f }), lb, lk)

    pub place_back : (x p : ℕ) → parent_operation_of t' x ≡ Some p → (parent_operation_of t x ≡ Some p) × (dead x ≡ false)
    place_back x p e =
        let q = place_of t' x p e in
        let lx = held_lives x q.block q.parent in
        let b = block_place_back q.block p (ap (λ o. up_from o (λ r. region_parent_of t' r)) q.in_region ∙ ap op_of_slot q.slot) in
        (ap (λ o. up_from o (λ z. block_parent_operation_of t z)) (sym (h.parents x lx) ∙ q.parent) ∙ b.0, lx)

    pub inside_back : (op x : ℕ) → IsInside t' op x → IsInside t op x
    inside_back op x (Directly e) = Directly (place_back x op e).0
    inside_back op x (Deeper p e i) = Deeper p (place_back x p e).0 (inside_back op p i)

    pub inside_lives : (op x : ℕ) → IsInside t' op x → dead x ≡ false
    inside_lives op x (Directly e) = (place_back x op e).1
    inside_lives op x (Deeper p e i) = (place_back x p e).1

    pub within_back : (op x : ℕ) → IsWithin t' op x → IsWithin t op x
    within_back op x (inl e) = inl e
    within_back op x (inr i) = inr (inside_back op x i)

    pub made_back : (root : ℕ) (d : Option Def) → IsDefiningOperationInside t' root d → IsDefiningOperationInside t root d
    made_back root None i = i
    made_back root (Some (Result k j)) i = inside_back root k i
    made_back root (Some (Argument b j)) i = (i.0, (block_place_back b i.0 i.1).0, within_back root i.0 i.2)

-- what is gone stands nowhere
module _ (t' : Tree) (dead dead_block : ℕ → Bool) (w' : IsTree t') (g : AreNotLive t' dead dead_block) where
  pub lives : (k : ℕ) → IsLive t' k → dead k ≡ false
  lives k l = go (dead k) refl
    where
      go : (b : Bool) → dead k ≡ b → dead k ≡ false
      go true d = absurd (true≢false (sym l ∙ ap is_some (g.operations k d)))
      go false d = d

  pub gone_away : AreAway t' dead dead_block
  gone_away = record {
    parents = λ k d. no_parent k (g.operations k d) (parent_of t' k) refl;
    operands = λ k d. (w'.joined.erased k (g.operations k d)).0;
    successors = λ k d. (w'.joined.erased k (g.operations k d)).1;
    regions = λ k d. ap (λ z. z.regions) (w'.joined.erased k (g.operations k d)).2;
    blocks = g.blocks;
  }
    where
      no_parent : (k : ℕ) → head_of t' k ≡ None → (o : Option ℕ) → parent_of t' k ≡ o → o ≡ None
      no_parent k e None f = refl
      no_parent k e (Some b) f = absurd (true≢false (sym (w'.joined.all_in_place k b f).0 ∙ ap is_some e))
