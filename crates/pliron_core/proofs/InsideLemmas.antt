-- Changes inside an operation.
use Rattle.std.proofs.Common.{◌≡◌, ◌⊎◌, ℕ, length, Option, Some, None, IsSome, slice_get, refl, sym, ap, ◌∙◌, subst, inl, inr}
use Rattle.pliron_core.specs.declared.context.Def.{Def}
use Rattle.pliron_core.specs.declared.context.Def.TheVariants.{Result, Argument}
use Rattle.pliron_core.specs.Tree.{Tree, row_of, results_of, regions_of, operands_of, parent_of, body_of, arguments_of, layout_of, block_parent_of, definition_of, region_parent_of, block_parent_operation_of, parent_operation_of, up_from, op_of_slot, IsLive, IsBlock, IsRegion, IsMadeBy, IsInside, IsInside.Directly, IsInside.Deeper, IsWithin}
use Rattle.pliron_core.specs.Invariant.{IsJoined}
use Rattle.pliron_core.specs.Changes.{IsSameTree, IsDefiningOperationInside, IsDefinedInside, IsOutside, IsBlockOutside, IsRegionOutside, IsValueOutside, IsKeptOperation, IsKeptBlock, IsKeptRegion, IsInsideChange}
use Rattle.pliron_core.proofs.HoldingLemmas.{some_is, slot_is, region_by, maker_is, block_held, held_block, holder_live, region_live, result_live, argument_stands, region_parent_is, inside_up, deeper, holds_deeper, region_deeper, maker_deeper, inside_block, not_itself, outside_itself, made_inside_or, in_slice}
use Rattle.pliron_core.proofs.SameTreeLemmas.{same_sym, same_live, same_block, same_region, same_slot, same_value, same_definition, same_inside, same_holds, same_holds_region, same_made_inside}

pub inside_refl : (t : Tree) (op : ℕ) → IsInsideChange t t op
inside_refl t op = record {
  operations = λ x o. (o, record { row = refl; successors = refl; parent = refl; count = refl; operands = λ i v e out. e });
  blocks = λ b o. (o, record { arguments = refl; body = refl; parent = refl });
  regions = λ r o. (o, record { layout = refl; slot = refl });
  values = λ v o. (o, refl);
  no_new_operation = λ x o. o;
  no_new_block = λ b o. o;
}

pub inside_trans : (t u v : Tree) (op : ℕ) → IsInsideChange t u op → IsInsideChange u v op → IsInsideChange t v op
inside_trans t u v op h k = record {
  operations = λ x o.
      let a = h.operations x o in
      let b = k.operations x a.0 in (
        b.0,
        record {
          row = b.1.row ∙ a.1.row;
          successors = b.1.successors ∙ a.1.successors;
          parent = b.1.parent ∙ a.1.parent;
          count = b.1.count ∙ a.1.count;
          operands = λ i y e out. b.1.operands i y (a.1.operands i y e out) (h.values y out).0;
        },
      );
  blocks = λ x o.
      let a = h.blocks x o in
      let b = k.blocks x a.0 in
      (b.0, record { arguments = b.1.arguments ∙ a.1.arguments; body = b.1.body ∙ a.1.body; parent = b.1.parent ∙ a.1.parent });
  regions = λ x o.
      let a = h.regions x o in
      let b = k.regions x a.0 in
      (b.0, record { layout = b.1.layout ∙ a.1.layout; slot = b.1.slot ∙ a.1.slot });
  values = λ x o. let a = h.values x o in let b = k.values x a.0 in (b.0, b.1 ∙ a.1);
  no_new_operation = λ x o. h.no_new_operation x (k.no_new_operation x o);
  no_new_block = λ x o. h.no_new_block x (k.no_new_block x o);
}

-- the same tree is a change inside of any operation
pub same_change : (t u : Tree) (op : ℕ) → IsJoined t → IsJoined u → IsSameTree t u → IsInsideChange t u op
same_change t u op wt wu s = record {
  operations = λ x o. (
    ((same_live t u wt wu s x).0 o.0, λ i. o.1 ((same_inside t u wt wu s op x).1 i)),
    record { row = s.operations x; successors = s.successors x; parent = s.parents x; count = ap length (s.operands x); operands = λ i v e out. ap (λ z. slice_get z i) (s.operands x) ∙ e },
  );
  blocks = λ b o. (
    ((same_block t u wt wu s b).0 o.0, λ h. o.1 ((same_holds t u wt wu s op b).1 h)),
    record { arguments = s.arguments b; body = s.bodies b; parent = s.block_parents b },
  );
  regions = λ r o. (
    ((same_region t u wt wu s r).0 o.0, λ h. o.1 ((same_holds_region t u wt wu s op r o.0).1 h)),
    record { layout = s.layouts r; slot = same_slot t u wt wu s r o.0 },
  );
  values = λ v o. (
    ((same_value t u wt wu s v).0 o.0, λ h. o.1 ((same_made_inside t u wt wu s op v o.0).1 h)),
    same_definition t u wt wu s v o.0,
  );
  no_new_operation = λ x o. ((same_live t u wt wu s x).1 o.0, λ i. o.1 ((same_inside t u wt wu s op x).0 i));
  no_new_block = λ b o. ((same_block t u wt wu s b).1 o.0, λ h. o.1 ((same_holds t u wt wu s op b).0 h));
}

-- a change may begin and end with the same tree
pub change_of_same : (t t' u u' : Tree) (op : ℕ) → IsJoined t → IsJoined t' → IsJoined u → IsJoined u' → IsSameTree t t' → IsSameTree u u' → IsInsideChange t u op → IsInsideChange t' u' op
change_of_same t t' u u' op wt wt' wu wu' s z h =
    inside_trans t' t u' op (same_change t' t op wt' wt (same_sym t t' s)) (inside_trans t u u' op h (same_change u u' op wu wu' z))

-- what stands outside op is as before
pub record AreKeptOutside (t u : Tree) (op : ℕ) : Type 0 where
  pub operations : (x : ℕ) → IsOutside t op x → IsKeptOperation t u op x
  pub blocks : (b : ℕ) → IsBlockOutside t op b → IsKeptBlock t u b
  pub regions : (r : ℕ) → IsRegionOutside t op r → IsKeptRegion t u r
  pub values : (v : ℕ) → IsValueOutside t op v → definition_of u v ≡ definition_of t v

pub kept_of : (t u : Tree) (op : ℕ) → IsInsideChange t u op → AreKeptOutside t u op
kept_of t u op h = record {
  operations = λ x o. (h.operations x o).1;
  blocks = λ b o. (h.blocks b o).1;
  regions = λ r o. (h.regions r o).1;
  values = λ v o. (h.values v o).1;
}

-- the way up from what is outside stays outside
module _ (t : Tree) (op : ℕ) (w : IsJoined t) where
  pub parent_outside : (x b : ℕ) → IsOutside t op x → parent_of t x ≡ Some b → IsBlockOutside t op b
  parent_outside x b o e = ((w.all_in_place x b e).1, λ h. o.1 (inside_block b e h))

  pub holder_outside : (x p : ℕ) → IsOutside t op x → parent_operation_of t x ≡ Some p → IsOutside t op p
  holder_outside x p o e = ((holder_live t x p w e).1, λ i. o.1 (Deeper p e i))

  pub block_region_outside : (b r : ℕ) → IsBlockOutside t op b → block_parent_of t b ≡ Some r → IsRegionOutside t op r
  block_region_outside b r o e = (w.placed b r e, λ h. o.1 (h.0, ap (λ o. up_from o (λ r. region_parent_of t r)) e ∙ h.1, h.2))

  pub block_holder_outside : (b k : ℕ) → IsBlockOutside t op b → block_parent_operation_of t b ≡ Some k → IsOutside t op k
  block_holder_outside b k o e =
      let h = block_held t b w o.0 in
      (subst (IsLive t) (some_is (sym h.5 ∙ e)) h.6, λ i. o.1 (k, e, inr i))

  pub region_holder_outside : (r k i : ℕ) → IsRegionOutside t op r → region_parent_of t r ≡ Some k → slice_get (regions_of t k) i ≡ Some r → IsOutside t op k
  region_holder_outside r k i o e l = (region_live t w k i r l, λ j. o.1 (k, e, inr j))

  pub result_outside : (v k i : ℕ) → IsValueOutside t op v → definition_of t v ≡ Some (Result k i) → slice_get (results_of t k) i ≡ Some v → IsOutside t op k
  result_outside v k i o e l = (result_live t w k i v l, λ j. o.1 (subst (IsDefiningOperationInside t op) (sym e) j))

  pub argument_outside : (v b i : ℕ) → IsValueOutside t op v → definition_of t v ≡ Some (Argument b i) → slice_get (arguments_of t b) i ≡ Some v → IsBlockOutside t op b
  argument_outside v b i o e l = (argument_stands t w b i v l, λ h. o.1 (subst (IsDefiningOperationInside t op) (sym e) h))

-- so it is enough that rows are kept
module _ (t u : Tree) (op : ℕ) (w : IsJoined t) (k : AreKeptOutside t u op) where
  pub region_parent_kept : (r : ℕ) → IsRegionOutside t op r → region_parent_of u r ≡ region_parent_of t r
  region_parent_kept r o = ap op_of_slot (k.regions r o).slot

  pub block_holder_kept : (b : ℕ) → IsBlockOutside t op b → block_parent_operation_of u b ≡ block_parent_operation_of t b
  block_holder_kept b o = ap (λ z. up_from z (λ r. region_parent_of u r)) (k.blocks b o).parent ∙ go (block_parent_of t b) refl
    where
      go : (z : Option ℕ) → block_parent_of t b ≡ z → up_from z (λ r. region_parent_of u r) ≡ up_from z (λ r. region_parent_of t r)
      go None e = refl
      go (Some r) e = region_parent_kept r (block_region_outside t op w b r o e)

  pub holder_kept : (x : ℕ) → IsOutside t op x → parent_operation_of u x ≡ parent_operation_of t x
  holder_kept x o = ap (λ z. up_from z (λ b. block_parent_operation_of u b)) (k.operations x o).parent ∙ go (parent_of t x) refl
    where
      go : (z : Option ℕ) → parent_of t x ≡ z → up_from z (λ b. block_parent_operation_of u b) ≡ up_from z (λ b. block_parent_operation_of t b)
      go None e = refl
      go (Some b) e = block_holder_kept b (parent_outside t op w x b o e)

  still_outside : (x : ℕ) → IsOutside t op x → IsInside u op x → ⊥
  still_outside x o (Directly e) = o.1 (Directly (sym (holder_kept x o) ∙ e))
  still_outside x o (Deeper p e i) = still_outside p (holder_outside t op w x p o (sym (holder_kept x o) ∙ e)) i

  kept_outside : (x : ℕ) → IsOutside t op x → IsOutside u op x
  kept_outside x o = (subst (λ z. IsSome z.head) (sym (k.operations x o).row) o.0, still_outside x o)

  block_outside : (b : ℕ) → IsBlockOutside t op b → IsBlockOutside u op b
  block_outside b o = (subst IsSome (sym (k.blocks b o).parent) o.0, λ h. go h.0 (sym (block_holder_kept b o) ∙ h.1) h.2)
    where
      go : (p : ℕ) → block_parent_operation_of t b ≡ Some p → IsWithin u op p → ⊥
      go p e (inl s) = o.1 (p, e, inl s)
      go p e (inr i) = still_outside p (block_holder_outside t op w b p o e) i

  region_outside : (r : ℕ) → IsRegionOutside t op r → IsRegionOutside u op r
  region_outside r o =
      let s = slot_is t r o.0 in
      let up = region_parent_is t r s.0 s.1 in
      let out = region_holder_outside t op w r s.0.op s.0.index o up s.2 in (
        region_by u r s.0 ((k.regions r o).slot ∙ s.1) (ap (λ z. slice_get z.regions s.0.index) (k.operations s.0.op out).row ∙ s.2),
        λ h. go s.0.op up out (subst (IsWithin u op) (some_is (sym h.1 ∙ region_parent_kept r o ∙ up)) h.2),
      )
    where
      go : (p : ℕ) → region_parent_of t r ≡ Some p → IsOutside t op p → IsWithin u op p → ⊥
      go p e out (inl s) = o.1 (p, e, inl s)
      go p e out (inr i) = still_outside p out i

  value_outside : (v : ℕ) → IsValueOutside t op v → IsValueOutside u op v
  value_outside v o =
      let m = maker_is t v o.0 in
      let now = k.values v o ∙ m.1 in
      let g = go m.0 m.1 m.2 in
      (subst (IsMadeBy u v) (sym now) g.0, λ h. g.1 (subst (IsDefiningOperationInside u op) now h))
    where
      go : (d : Def) → definition_of t v ≡ Some d → IsMadeBy t v (Some d) → IsMadeBy u v (Some d) × (IsDefiningOperationInside u op (Some d) → ⊥)
      go (Result x i) e l =
          let out = result_outside t op w v x i o e l in
          (ap (λ z. slice_get z.results i) (k.operations x out).row ∙ l, λ j. still_outside x out j)
      go (Argument b i) e l =
          let out = argument_outside t op w v b i o e l in
          (ap (λ z. slice_get z i) (k.blocks b out).arguments ∙ l, λ h. (block_outside b out).1 h)

  -- a change keeps to op if what stands outside has its rows, and nothing new stands there
  pub change_of_kept : ((x : ℕ) → IsOutside u op x → IsOutside t op x) → ((b : ℕ) → IsBlockOutside u op b → IsBlockOutside t op b) → IsInsideChange t u op
  change_of_kept no_new_operation no_new_block = record {
    operations = λ x o. (kept_outside x o, k.operations x o);
    blocks = λ b o. (block_outside b o, k.blocks b o);
    regions = λ r o. (region_outside r o, k.regions r o);
    values = λ v o. (value_outside v o, k.values v o);
    no_new_operation = no_new_operation;
    no_new_block = no_new_block;
  }

  -- the way up to what holds op is as it was
  pub up_kept : (a x : ℕ) → IsOutside t op x → IsInside t a x → IsInside u a x
  up_kept a x o (Directly e) = Directly (holder_kept x o ∙ e)
  up_kept a x o (Deeper p e i) = Deeper p (holder_kept x o ∙ e) (up_kept a p (holder_outside t op w x p o e) i)

-- what changes only inside of an operation that op holds changes only inside of op
pub widen : (t u : Tree) (op b : ℕ) → IsJoined t → IsInside t op b → IsInsideChange t u b → IsInsideChange t u op
widen t u op b w held h = change_of_kept t u op w kept no_new_operation no_new_block
  where
    old : AreKeptOutside t u b
    old = kept_of t u b h

    live : IsLive t b
    live = let up = inside_up held in (holder_live t b up.0 w up.1).0

    held' : IsInside u op b
    held' = up_kept t u b w old op b (outside_itself w.rooted live) held

    outside : (x : ℕ) → IsOutside t op x → IsOutside t b x
    outside x o = (o.0, λ i. o.1 (deeper held i))

    kept : AreKeptOutside t u op
    kept = record {
      operations = λ x o.
          let a = old.operations x (outside x o) in
          record { row = a.row; successors = a.successors; parent = a.parent; count = a.count; operands = λ i v e out. a.operands i v e (out.0, λ m. out.1 (maker_deeper held (definition_of t v) m)) };
      blocks = λ c o. old.blocks c (o.0, λ m. o.1 (holds_deeper held c m));
      regions = λ r o. old.regions r (o.0, λ m. o.1 (region_deeper held r m));
      values = λ v o. old.values v (o.0, λ m. o.1 (maker_deeper held (definition_of t v) m));
    }

    no_new_operation : (x : ℕ) → IsOutside u op x → IsOutside t op x
    no_new_operation x o =
        let a = h.no_new_operation x (o.0, λ i. o.1 (deeper held' i)) in
        (a.0, λ i. o.1 (up_kept t u b w old op x a i))

    within : (p : ℕ) → IsOutside t b p → IsWithin t op p → IsWithin u op p
    within p o (inl s) = inl s
    within p o (inr i) = inr (up_kept t u b w old op p o i)

    no_new_block : (c : ℕ) → IsBlockOutside u op c → IsBlockOutside t op c
    no_new_block c o =
        let a = h.no_new_block c (o.0, λ m. o.1 (holds_deeper held' c m)) in
        (a.0, λ m. o.1 (m.0, block_holder_kept t u b w old c a ∙ m.1, within m.0 (block_holder_outside t b w c m.0 a m.1) m.2))

-- what is not inside of b, where op holds b: op, and what op holds beside b, b itself too
module _ (t : Tree) (op b : ℕ) (w : IsJoined t) (up : parent_operation_of t b ≡ Some op) where
  not_within : IsWithin t b op → ⊥
  not_within (inl s) = not_itself {t = t} w.rooted (Directly (up ∙ ap Some s))
  not_within (inr i) = not_itself {t = t} w.rooted (deeper i (Directly up))

  pub holder_is_outside : IsOutside t b op
  holder_is_outside = ((holder_live t b op w up).1, λ i. not_within (inr i))

  pub sibling_outside : (x : ℕ) → parent_operation_of t x ≡ Some op → IsOutside t b x
  sibling_outside x e = (
    (holder_live t x op w e).0,
    λ i. let p = inside_up i in not_within (subst (IsWithin t b) (some_is (sym p.1 ∙ e)) p.2),
  )

  pub sibling_block_outside : (c : ℕ) → block_parent_operation_of t c ≡ Some op → IsBlockOutside t b c
  sibling_block_outside c e = (held_block t c op e, λ h. not_within (subst (IsWithin t b) (some_is (sym h.1 ∙ e)) h.2))

  pub sibling_region_outside : (r : ℕ) → IsRegion t r → region_parent_of t r ≡ Some op → IsRegionOutside t b r
  sibling_region_outside r is e = (is, λ h. not_within (subst (IsWithin t b) (some_is (sym h.1 ∙ e)) h.2))

-- what op holds keeps its place where only the inside of one of op's operations changes
module _ (t u : Tree) (op b : ℕ) (w : IsJoined t) (up : parent_operation_of t b ≡ Some op) (h : IsInsideChange t u b) where
  pub holder_stands : IsLive u op
  holder_stands = (h.operations op (holder_is_outside t op b w up)).0.0

  pub holder_row : row_of u op ≡ row_of t op
  holder_row = (h.operations op (holder_is_outside t op b w up)).1.row

  pub sibling : (x : ℕ) → parent_operation_of t x ≡ Some op → IsLive u x × (parent_operation_of u x ≡ Some op) × (parent_of u x ≡ parent_of t x)
  sibling x e =
      let o = sibling_outside t op b w up x e in
      let a = h.operations x o in
      (a.0.0, holder_kept t u b w (kept_of t u b h) x o ∙ e, a.1.parent)

  pub sibling_block : (c : ℕ) → block_parent_operation_of t c ≡ Some op → IsBlock u c × (block_parent_operation_of u c ≡ Some op) × (body_of u c ≡ body_of t c)
  sibling_block c e =
      let o = sibling_block_outside t op b w up c e in
      let a = h.blocks c o in
      (a.0.0, block_holder_kept t u b w (kept_of t u b h) c o ∙ e, a.1.body)

  pub sibling_region : (r : ℕ) → IsRegion t r → region_parent_of t r ≡ Some op → IsRegion u r × (region_parent_of u r ≡ Some op) × (layout_of u r ≡ layout_of t r)
  sibling_region r is e =
      let o = sibling_region_outside t op b w up r is e in
      let a = h.regions r o in
      (a.0.0, ap op_of_slot a.1.slot ∙ e, a.1.layout)

-- op itself stands after a change inside it, with its own row
pub itself_stands : (t u : Tree) (op : ℕ) → IsJoined t → IsLive t op → IsInsideChange t u op → IsLive u op × (row_of u op ≡ row_of t op)
itself_stands t u op w live h = let a = h.operations op (outside_itself w.rooted live) in (a.0.0, a.1.row)

-- what holds op, at any depth, stands too
pub above_stands : (t u : Tree) (a op : ℕ) → IsJoined t → IsInside t a op → IsInsideChange t u op → IsLive u a × (row_of u a ≡ row_of t a)
above_stands t u a op w i h =
    let k = h.operations a (live w i, λ j. not_itself {t = t} w.rooted (deeper i j)) in
    (k.0.0, k.1.row)
  where
    live : {x : ℕ} → IsJoined t → IsInside t a x → IsLive t a
    live {x} w (Directly e) = (holder_live t x a w e).1
    live {x} w (Deeper p e i) = live w i

-- an operand outside op is as before, or the one before was defined inside op
pub operand_kept : (t u : Tree) (op x i v : ℕ) → IsJoined t → IsInsideChange t u op → IsOutside t op x → slice_get (operands_of t x) i ≡ Some v → (slice_get (operands_of u x) i ≡ Some v) ⊎ IsDefinedInside t op v
operand_kept t u op x i v w h o e = go (made_inside_or t op v w.rooted)
  where
    go : IsDefinedInside t op v ⊎ (IsDefinedInside t op v → ⊥) → (slice_get (operands_of u x) i ≡ Some v) ⊎ IsDefinedInside t op v
    go (inl m) = inr m
    go (inr free) = inl ((h.operations x o).1.operands i v e (w.operands x v (in_slice (operands_of t x) i v e), free))
