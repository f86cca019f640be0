-- The operations inside an operation.
use Rattle.std.proofs.Common.{◌≡◌, ◌≢◌, ◌⊎◌, ◌↔◌, ℕ, ◌<◌, ◌≤◌, length, Option, Some, None, false, refl, sym, ap, ◌∙◌, subst, inl, inr, arith}
use Rattle.std.specs.List.{flat_map, slice_get}
use Rattle.std.specs.Option.{IsSome, is_some}
use Rattle.std.proofs.lemmas.List.{get_or_past}
use Rattle.pliron_core.specs.declared.context.RegionSlot.{RegionSlot}
use Rattle.pliron_core.specs.Lists.{In, IsDistinct}
use Rattle.pliron_core.specs.Tree.{Tree, IsLive, IsListedBy, IsInside, IsWithin, up_from, op_of_slot, no_entry, head_of, regions_of, parent_of, body_of, block_parent_of, layout_of, slot_of, region_parent_of, block_parent_operation_of, parent_operation_of}
use Rattle.pliron_core.specs.Tree.IsInside.{Directly, Deeper}
use Rattle.pliron_core.specs.Invariant.{IsTree}
use Rattle.pliron_core.specs.Walks.{children_of_region, children, contents, preorder, HasExactContents}
use Rattle.pliron_core.proofs.ListLemmas.{decide_in}
use Rattle.pliron_core.proofs.FlatLemmas.{In-flat_map, flat_map-In, distinct-flat_map, flat_map-same, In-slice_get, slice_get-In, distinct-indices}
use Rattle.pliron_core.proofs.ForestLemmas as forest
use Rattle.pliron_core.proofs.ForestLemmas.{IsBelow, IsAtOrBelow, IsForest}
use Rattle.pliron_core.proofs.ForestLemmas.IsBelow.{Held, Over}

-- where an operation stands that another holds
pub record HasPlace (t : Tree) (x k : ℕ) : Type 0 where
  pub block : ℕ
  pub region : ℕ
  pub index : ℕ
  pub parent : parent_of t x ≡ Some block
  pub in_region : block_parent_of t block ≡ Some region
  pub slot : slot_of t region ≡ Some (record { op = k; index = index })

pub place_of : (t : Tree) (x k : ℕ) → parent_operation_of t x ≡ Some k → HasPlace t x k
place_of t x k e = op (parent_of t x) refl e
  where
    region : (b r : ℕ) → parent_of t x ≡ Some b → block_parent_of t b ≡ Some r → (o : Option RegionSlot) → slot_of t r ≡ o → op_of_slot o ≡ Some k → HasPlace t x k
    region b r p q None s f = absurd (cc)
    region b r p q (Some slot) s f =
        let g : slot.op ≡ k = cc in
        record { block = b; region = r; index = slot.index; parent = p; in_region = q; slot = s ∙ ap (λ z. Some (record { op = z; index = slot.index })) g }

    block : (b : ℕ) → parent_of t x ≡ Some b → (o : Option ℕ) → block_parent_of t b ≡ o → up_from o (λ r. region_parent_of t r) ≡ Some k → HasPlace t x k
    block b p None q f = absurd (cc)
    block b p (Some r) q f = region b r p q (slot_of t r) refl f

    op : (o : Option ℕ) → parent_of t x ≡ o → up_from o (λ b. block_parent_operation_of t b) ≡ Some k → HasPlace t x k
    op None p f = absurd (cc)
    op (Some b) p f = block b p (block_parent_of t b) refl f

pub held_at : (t : Tree) (x k : ℕ) → HasPlace t x k → parent_operation_of t x ≡ Some k
held_at t x k p =
    ap (λ o. up_from o (λ b. block_parent_operation_of t b)) p.parent ∙ ap (λ o. up_from o (λ r. region_parent_of t r)) p.in_region ∙ ap op_of_slot p.slot

some_is : {a b : ℕ} → Some a ≡ Some b → a ≡ b
some_is e = cc

slot_index : {a b : RegionSlot} → Some a ≡ Some b → a.index ≡ b.index
slot_index {a} {b} e = let s : a ≡ b = cc in ap (λ z. z.index) s

not_none : {A : Type 0} (o : Option A) → (o ≡ None → ⊥) → IsSome o
not_none None out = absurd (out refl)
not_none (Some x) out = refl

pub below_of : (t : Tree) (op x : ℕ) → IsInside t op x → IsBelow (λ k. parent_operation_of t k) op x
below_of t op x (Directly e) = Held e
below_of t op x (Deeper p e u) = Over p e (below_of t op p u)

pub inside_of : (t : Tree) (op x : ℕ) → IsBelow (λ k. parent_operation_of t k) op x → IsInside t op x
inside_of t op x (Held e) = Directly e
inside_of t op x (Over p e u) = Deeper p e (inside_of t op p u)

pub within_of : (t : Tree) (op x : ℕ) → IsAtOrBelow (λ k. parent_operation_of t k) op x → IsWithin t op x
within_of t op x (inl e) = inl e
within_of t op x (inr u) = inr (inside_of t op x u)

pub at_or_below_of : (t : Tree) (op x : ℕ) → IsWithin t op x → IsAtOrBelow (λ k. parent_operation_of t k) op x
at_or_below_of t op x (inl e) = inl e
at_or_below_of t op x (inr u) = inr (below_of t op x u)

-- inside what is inside
pub inside_trans : (t : Tree) (a b x : ℕ) → IsInside t a b → IsInside t b x → IsInside t a x
inside_trans t a b x u (Directly e) = Deeper b e u
inside_trans t a b x u (Deeper p e v) = Deeper p e (inside_trans t a b p u v)

pub inside_within : (t : Tree) (a b x : ℕ) → IsWithin t a b → IsInside t b x → IsInside t a x
inside_within t a b x (inl e) u = subst (λ z. IsInside t z x) e u
inside_within t a b x (inr v) u = inside_trans t a b x v u

-- one step up from what is inside
pub inside_step : (t : Tree) (op x : ℕ) → IsInside t op x → (p : ℕ) × (parent_operation_of t x ≡ Some p) × IsWithin t op p
inside_step t op x (Directly e) = (op, e, inl refl)
inside_step t op x (Deeper p e u) = (p, e, inr u)

pub inside_from : (t : Tree) (op x p : ℕ) → parent_operation_of t x ≡ Some p → IsWithin t op p → IsInside t op x
inside_from t op x p e (inl s) = Directly (e ∙ ap Some s)
inside_from t op x p e (inr u) = Deeper p e u

pub inside_up : (t : Tree) (op x : ℕ) → IsWithin t op x → x ≢ op → (p : ℕ) × (parent_operation_of t x ≡ Some p) × IsWithin t op p
inside_up t op x (inl e) ne = absurd (ne e)
inside_up t op x (inr u) ne = inside_step t op x u

-- one step down to what is inside
pub inside_first : (t : Tree) (op x : ℕ) → IsInside t op x → (c : ℕ) × (parent_operation_of t c ≡ Some op) × IsWithin t c x
inside_first t op x (Directly e) = (x, e, inl refl)
inside_first t op x (Deeper p e u) = let r = inside_first t op p u in (r.0, r.1, inr (inside_from t r.0 x p e r.2))

module _ (t : Tree) (w : IsTree t) where
  -- the region of an operation's place is listed by the parent operation
  pub place_listed : (x k : ℕ) (p : HasPlace t x k) → slice_get (regions_of t k) p.index ≡ Some p.region
  place_listed x k p = subst (IsListedBy t p.region) p.slot (w.joined.placed p.block p.region p.in_region)

  -- what has a region is live
  pub regions_live : (k i r : ℕ) → slice_get (regions_of t k) i ≡ Some r → IsLive t k
  regions_live k i r e =
      not_none (head_of t k) (λ none. let deleted : slice_get (regions_of t k) i ≡ None = ap (λ z. slice_get z.regions i) (w.joined.erased k none).2 in absurd (cc))

  pub live_within : (k : ℕ) → IsLive t k → k < length t.operations
  live_within k live =
      elim (cases k) [
        | inl lt ↦ lt
        | inr le ↦ let none : is_some (head_of t k) ≡ false = ap (λ z. is_some z.head) (get_or_past t.operations k no_entry le) in absurd (cc)
      ]
    where
      cases : (k : ℕ) → (k < length t.operations) ⊎ (length t.operations ≤ k)
      cases k = grind arith

  pub held_live : (x k : ℕ) → parent_operation_of t x ≡ Some k → IsLive t x
  held_live x k e = let p = place_of t x k e in (w.joined.all_in_place x p.block p.parent).0

  pub holder_live : (x k : ℕ) → parent_operation_of t x ≡ Some k → IsLive t k
  holder_live x k e = let p = place_of t x k e in regions_live k p.index p.region (place_listed x k p)

  -- a child is held, and what is held is a child
  pub children-holder : (c op : ℕ) → In c (children t op) → parent_operation_of t c ≡ Some op
  children-holder c op i =
      let r = flat_map-In (λ r. children_of_region t r) (regions_of t op) c i in
      let b = flat_map-In (λ b. body_of t b) (layout_of t r.0) c r.2 in
      let s = slice_get-In r.0 (regions_of t op) r.1 in
      held_at t c op (record {
        block = b.0;
        region = r.0;
        index = s.0;
        parent = w.bodies.owned c b.0 b.2;
        in_region = w.layouts.owned b.0 r.0 b.1;
        slot = w.joined.regions op s.0 r.0 s.1;
      })

  pub holder-children : (c op : ℕ) → parent_operation_of t c ≡ Some op → In c (children t op)
  holder-children c op e =
      let p = place_of t c op e in
      In-flat_map (λ r. children_of_region t r) (regions_of t op) p.region c (In-slice_get (regions_of t op) p.index p.region (place_listed c op p)) (In-flat_map (λ b. body_of t b) (layout_of t p.region) p.block c (w.layouts.listed p.block p.region p.in_region) (w.bodies.listed c p.block p.parent))

  pub In-children : (c op : ℕ) → In c (children t op) ↔ (parent_operation_of t c ≡ Some op)
  In-children c op = (children-holder c op, holder-children c op)

  pub distinct-regions : (op : ℕ) → IsDistinct (regions_of t op)
  distinct-regions op =
      distinct-indices (regions_of t op) (λ i j r e f. slot_index (sym (w.joined.regions op i r e) ∙ w.joined.regions op j r f))

  pub distinct-region : (r : ℕ) → IsDistinct (children_of_region t r)
  distinct-region r =
      distinct-flat_map (λ b. body_of t b) (layout_of t r) (w.layouts.distinct r) (λ b i. w.bodies.distinct b) (λ b c z i j a d. some_is (sym (w.bodies.owned z b a) ∙ w.bodies.owned z c d))

  pub distinct-children : (op : ℕ) → IsDistinct (children t op)
  distinct-children op =
      distinct-flat_map (λ r. children_of_region t r) (regions_of t op) (distinct-regions op) (λ r i. distinct-region r) (λ r s z i j a d.
      let b = flat_map-In (λ b. body_of t b) (layout_of t r) z a in
      let c = flat_map-In (λ b. body_of t b) (layout_of t s) z d in
      let same : b.0 ≡ c.0 = some_is (sym (w.bodies.owned z b.0 b.2) ∙ w.bodies.owned z c.0 c.2) in
      some_is (sym (w.layouts.owned b.0 r b.1) ∙ ap (λ k. block_parent_of t k) same ∙ w.layouts.owned c.0 s c.1))

  pub forest_of : IsForest (λ x. parent_operation_of t x) (λ k. children t k) (length t.operations)
  forest_of = record {
    listed = holder-children;
    held = children-holder;
    distinct = distinct-children;
    rooted = w.joined.rooted;
    within = λ x k e. live_within x (held_live x k e);
  }

  pub not_inside-itself : (x : ℕ) → IsInside t x x → ⊥
  not_inside-itself x u = forest.no_loop _ _ _ forest_of x (below_of t x x u)

  -- what is inside is live, and so is what it is inside of
  pub inside_live : (op x : ℕ) → IsInside t op x → IsLive t x
  inside_live op x u = let s = inside_step t op x u in held_live x s.0 s.1

  pub inside_live-outer : (op x : ℕ) → IsInside t op x → IsLive t op
  inside_live-outer op x u = let s = inside_first t op x u in holder_live s.0 op s.1

  pub within_live : (op x : ℕ) → IsLive t op → IsWithin t op x → IsLive t x
  within_live op x live (inl e) = subst (IsLive t) (sym e) live
  within_live op x live (inr u) = inside_live op x u

  -- of two that x stands inside, one is inside the other
  pub inside_linear : (a b x : ℕ) → IsInside t a x → IsWithin t b x → IsWithin t a b ⊎ IsWithin t b a
  inside_linear a b x u v =
      elim (forest.below_linear (λ k. parent_operation_of t k) a b x (below_of t a x u) (at_or_below_of t b x v)) [ inl i ↦ inl (within_of t a b i) | inr j ↦ inr (within_of t b a j) ]

  -- two children have nothing in common
  pub children_apart : (c d op x : ℕ) → parent_operation_of t c ≡ Some op → parent_operation_of t d ≡ Some op → IsWithin t c x → IsWithin t d x → c ≡ d
  children_apart c d op x e f u v =
      forest.siblings_apart _ _ _ forest_of c d op x e f (at_or_below_of t c x u) (at_or_below_of t d x v)

  -- the contents are exactly the operations inside, each once
  pub contents-inside : (op k : ℕ) → In k (contents t op) → IsInside t op k
  contents-inside op k i = inside_of t op k (forest.descend-below _ _ _ forest_of (length t.operations) op k i)

  pub inside-contents : (op k : ℕ) → IsInside t op k → In k (contents t op)
  inside-contents op k u = forest.descend-has _ _ _ forest_of op k (below_of t op k u)

  pub In-contents : (op k : ℕ) → In k (contents t op) ↔ IsInside t op k
  In-contents op k = (contents-inside op k, inside-contents op k)

  pub distinct-contents : (op : ℕ) → IsDistinct (contents t op)
  distinct-contents op = forest.distinct-descend _ _ _ forest_of (length t.operations) op

  pub In-preorder : (op k : ℕ) → In k (preorder t op) ↔ IsWithin t op k
  In-preorder op k = (
    λ i. elim i [ inl e ↦ inl e | inr j ↦ inr (contents-inside op k j) ],
    λ u. elim u [ inl e ↦ inl e | inr v ↦ inr (inside-contents op k v) ],
  )

  pub distinct-preorder : (op : ℕ) → IsDistinct (preorder t op)
  distinct-preorder op = (λ i. not_inside-itself op (contents-inside op op i), distinct-contents op)

  -- each child is followed by its own contents, to any depth
  pub contents-children : (op : ℕ) → contents t op ≡ flat_map (λ c. preorder t c) (children t op)
  contents-children op = forest.descend-children _ _ _ forest_of op

  pub length-contents : (op : ℕ) → length (contents t op) ≤ length t.operations
  length-contents op = forest.descend-within _ _ _ forest_of op

  pub contents-shorter : (x op : ℕ) → parent_operation_of t x ≡ Some op → length (contents t x) < length (contents t op)
  contents-shorter x op e = forest.descend-shorter _ _ _ forest_of x op e

  pub decide_inside : (op x : ℕ) → IsInside t op x ⊎ (IsInside t op x → ⊥)
  decide_inside op x =
      elim (decide_in x (contents t op)) [ inl i ↦ inl (contents-inside op x i) | inr out ↦ inr (λ u. out (inside-contents op x u)) ]

  pub exact_contents : (op : ℕ) → HasExactContents t op
  exact_contents op =
      record { direct = λ k. In-children k op; exact = λ k. In-contents op k; once = distinct-preorder op; nested = contents-children op }

-- the same regions, layouts and bodies give the same children
pub children-same : (t u : Tree) (op : ℕ) → regions_of u op ≡ regions_of t op → ((r : ℕ) → layout_of u r ≡ layout_of t r) → ((b : ℕ) → body_of u b ≡ body_of t b) → children u op ≡ children t op
children-same t u op regions layouts bodies =
    ap (flat_map (λ r. children_of_region u r)) regions ∙ flat_map-same (λ r. children_of_region u r) (λ r. children_of_region t r) (regions_of t op) (λ r i. ap (flat_map (λ b. body_of u b)) (layouts r) ∙ flat_map-same (λ b. body_of u b) (λ b. body_of t b) (layout_of t r) (λ b j. bodies b))

-- the same children, at op and at all that is inside it, give the same contents
pub contents-same : (t u : Tree) → IsTree t → IsTree u → (op : ℕ) → ((k : ℕ) → IsWithin t op k → children u k ≡ children t k) → contents u op ≡ contents t op
contents-same t u w v op same =
    forest.descend-alike (λ x. parent_operation_of t x) (λ k. children t k) (length t.operations) (forest_of t w) (λ k. children u k) (length t.operations) (length u.operations) op (forest.shallow _ _ _ (forest_of t w) op) (forest.shallow _ _ _ (forest_of u v) op) (λ k i. same k (within_of t op k i))
