-- What stands around one operation, and what stands beside it.
use Rattle.std.proofs.Common.{◌≡◌, ◌⊎◌, ℕ, Some, slice_get, sym, ap, ◌∙◌, subst, inl, inr}
use Rattle.std.specs.List.{flat_map}
use Rattle.pliron_core.specs.Tree.{Tree, IsInside, IsInside.Directly, IsInside.Deeper, IsWithin, up_from, op_of_slot, regions_of, layout_of, body_of, region_parent_of, parent_operation_of}
use Rattle.pliron_core.specs.Invariant.{IsTree}
use Rattle.pliron_core.specs.Walks.{children, children_of_region}
use Rattle.pliron_core.specs.Changes.{IsInsideChange}
use Rattle.pliron_core.proofs.FlatLemmas.{flat_map-same, slice_get-In}
use Rattle.pliron_core.proofs.HoldingLemmas.{some_is, region_by, inside_up, within_inside}
use Rattle.pliron_core.proofs.InsideLemmas.{holder_row, sibling, sibling_block, sibling_region}

pub within_within : {t : Tree} {a b x : ℕ} → IsWithin t a b → IsWithin t b x → IsWithin t a x
within_within {t} {a} {b} {x} (inl e) i = subst (λ z. IsWithin t z x) e i
within_within (inr j) i = inr (within_inside j i)

-- of two operations around one thing, one is around the other
pub compare : {t : Tree} {a b x : ℕ} → IsWithin t a x → IsInside t b x → IsWithin t a b ⊎ IsInside t b a
compare {t} {a} {b} {x} (inl e) i = inr (subst (λ z. IsInside t b z) e i)
compare (inr (Directly e)) i = let y = inside_up i in let s = some_is (sym e ∙ y.1) in up s y.2
  where
    up : {t : Tree} {a b q : ℕ} → a ≡ q → IsWithin t b q → IsWithin t a b ⊎ IsInside t b a
    up {t} {a} {b} {q} s (inl e) = inl (inl (sym e ∙ sym s))
    up {t} {a} {b} {q} s (inr i) = inr (subst (λ z. IsInside t b z) (sym s) i)
compare {t} {a} {b} {x} (inr (Deeper q e j)) i = let y = inside_up i in let s = some_is (sym e ∙ y.1) in up (λ z. compare (inr j) z) (subst (λ z. IsWithin t b z) (sym s) y.2)
  where
    up : (IsInside t b q → IsWithin t a b ⊎ IsInside t b a) → IsWithin t b q → IsWithin t a b ⊎ IsInside t b a
    up ih (inl e) = inl (inr (subst (λ z. IsInside t a z) e j))
    up ih (inr i) = ih i

pub compare_within : {t : Tree} {a b x : ℕ} → IsWithin t a x → IsWithin t b x → IsWithin t a b ⊎ IsInside t b a
compare_within {t} {a} {b} {x} i (inl e) = inl (subst (λ z. IsWithin t a z) e i)
compare_within i (inr j) = compare i j

-- what op holds stays where it is when only the inside of b changes, which op holds
pub held_still : (t u : Tree) (op b : ℕ) → IsTree t → parent_operation_of t b ≡ Some op → IsInsideChange t u b → parent_operation_of u b ≡ Some op
held_still t u op b wt up h = (sibling t u op b wt.joined up h b up).1

-- and so does the list of it
pub children_kept : (t u : Tree) (op b : ℕ) → IsTree t → parent_operation_of t b ≡ Some op → IsInsideChange t u b → children u op ≡ children t op
children_kept t u op b w up h =
    ap (λ rs. flat_map (λ r. children_of_region u r) rs) rows ∙ flat_map-same (λ r. children_of_region u r) (λ r. children_of_region t r) (regions_of t op) (λ r i. region r (slice_get-In r (regions_of t op) i))
  where
    rows : regions_of u op ≡ regions_of t op
    rows = ap (λ z. z.regions) (holder_row t u op b w.joined up h)

    region : (r : ℕ) → (i : ℕ) × (slice_get (regions_of t op) i ≡ Some r) → children_of_region u r ≡ children_of_region t r
    region r at =
        let slot = w.joined.regions op at.0 r at.1 in
        let of_op : region_parent_of t r ≡ Some op = ap op_of_slot slot in
        let kept = sibling_region t u op b w.joined up h r (region_by t r (record { op = op; index = at.0 }) slot at.1) of_op in
        ap (λ bs. flat_map (λ c. body_of u c) bs) kept.2 ∙ flat_map-same (λ c. body_of u c) (λ c. body_of t c) (layout_of t r) (λ c j. (sibling_block t u op b w.joined up h c (ap (λ o. up_from o (λ r. region_parent_of t r)) (w.layouts.owned c r j) ∙ of_op)).2)
