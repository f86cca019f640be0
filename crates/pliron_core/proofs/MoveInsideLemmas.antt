-- Operations that move to a block inside an operation.
use Rattle.std.proofs.Common.{◌≡◌, ◌≢◌, ◌⊎◌, ℕ, ◌<◌, ◌≤◌, List, [], ◌∷◌, ◌++◌, length, Some, None, slice_set, refl, sym, ap, ◌∙◌, subst, inl, inr, arith, length-set}
use Rattle.std.proofs.lemmas.Bool.{cases_eq}
use Rattle.std.proofs.lemmas.List.{get_or-set_other, get_or-set_same, get_or_past}
use Rattle.pliron_core.specs.Lists.{without, put_before}
use Rattle.pliron_core.specs.Tree.{Tree, up_from, parent_of, body_of, block_parent_operation_of, parent_operation_of, IsInside, IsInside.Directly, IsInside.Deeper, IsWithin, HoldsBlock}
use Rattle.pliron_core.specs.Invariant.{IsTree}
use Rattle.pliron_core.specs.Writes.{after_placing, put_first, put_next_to, taken_from, taken_out, moved_last}
use Rattle.pliron_core.specs.Changes.{IsInsideChange}
use Rattle.pliron_core.proofs.HoldingLemmas.{not_none, holder_is, holder_by, inside_by, inside_up, block_inside}
use Rattle.pliron_core.proofs.InsideLemmas.{AreKeptOutside, change_of_kept}
use Rattle.pliron_core.proofs.WriteInsideLemmas.{same_block, same_operation}

cases_lt : (k n : ℕ) → (k < n) ⊎ (n ≤ k)
cases_lt k n = grind arith

past_parent : (t : Tree) (k b : ℕ) → parent_of t k ≡ Some b → k < length t.parents
past_parent t k b e = go (cases_lt k (length t.parents))
  where
    go : (k < length t.parents) ⊎ (length t.parents ≤ k) → k < length t.parents
    go (inl h) = h
    go (inr h) = absurd (not_none (sym (get_or_past t.parents k None h) ∙ e))

-- an operation inside op, which comes into another block that op holds
module _ (t : Tree) (op x from block : ℕ) (body : List ℕ) (w : IsTree t) (there : parent_of t x ≡ Some from) (i : IsInside t op x) (held : HoldsBlock t op block) (free : HoldsBlock t x block → ⊥) where
  abbrev pub with_moved : Tree
  with_moved = after_placing (taken_from t x (Some from)) x block body

  moved_parent : parent_of with_moved x ≡ Some block
  moved_parent = get_or-set_same (slice_set t.parents x None) x (Some block) None (omega (arith, past_parent t x from there, length-set t.parents x None))

  moved_same : (y : ℕ) → y ≢ x → parent_of with_moved y ≡ parent_of t y
  moved_same y ne = get_or-set_other (slice_set t.parents x None) x y (Some block) None ne ∙ get_or-set_other t.parents x y None None ne

  moved_holder : (y p : ℕ) → y ≢ x → parent_operation_of t y ≡ Some p → parent_operation_of with_moved y ≡ Some p
  moved_holder y p ne e = ap (λ z. up_from z (λ b. block_parent_operation_of t b)) (moved_same y ne) ∙ e

  -- beside x nothing moves
  beside : (y : ℕ) → (IsWithin t x y → ⊥) → IsInside t op y → IsInside with_moved op y
  beside y out (Directly e) = Directly (moved_holder y op (λ s. out (inl s)) e)
  beside y out (Deeper p e j) = Deeper p (moved_holder y p (λ s. out (inl s)) e) (beside p (λ z. out (inr (inside_by p e z))) j)

  moved_inside_op : IsInside with_moved op x
  moved_inside_op = inside_by held.0 (holder_by with_moved x block held.0 moved_parent held.1) (within held.2)
    where
      within : IsWithin t op held.0 → IsWithin with_moved op held.0
      within (inl s) = inl s
      within (inr j) = inr (beside held.0 (λ z. free (held.0, held.1, z)) j)

  stays : (y : ℕ) → IsInside t op y → IsInside with_moved op y
  stays y (Directly e) = step (cases_eq y x)
    where
      step : (y ≡ x) ⊎ (y ≢ x) → IsInside with_moved op y
      step (inl s) = subst (IsInside with_moved op) (sym s) moved_inside_op
      step (inr ne) = Directly (moved_holder y op ne e)
  stays y (Deeper p e j) = step (cases_eq y x) (stays p j)
    where
      step : (y ≡ x) ⊎ (y ≢ x) → IsInside with_moved op p → IsInside with_moved op y
      step (inl s) up = subst (IsInside with_moved op) (sym s) moved_inside_op
      step (inr ne) up = Deeper p (moved_holder y p ne e) up

  moved_change : IsInsideChange t (after_placing (taken_from t x (Some from)) x block body) op
  moved_change = change_of_kept t with_moved op w.joined kept (λ y o. (o.0, λ j. o.1 (stays y j))) (λ b o. (o.0, λ h. o.1 (h.0, h.1, within h.0 h.2)))
    where
      within : (k : ℕ) → IsWithin t op k → IsWithin with_moved op k
      within k (inl s) = inl s
      within k (inr j) = inr (stays k j)

      left : HoldsBlock t op from
      left = block_inside from there i

      kept : AreKeptOutside t with_moved op
      kept = record {
        operations = λ y o. same_operation t with_moved op y refl refl refl (moved_same y (λ e. o.1 (subst (IsInside t op) (sym e) i)));
        blocks = λ b o. same_block t with_moved b refl (get_or-set_other (slice_set t.bodies from (without x (body_of t from))) block b body [] (λ e. o.1 (subst (HoldsBlock t op) (sym e) held)) ∙ get_or-set_other t.bodies from b _ [] (λ e. o.1 (subst (HoldsBlock t op) (sym e) left))) refl;
        regions = λ r o. record { layout = refl; slot = refl };
        values = λ v o. refl;
      }

-- moving
module _ (t : Tree) (op x block : ℕ) (w : IsTree t) (i : IsInside t op x) (held : HoldsBlock t op block) (free : HoldsBlock t x block → ⊥) where
  pub moved_placed_inside : (body : List ℕ) → IsInsideChange t (after_placing (taken_out t x) x block body) op
  moved_placed_inside body =
      let up = inside_up i in
      let h = holder_is t x up.0 up.1 in
      subst (λ o. IsInsideChange t (after_placing (taken_from t x o) x block body) op) (sym h.1) (moved_change t op x h.0 block body w h.1 i held free)

  pub moved_last_inside : IsInsideChange t (moved_last t x block) op
  moved_last_inside = moved_placed_inside (body_of (taken_out t x) block ++ x ∷ [])

  pub moved_first_inside : IsInsideChange t (put_first (taken_out t x) x block) op
  moved_first_inside = moved_placed_inside (x ∷ body_of (taken_out t x) block)

  pub moved_next_inside : (at : ℕ) → parent_of (taken_out t x) at ≡ Some block → IsInsideChange t (put_next_to (taken_out t x) x at (parent_of (taken_out t x) at)) op
  moved_next_inside at e =
      subst (λ o. IsInsideChange t (put_next_to (taken_out t x) x at o) op) (sym e) (moved_placed_inside (put_before at x (body_of (taken_out t x) block)))
