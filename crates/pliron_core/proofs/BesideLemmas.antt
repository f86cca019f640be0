-- A new operation beside a tree: until it comes into a block, or is erased again.
use Rattle.std.proofs.Common.{◌≡◌, ◌≢◌, ◌⊎◌, ℕ, zero, suc, ◌<◌, Bool, true, false, nat_eq, List, [], ◌∷◌, ◌++◌, length, get_or, replicate, Some, None, IsSome, slice_set, refl, sym, ap, ◌∙◌, subst, inl, inr, true≢false, suc-le-suc, arith, length-set}
use Rattle.std.proofs.lemmas.Bool.{cases_eq}
use Rattle.std.proofs.lemmas.List.{get_or-set_other, get_or-set_same, get_or_past}
use Rattle.pliron_core.specs.declared.attrs.Head.{Head}
use Rattle.pliron_core.specs.declared.attrs.AttrObj.{AttrObj}
use Rattle.pliron_core.specs.declared.context.Def.{Def}
use Rattle.pliron_core.specs.declared.context.RegionSlot.{RegionSlot}
use Rattle.pliron_core.specs.Lists.{In, put_before}
use Rattle.pliron_core.specs.Tree.{Tree, no_entry, up_from, op_of_slot, row_of, head_of, operands_of, successors_of, parent_of, body_of, arguments_of, block_parent_of, layout_of, slot_of, definition_of, region_parent_of, block_parent_operation_of, parent_operation_of, IsLive, IsBlock, IsInside, IsInside.Directly, IsInside.Deeper, IsWithin, HoldsBlock}
use Rattle.pliron_core.specs.Invariant.{IsJoined, IsTree}
use Rattle.pliron_core.specs.Writes.{region_slots, result_definitions, after_creating, operand_pushed, successor_pushed, with_attribute, attribute_set, after_placing, put_last, put_first, put_next_to, taken_from}
use Rattle.pliron_core.specs.Erased.{is_met_above, blank_at, after_clearing, after_erasing}
use Rattle.pliron_core.specs.Changes.{IsSameTree, IsOutside, IsBlockOutside, IsInsideChange}
use Rattle.pliron_core.proofs.PlaceLemmas.{get_or-pad}
use Rattle.pliron_core.proofs.HoldingLemmas.{some_is, slot_is, maker_is, region_parent_is, block_held, held_block, holder_is, holder_by, holder_live, inside_block, inside_more, within_more}
use Rattle.pliron_core.proofs.InsideLemmas.{AreKeptOutside, same_change, change_of_kept}
use Rattle.pliron_core.proofs.WriteInsideLemmas.{same_block, same_operation, push_other, grown_front}
use Rattle.pliron_core.proofs.BlankLemmas.{blanked_gone, blanked_kept}
use Rattle.pliron_core.proofs.ClearedLemmas.{true_or_false, met_above, met_itself}

-- d is t with one more operation, n, which stands in no block
pub record IsBeside (t d : Tree) (n : ℕ) : Type 0 where
  pub fresh : row_of t n ≡ no_entry
  pub no_operands : operands_of t n ≡ []
  pub no_successors : successors_of t n ≡ []
  pub no_parent : parent_of t n ≡ None
  pub loose : parent_of d n ≡ None
  pub key : n < length d.operations
  pub place : n < length d.parents
  pub operations : (k : ℕ) → k ≢ n → row_of d k ≡ row_of t k
  pub operands : (k : ℕ) → k ≢ n → operands_of d k ≡ operands_of t k
  pub successors : (k : ℕ) → k ≢ n → successors_of d k ≡ successors_of t k
  pub parents : (k : ℕ) → k ≢ n → parent_of d k ≡ parent_of t k
  pub bodies : (b : ℕ) → body_of d b ≡ body_of t b
  pub arguments : (b : ℕ) → arguments_of d b ≡ arguments_of t b
  pub block_parents : (b : ℕ) → block_parent_of d b ≡ block_parent_of t b
  pub layouts : (r : ℕ) → layout_of d r ≡ layout_of t r
  pub slots : (r : ℕ) (s : RegionSlot) → slot_of t r ≡ Some s → slot_of d r ≡ Some s
  pub definitions : (v : ℕ) (m : Def) → definition_of t v ≡ Some m → definition_of d v ≡ Some m

pub padded : {A : Type 0} (xs : List A) (d : A) (n k : ℕ) → get_or (xs ++ replicate n d) k d ≡ get_or xs k d
padded [] d zero k = refl
padded [] d (suc n) zero = refl
padded [] d (suc n) (suc k) = padded [] d n k
padded (x ∷ xs) d n zero = refl
padded (x ∷ xs) d n (suc k) = padded xs d n k

longer : {A : Type 0} (xs : List A) (y : A) → length xs < length (xs ++ y ∷ [])
longer [] y = omega arith
longer (x ∷ xs) y = suc-le-suc (longer xs y)

-- creating makes one
pub created_beside : (t : Tree) (head : Head) (results regions : ℕ) → IsTree t → IsBeside t (after_creating t head results regions) (length t.operations)
created_beside t head results regions w = record {
  fresh = get_or_past t.operations n no_entry (omega arith);
  no_operands = get_or_past t.operands n [] (omega (arith, w.keys.operands));
  no_successors = get_or_past t.successors n [] (omega (arith, w.keys.successors));
  no_parent = get_or_past t.parents n None (omega (arith, w.keys.parents));
  loose = get_or-pad t.parents None n ∙ get_or_past t.parents n None (omega (arith, w.keys.parents));
  key = longer t.operations _;
  place = omega (arith, longer t.parents None, w.keys.parents);
  operations = λ k ne. row k ne;
  operands = λ k ne. get_or-pad t.operands [] k;
  successors = λ k ne. get_or-pad t.successors [] k;
  parents = λ k ne. get_or-pad t.parents None k;
  bodies = λ b. refl;
  arguments = λ b. refl;
  block_parents = λ b. refl;
  layouts = λ r. padded t.layouts [] regions r;
  slots = λ r s e. grown_front t.slots (region_slots n regions) r s e;
  definitions = λ v m e. grown_front t.definitions (result_definitions n results) v m e;
}
  where
    n : ℕ
    n = length t.operations

    row : (k : ℕ) → k ≢ n → row_of (after_creating t head results regions) k ≡ row_of t k
    row k ne = go (push_other t.operations _ no_entry k)
      where
        go : (row_of (after_creating t head results regions) k ≡ row_of t k) ⊎ (k ≡ n) → row_of (after_creating t head results regions) k ≡ row_of t k
        go (inl e) = e
        go (inr e) = absurd (ne e)

-- and what is written to the new operation keeps it so
module _ (t d : Tree) (n : ℕ) (s : IsBeside t d n) where
  beside_operands : (row : List ℕ) → IsBeside t (record d { operands = slice_set d.operands n row }) n
  beside_operands row = record {
    fresh = s.fresh;
    no_operands = s.no_operands;
    no_successors = s.no_successors;
    no_parent = s.no_parent;
    loose = s.loose;
    key = s.key;
    place = s.place;
    operations = s.operations;
    operands = λ k ne. get_or-set_other d.operands n k row [] ne ∙ s.operands k ne;
    successors = s.successors;
    parents = s.parents;
    bodies = s.bodies;
    arguments = s.arguments;
    block_parents = s.block_parents;
    layouts = s.layouts;
    slots = s.slots;
    definitions = s.definitions;
  }

  pub beside_operand_pushed : (value : ℕ) → IsBeside t (operand_pushed d n value) n
  beside_operand_pushed value = beside_operands (operands_of d n ++ value ∷ [])

  pub beside_successor_pushed : (block : ℕ) → IsBeside t (successor_pushed d n block) n
  beside_successor_pushed block = record {
    fresh = s.fresh;
    no_operands = s.no_operands;
    no_successors = s.no_successors;
    no_parent = s.no_parent;
    loose = s.loose;
    key = s.key;
    place = s.place;
    operations = s.operations;
    operands = s.operands;
    successors = λ k ne. get_or-set_other d.successors n k _ [] ne ∙ s.successors k ne;
    parents = s.parents;
    bodies = s.bodies;
    arguments = s.arguments;
    block_parents = s.block_parents;
    layouts = s.layouts;
    slots = s.slots;
    definitions = s.definitions;
  }

  pub beside_attribute_set : (i : ℕ) (attr : AttrObj) → IsBeside t (attribute_set d n i attr) n
  beside_attribute_set i attr = record {
    fresh = s.fresh;
    no_operands = s.no_operands;
    no_successors = s.no_successors;
    no_parent = s.no_parent;
    loose = s.loose;
    key = omega (arith, s.key, length-set d.operations n (record (row_of d n) { head = with_attribute (head_of d n) i attr }));
    place = s.place;
    operations = λ k ne. get_or-set_other d.operations n k _ no_entry ne ∙ s.operations k ne;
    operands = s.operands;
    successors = s.successors;
    parents = s.parents;
    bodies = s.bodies;
    arguments = s.arguments;
    block_parents = s.block_parents;
    layouts = s.layouts;
    slots = s.slots;
    definitions = s.definitions;
  }

module _ (t d : Tree) (n : ℕ) (w : IsTree t) (s : IsBeside t d n) where
  pub not_new : (k : ℕ) → IsLive t k → k ≢ n
  not_new k live e = let none = subst (λ z. IsSome z.head) (ap (row_of t) e ∙ s.fresh) live in true≢false (sym none)

  block_holder_more : (b p : ℕ) → block_parent_operation_of t b ≡ Some p → block_parent_operation_of d b ≡ Some p
  block_holder_more b p e =
      let h = block_held t b w.joined (held_block t b p e) in
      let r = slot_is t h.0 h.3 in
      let up = region_parent_is t h.0 r.0 r.1 in
      let now : region_parent_of d h.0 ≡ Some r.0.op = ap op_of_slot (s.slots h.0 r.0 r.1) in
      ap (λ o. up_from o (λ r. region_parent_of d r)) (s.block_parents b ∙ h.2) ∙ now ∙ sym (ap (λ o. up_from o (λ r. region_parent_of t r)) h.2 ∙ up) ∙ e

  -- the new operation holds nothing
  holds_no_block : (b : ℕ) → block_parent_operation_of d b ≡ Some n → ⊥
  holds_no_block b e =
      let is : IsBlock t b = subst IsSome (s.block_parents b) (held_block d b n e) in
      let h = block_held t b w.joined is in
      not_new h.1 h.6 (some_is (sym (block_holder_more b h.1 h.5) ∙ e))

  holds_nothing : (x : ℕ) → IsInside d n x → ⊥
  holds_nothing x (Directly e) = let h = holder_is d x n e in holds_no_block h.0 h.2
  holds_nothing x (Deeper p e i) = holds_nothing p i

  within_new : (x : ℕ) → IsWithin d n x → x ≡ n
  within_new x (inl e) = e
  within_new x (inr i) = absurd (holds_nothing x i)

  -- erased again, it leaves the same tree
  erased_none : IsSameTree t (after_clearing d (nat_eq n))
  erased_none = record {
    operations = λ k. row no_entry d.operations t.operations s.operations s.fresh k;
    operands = λ k. row [] d.operands t.operands s.operands s.no_operands k;
    successors = λ k. row [] d.successors t.successors s.successors s.no_successors k;
    parents = λ k. row None d.parents t.parents s.parents s.no_parent k;
    bodies = λ b. blanked_kept block_gone [] d.bodies b (block_stays b) ∙ s.bodies b;
    arguments = λ b. blanked_kept block_gone [] d.arguments b (block_stays b) ∙ s.arguments b;
    block_parents = λ b. blanked_kept block_gone None d.block_parents b (block_stays b) ∙ s.block_parents b;
    layouts = λ r. layout r (true_or_false (region_gone r));
  }
    where
      deleted : ℕ → Bool
      deleted = λ k. is_met_above d (nat_eq n) (Some k)

      block_gone : ℕ → Bool
      block_gone = λ b. is_met_above d (nat_eq n) (block_parent_operation_of d b)

      region_gone : ℕ → Bool
      region_gone = λ r. is_met_above d (nat_eq n) (region_parent_of d r)

      row : {A : Type 0} (none : A) (xs ys : List A) → ((k : ℕ) → k ≢ n → get_or xs k none ≡ get_or ys k none) → get_or ys n none ≡ none → (k : ℕ) → get_or (blank_at deleted none xs) k none ≡ get_or ys k none
      row none xs ys same empty k = go (true_or_false (deleted k))
        where
          go : (deleted k ≡ true) ⊎ (deleted k ≡ false) → get_or (blank_at deleted none xs) k none ≡ get_or ys k none
          go (inl e) =
              let m = met_above d n (Some k) e in
              let here : k ≡ n = some_is m.1 ∙ within_new m.0 m.2 in
              blanked_gone deleted none xs k e ∙ sym (ap (λ z. get_or ys z none) here ∙ empty)
          go (inr e) = blanked_kept deleted none xs k e ∙ same k (λ here. true≢false (sym (ap deleted here ∙ met_itself d n s.key) ∙ e))

      block_stays : (b : ℕ) → block_gone b ≡ false
      block_stays b = go (true_or_false (block_gone b))
        where
          go : (block_gone b ≡ true) ⊎ (block_gone b ≡ false) → block_gone b ≡ false
          go (inl e) = let m = met_above d n (block_parent_operation_of d b) e in absurd (holds_no_block b (m.1 ∙ ap Some (within_new m.0 m.2)))
          go (inr e) = e

      layout : (r : ℕ) → (region_gone r ≡ true) ⊎ (region_gone r ≡ false) → get_or (blank_at region_gone [] d.layouts) r [] ≡ layout_of t r
      layout r (inr e) = blanked_kept region_gone [] d.layouts r e ∙ s.layouts r
      layout r (inl e) = blanked_gone region_gone [] d.layouts r e ∙ sym (none (layout_of t r) refl)
        where
          none : (xs : List ℕ) → layout_of t r ≡ xs → layout_of t r ≡ []
          none [] f = f
          none (b ∷ bs) f =
              let m = met_above d n (region_parent_of d r) e in
              let there : block_parent_of d b ≡ Some r = s.block_parents b ∙ w.layouts.owned b r (subst (In b) (sym f) (inl refl)) in
              absurd (holds_no_block b (ap (λ o. up_from o (λ r. region_parent_of d r)) there ∙ m.1 ∙ ap Some (within_new m.0 m.2)))

  pub beside_erased : IsSameTree t (after_erasing d n)
  beside_erased =
      subst (λ o. IsSameTree t (after_clearing (taken_from d n o) (nat_eq n))) (sym s.loose) erased_none

-- which is a change inside of any operation
pub beside_erased_inside : (t d : Tree) (n op : ℕ) → IsTree t → IsJoined (after_erasing d n) → IsBeside t d n → IsInsideChange t (after_erasing d n) op
beside_erased_inside t d n op w wu s = same_change t (after_erasing d n) op w.joined wu (beside_erased t d n w s)

-- creating and then erasing leaves the same tree
pub same_created_erased : (t : Tree) (head : Head) (results regions : ℕ) → IsTree t → IsSameTree t (after_erasing (after_creating t head results regions) (length t.operations))
same_created_erased t head results regions w = beside_erased t (after_creating t head results regions) (length t.operations) w (created_beside t head results regions w)

-- the new operation comes into a block that op holds
module _ (t d : Tree) (n op block : ℕ) (body : List ℕ) (w : IsTree t) (s : IsBeside t d n) (held : HoldsBlock t op block) where
  abbrev pub with_new : Tree
  with_new = after_placing d n block body

  holders_more : (y p : ℕ) → parent_operation_of t y ≡ Some p → parent_operation_of with_new y ≡ Some p
  holders_more y p e =
      let h = holder_is t y p e in
      let ne = not_new t d n w s y (holder_live t y p w.joined e).0 in
      holder_by with_new y h.0 p (get_or-set_other d.parents n y (Some block) None ne ∙ s.parents y ne ∙ h.1) (block_holder_more t d n w s h.0 p h.2)

  new_inside : IsInside with_new op n
  new_inside = inside_block block (get_or-set_same d.parents n (Some block) None s.place) (held.0, block_holder_more t d n w s block held.0 held.1, within_more t with_new holders_more held.2)

  pub beside_placed : IsInsideChange t (after_placing d n block body) op
  beside_placed = change_of_kept t with_new op w.joined kept no_new_operation no_new_block
    where
      kept : AreKeptOutside t with_new op
      kept = record {
        operations = λ y o. let ne = not_new t d n w s y o.0 in same_operation t with_new op y (s.operations y ne) (s.operands y ne) (s.successors y ne) (get_or-set_other d.parents n y (Some block) None ne ∙ s.parents y ne);
        blocks = λ b o. same_block t with_new b (s.arguments b) (get_or-set_other d.bodies block b body [] (λ e. o.1 (subst (HoldsBlock t op) (sym e) held)) ∙ s.bodies b) (s.block_parents b);
        regions = λ r o. let p = slot_is t r o.0 in record { layout = s.layouts r; slot = s.slots r p.0 p.1 ∙ sym p.1 };
        values = λ v o. let m = maker_is t v o.0 in s.definitions v m.0 m.1 ∙ sym m.1;
      }

      no_new_operation : (y : ℕ) → IsOutside with_new op y → IsOutside t op y
      no_new_operation y o = go (cases_eq y n)
        where
          go : (y ≡ n) ⊎ (y ≢ n) → IsOutside t op y
          go (inl e) = absurd (o.1 (subst (IsInside with_new op) (sym e) new_inside))
          go (inr ne) = (subst (λ z. IsSome z.head) (s.operations y ne) o.0, λ i. o.1 (inside_more t with_new holders_more i))

      no_new_block : (b : ℕ) → IsBlockOutside with_new op b → IsBlockOutside t op b
      no_new_block b o = (subst IsSome (s.block_parents b) o.0, λ h. o.1 (h.0, block_holder_more t d n w s b h.0 h.1, within_more t with_new holders_more h.2))

module _ (t d : Tree) (n op block : ℕ) (w : IsTree t) (s : IsBeside t d n) (held : HoldsBlock t op block) where
  pub beside_last_inside : IsInsideChange t (put_last d n block) op
  beside_last_inside = beside_placed t d n op block (body_of d block ++ n ∷ []) w s held

  pub beside_first_inside : IsInsideChange t (put_first d n block) op
  beside_first_inside = beside_placed t d n op block (n ∷ body_of d block) w s held

  pub beside_next_inside : (at : ℕ) → parent_of d at ≡ Some block → IsInsideChange t (put_next_to d n at (parent_of d at)) op
  beside_next_inside at e =
      subst (λ o. IsInsideChange t (put_next_to d n at o) op) (sym e) (beside_placed t d n op block (put_before at n (body_of d block)) w s held)

-- creating and then inserting
module _ (t : Tree) (op block : ℕ) (head : Head) (results regions : ℕ) (w : IsTree t) (held : HoldsBlock t op block) where
  pub created_last_inside : IsInsideChange t (put_last (after_creating t head results regions) (length t.operations) block) op
  created_last_inside = beside_last_inside t (after_creating t head results regions) (length t.operations) op block w (created_beside t head results regions w) held

  pub created_first_inside : IsInsideChange t (put_first (after_creating t head results regions) (length t.operations) block) op
  created_first_inside = beside_first_inside t (after_creating t head results regions) (length t.operations) op block w (created_beside t head results regions w) held

  pub created_next_inside : (at : ℕ) → parent_of t at ≡ Some block → IsInsideChange t (put_next_to (after_creating t head results regions) (length t.operations) at (parent_of (after_creating t head results regions) at)) op
  created_next_inside at e = beside_next_inside t (after_creating t head results regions) (length t.operations) op block w (created_beside t head results regions w) held at (get_or-pad t.parents None at ∙ e)
