-- Erasing inside an operation.
use Rattle.std.proofs.Common.{◌≡◌, ◌≢◌, ◌⊎◌, ℕ, Bool, true, false, nat_eq, [], Option, Some, None, IsSome, slice_set, refl, sym, ap, ◌∙◌, subst, inl, inr, true≢false}
use Rattle.std.proofs.lemmas.Bool.{cases_eq}
use Rattle.std.proofs.lemmas.List.{get_or-set_other}
use Rattle.pliron_core.specs.Lists.{without}
use Rattle.pliron_core.specs.Tree.{Tree, no_entry, up_from, op_of_slot, row_of, parent_of, body_of, block_parent_of, slot_of, region_parent_of, block_parent_operation_of, parent_operation_of, IsLive, IsBlock, IsInside, IsInside.Directly, IsInside.Deeper, IsWithin, HoldsBlock}
use Rattle.pliron_core.specs.Invariant.{IsJoined, IsTree}
use Rattle.pliron_core.specs.Writes.{taken_from}
use Rattle.pliron_core.specs.Erased.{is_met_above, is_in_operation, blank_at, after_clearing, after_erasing, block_emptied, block_taken_from, block_erased, uses_dropped}
use Rattle.pliron_core.specs.Changes.{HoldsRegion, IsOutside, IsBlockOutside, IsInsideChange}
use Rattle.pliron_core.proofs.HoldingLemmas.{some_is, not_none, past_live, inside_by, not_itself, within_more, inside_up, within_inside, holder_is, holder_by, block_held, held_block, block_inside, inside_block, inside_alike, within_alike}
use Rattle.pliron_core.proofs.InsideLemmas.{AreKeptOutside, change_of_kept}
use Rattle.pliron_core.proofs.WriteInsideLemmas.{same_block, same_operation}
use Rattle.pliron_core.proofs.BlankLemmas.{blanked_gone, blanked_kept}
use Rattle.pliron_core.proofs.ClearedLemmas.{true_or_false, blank_set, met_above, met_block, met_itself}

-- where rows and blocks are as before or gone, nothing comes to stand outside anything
module _ (t u : Tree) (wu : IsJoined u)
    (rows : (y : ℕ) → ((row_of u y ≡ row_of t y) × (parent_of u y ≡ parent_of t y)) ⊎ (row_of u y ≡ no_entry))
    (blocks : (b : ℕ) → (block_parent_of u b ≡ block_parent_of t b) ⊎ (block_parent_of u b ≡ None))
    (slots : (r : ℕ) → slot_of u r ≡ slot_of t r) where
  left : (y : ℕ) → IsLive u y → IsLive t y × (parent_of u y ≡ parent_of t y)
  left y live = go (rows y)
    where
      go : ((row_of u y ≡ row_of t y) × (parent_of u y ≡ parent_of t y)) ⊎ (row_of u y ≡ no_entry) → IsLive t y × (parent_of u y ≡ parent_of t y)
      go (inl e) = (subst (λ z. IsSome z.head) e.0 live, e.1)
      go (inr e) = let none = subst (λ z. IsSome z.head) e live in absurd (true≢false (sym none))

  block_left : (b : ℕ) → IsBlock u b → block_parent_of u b ≡ block_parent_of t b
  block_left b is = go (blocks b)
    where
      go : (block_parent_of u b ≡ block_parent_of t b) ⊎ (block_parent_of u b ≡ None) → block_parent_of u b ≡ block_parent_of t b
      go (inl e) = e
      go (inr e) = let none = subst IsSome e is in absurd (true≢false (sym none))

  block_holder_left : (b : ℕ) → IsBlock u b → (k : ℕ) × (block_parent_operation_of u b ≡ Some k) × (block_parent_operation_of t b ≡ Some k) × IsLive u k
  block_holder_left b is =
      let h = block_held u b wu is in
      let up : region_parent_of t h.0 ≡ Some h.1 = ap op_of_slot (sym (slots h.0)) ∙ h.4 in
      (h.1, h.5, ap (λ o. up_from o (λ r. region_parent_of t r)) (sym (block_left b is) ∙ h.2) ∙ up, h.6)

  holder_left : (y p : ℕ) → IsLive u y → parent_operation_of t y ≡ Some p → (parent_operation_of u y ≡ Some p) × IsLive u p
  holder_left y p live e =
      let h = holder_is t y p e in
      let there : parent_of u y ≡ Some h.0 = (left y live).1 ∙ h.1 in
      let r = block_holder_left h.0 (wu.all_in_place y h.0 there).1 in
      let same : r.0 ≡ p = some_is (sym r.2 ∙ h.2) in
      (holder_by u y h.0 p there (r.1 ∙ ap Some same), subst (IsLive u) same r.3)

  still_inside : (op y : ℕ) → IsLive u y → IsInside t op y → IsInside u op y
  still_inside op y live (Directly e) = Directly (holder_left y op live e).0
  still_inside op y live (Deeper p e i) = let h = holder_left y p live e in Deeper p h.0 (still_inside op p h.1 i)

  pub fewer_operations : (op y : ℕ) → IsOutside u op y → IsOutside t op y
  fewer_operations op y o = ((left y o.0).0, λ i. o.1 (still_inside op y o.0 i))

  pub fewer_blocks : (op b : ℕ) → IsBlockOutside u op b → IsBlockOutside t op b
  fewer_blocks op b o = (subst IsSome (block_left b o.0) o.0, λ h. let r = block_holder_left b o.0 in o.1 (r.0, r.1, within r.0 r.3 (subst (IsWithin t op) (some_is (sym h.1 ∙ r.2)) h.2)))
    where
      within : (k : ℕ) → IsLive u k → IsWithin t op k → IsWithin u op k
      within k live (inl s) = inl s
      within k live (inr i) = inr (still_inside op k live i)

pub not_met : (b : Bool) → (b ≡ true → ⊥) → b ≡ false
not_met true no_way = absurd (no_way refl)
not_met false no_way = refl

-- an operation inside op is erased, with what it holds
module _ (t : Tree) (op x from : ℕ) (w : IsTree t) (there : parent_of t x ≡ Some from) (i : IsInside t op x) where
  abbrev cut : Tree
  cut = taken_from t x (Some from)

  abbrev pub without_it : Tree
  without_it = after_clearing cut (nat_eq x)

  abbrev deleted : ℕ → Bool
  deleted k = is_met_above cut (nat_eq x) (Some k)

  abbrev block_gone : ℕ → Bool
  block_gone b = is_met_above cut (nat_eq x) (block_parent_operation_of t b)

  abbrev region_gone : ℕ → Bool
  region_gone r = is_met_above cut (nat_eq x) (region_parent_of t r)

  -- what stands somewhere once x is out stood there before
  cut_parent : (y b : ℕ) → parent_of cut y ≡ Some b → parent_of t y ≡ Some b
  cut_parent y b e = go (cases_eq y x)
    where
      go : (y ≡ x) ⊎ (y ≢ x) → parent_of t y ≡ Some b
      go (inl s) = absurd (not_none (sym (ap (parent_of cut) s ∙ blank_set None t.parents x) ∙ e))
      go (inr ne) = sym (get_or-set_other t.parents x y None None ne) ∙ e

  cut_holder : (y p : ℕ) → parent_operation_of cut y ≡ Some p → parent_operation_of t y ≡ Some p
  cut_holder y p e = let h = holder_is cut y p e in holder_by t y h.0 p (cut_parent y h.0 h.1) h.2

  up_stays : (o : Option ℕ) → ((k : ℕ) → o ≡ Some k → IsWithin t x k → ⊥) → is_met_above cut (nat_eq x) o ≡ false
  up_stays o out = not_met _ (λ e. let m = met_above cut x o e in out m.0 m.1 (within_more cut t cut_holder m.2))

  op_stays : (y : ℕ) → (IsWithin t x y → ⊥) → deleted y ≡ false
  op_stays y out = up_stays (Some y) (λ k e z. out (subst (IsWithin t x) (sym (some_is e)) z))

  parent_stays : (y : ℕ) → deleted y ≡ false → parent_of without_it y ≡ parent_of t y
  parent_stays y f = blanked_kept deleted None (slice_set t.parents x None) y f ∙ get_or-set_other t.parents x y None None other
    where
      other : y ≢ x
      other e = true≢false (sym (ap deleted e ∙ met_itself cut x (past_live t x (w.joined.all_in_place x from there).0)) ∙ f)

  erased_change : IsJoined without_it → IsInsideChange t without_it op
  erased_change wu = change_of_kept t without_it op w.joined kept (fewer_operations t without_it wu rows blocks (λ r. refl) op) (fewer_blocks t without_it wu rows blocks (λ r. refl) op)
    where
      rows : (y : ℕ) → ((row_of without_it y ≡ row_of t y) × (parent_of without_it y ≡ parent_of t y)) ⊎ (row_of without_it y ≡ no_entry)
      rows y = go (true_or_false (deleted y))
        where
          go : (deleted y ≡ true) ⊎ (deleted y ≡ false) → ((row_of without_it y ≡ row_of t y) × (parent_of without_it y ≡ parent_of t y)) ⊎ (row_of without_it y ≡ no_entry)
          go (inl e) = inr (blanked_gone deleted no_entry t.operations y e)
          go (inr f) = inl (blanked_kept deleted no_entry t.operations y f, parent_stays y f)

      blocks : (b : ℕ) → (block_parent_of without_it b ≡ block_parent_of t b) ⊎ (block_parent_of without_it b ≡ None)
      blocks b = go (true_or_false (block_gone b))
        where
          go : (block_gone b ≡ true) ⊎ (block_gone b ≡ false) → (block_parent_of without_it b ≡ block_parent_of t b) ⊎ (block_parent_of without_it b ≡ None)
          go (inl e) = inr (blanked_gone block_gone None t.block_parents b e)
          go (inr f) = inl (blanked_kept block_gone None t.block_parents b f)

      left_block : HoldsBlock t op from
      left_block = block_inside from there i

      kept : AreKeptOutside t without_it op
      kept = record {
        operations = λ y o.
            let f = op_stays y (λ z. o.1 (within_inside i z)) in
            same_operation t without_it op y (blanked_kept deleted no_entry t.operations y f) (blanked_kept deleted [] t.operands y f) (blanked_kept deleted [] t.successors y f) (parent_stays y f);
        blocks = λ b o.
            let f = up_stays (block_parent_operation_of t b) (λ k e z. o.1 (k, e, inr (within_inside i z))) in
            same_block t without_it b
            (blanked_kept block_gone [] t.arguments b f)
            (blanked_kept block_gone [] (slice_set t.bodies from (without x (body_of t from))) b f ∙ get_or-set_other t.bodies from b _ [] (λ e. o.1 (subst (HoldsBlock t op) (sym e) left_block)))
            (blanked_kept block_gone None t.block_parents b f);
        regions = λ r o.
            let f = up_stays (region_parent_of t r) (λ k e z. o.1 (k, e, inr (within_inside i z))) in
            record { layout = blanked_kept region_gone [] t.layouts r f; slot = refl };
        values = λ v o. refl;
      }

pub erased_inside : (t : Tree) (op x : ℕ) → IsTree t → IsJoined (after_erasing t x) → IsInside t op x → IsInsideChange t (after_erasing t x) op
erased_inside t op x w wu i =
    let up = inside_up i in
    let h = holder_is t x up.0 up.1 in
    subst (λ o. IsInsideChange t (after_clearing (taken_from t x o) (nat_eq x)) op) (sym h.1) (erased_change t op x h.0 w h.1 i (subst (λ o. IsJoined (after_clearing (taken_from t x o) (nat_eq x))) h.1 wu))

-- what stands in a block that op holds is inside op
module _ (t : Tree) (op block : ℕ) (held : HoldsBlock t op block) where
  met_inside : (o : Option ℕ) → is_met_above t (is_in_operation t block) o ≡ true → (k : ℕ) × (o ≡ Some k) × IsInside t op k
  met_inside o e = let m = met_block t block o e in (m.0, m.1, within_inside (inside_block block m.2.1 held) m.2.2)

  in_block_stays : (o : Option ℕ) → ((k : ℕ) → o ≡ Some k → IsInside t op k → ⊥) → is_met_above t (is_in_operation t block) o ≡ false
  in_block_stays o out = not_met _ (λ e. let m = met_inside o e in out m.0 m.1 m.2)

  -- it loses its operands and successors
  pub uses_dropped_inside : IsJoined t → IsInsideChange t (uses_dropped t block) op
  uses_dropped_inside w = change_of_kept t u op w kept (λ y o. (o.0, λ j. o.1 (inside_alike t u (λ z. refl) j))) (λ b o. (o.0, λ h. o.1 (h.0, h.1, within_alike t u (λ z. refl) h.2)))
    where
      u : Tree
      u = uses_dropped t block

      kept : AreKeptOutside t u op
      kept = record {
        operations = λ y o.
            let f = in_block_stays (Some y) (λ k e j. o.1 (subst (IsInside t op) (sym (some_is e)) j)) in
            same_operation t u op y refl
            (blanked_kept (λ k. is_met_above t (is_in_operation t block) (Some k)) [] t.operands y f)
            (blanked_kept (λ k. is_met_above t (is_in_operation t block) (Some k)) [] t.successors y f)
            refl;
        blocks = λ b o. same_block t u b refl refl refl;
        regions = λ r o. record { layout = refl; slot = refl };
        values = λ v o. refl;
      }

-- a block that op holds is erased, with what stands in it
module _ (t : Tree) (op block region : ℕ) (w : IsTree t) (there : block_parent_of t block ≡ Some region) (held : HoldsBlock t op block) where
  abbrev inner : ℕ → Bool
  inner k = is_met_above t (is_in_operation t block) (Some k)

  abbrev inner_block : ℕ → Bool
  inner_block b = is_met_above t (is_in_operation t block) (block_parent_operation_of t b)

  abbrev inner_region : ℕ → Bool
  inner_region r = is_met_above t (is_in_operation t block) (region_parent_of t r)

  abbrev without_block : Tree
  without_block = block_taken_from (block_emptied t block) block (Some region)

  region_held : HoldsRegion t op region
  region_held = (held.0, sym (ap (λ o. up_from o (λ r. region_parent_of t r)) there) ∙ held.1, held.2)

  block_stays : (b : ℕ) → IsBlockOutside t op b → inner_block b ≡ false
  block_stays b o = in_block_stays t op block held (block_parent_operation_of t b) (λ k e j. o.1 (k, e, inr j))

  other_block : (b : ℕ) → IsBlockOutside t op b → b ≢ block
  other_block b o e = o.1 (subst (HoldsBlock t op) (sym e) held)

  block_erased_change : IsJoined without_block → IsInsideChange t without_block op
  block_erased_change wu = change_of_kept t without_block op w.joined kept (fewer_operations t without_block wu rows blocks (λ r. refl) op) (fewer_blocks t without_block wu rows blocks (λ r. refl) op)
    where
      rows : (y : ℕ) → ((row_of without_block y ≡ row_of t y) × (parent_of without_block y ≡ parent_of t y)) ⊎ (row_of without_block y ≡ no_entry)
      rows y = go (true_or_false (inner y))
        where
          go : (inner y ≡ true) ⊎ (inner y ≡ false) → ((row_of without_block y ≡ row_of t y) × (parent_of without_block y ≡ parent_of t y)) ⊎ (row_of without_block y ≡ no_entry)
          go (inl e) = inr (blanked_gone inner no_entry t.operations y e)
          go (inr f) = inl (blanked_kept inner no_entry t.operations y f, blanked_kept inner None t.parents y f)

      blocks : (b : ℕ) → (block_parent_of without_block b ≡ block_parent_of t b) ⊎ (block_parent_of without_block b ≡ None)
      blocks b = go (cases_eq b block) (true_or_false (inner_block b))
        where
          go : (b ≡ block) ⊎ (b ≢ block) → (inner_block b ≡ true) ⊎ (inner_block b ≡ false) → (block_parent_of without_block b ≡ block_parent_of t b) ⊎ (block_parent_of without_block b ≡ None)
          go (inl s) d = inr (ap (block_parent_of without_block) s ∙ blank_set None (blank_at inner_block None t.block_parents) block)
          go (inr ne) (inl e) = inr (get_or-set_other (blank_at inner_block None t.block_parents) block b None None ne ∙ blanked_gone inner_block None t.block_parents b e)
          go (inr ne) (inr f) = inl (get_or-set_other (blank_at inner_block None t.block_parents) block b None None ne ∙ blanked_kept inner_block None t.block_parents b f)

      kept : AreKeptOutside t without_block op
      kept = record {
        operations = λ y o.
            let f = in_block_stays t op block held (Some y) (λ k e j. o.1 (subst (IsInside t op) (sym (some_is e)) j)) in
            same_operation t without_block op y (blanked_kept inner no_entry t.operations y f) (blanked_kept inner [] t.operands y f) (blanked_kept inner [] t.successors y f) (blanked_kept inner None t.parents y f);
        blocks = λ b o.
            let f = block_stays b o in
            let ne = other_block b o in
            same_block t without_block b
            (get_or-set_other (blank_at inner_block [] t.arguments) block b [] [] ne ∙ blanked_kept inner_block [] t.arguments b f)
            (get_or-set_other (blank_at inner_block [] t.bodies) block b [] [] ne ∙ blanked_kept inner_block [] t.bodies b f)
            (get_or-set_other (blank_at inner_block None t.block_parents) block b None None ne ∙ blanked_kept inner_block None t.block_parents b f);
        regions = λ r o.
            let f = in_block_stays t op block held (region_parent_of t r) (λ k e j. o.1 (k, e, inr j)) in
            record { layout = get_or-set_other (blank_at inner_region [] t.layouts) region r _ [] (λ e. o.1 (subst (HoldsRegion t op) (sym e) region_held)) ∙ blanked_kept inner_region [] t.layouts r f; slot = refl };
        values = λ v o. refl;
      }

-- a block does not stand inside itself
own_block_stays : (t : Tree) (block : ℕ) → IsJoined t → is_met_above t (is_in_operation t block) (block_parent_operation_of t block) ≡ false
own_block_stays t block w = not_met _ (λ e. let m = met_block t block (block_parent_operation_of t block) e in let up : IsInside t m.0 m.2.0 = inside_by m.0 (holder_by t m.2.0 block m.0 m.2.1 m.1) (inl refl) in not_itself w.rooted (within_inside up m.2.2))

pub block_erased_inside : (t : Tree) (op block : ℕ) → IsTree t → IsJoined (block_erased t block) → HoldsBlock t op block → IsInsideChange t (block_erased t block) op
block_erased_inside t op block w wu held =
    let h = block_held t block w.joined (held_block t block held.0 held.1) in
    let there : block_parent_of (block_emptied t block) block ≡ Some h.0 = blanked_kept (λ b. is_met_above t (is_in_operation t block) (block_parent_operation_of t b)) None t.block_parents block (own_block_stays t block w.joined) ∙ h.2 in
    subst (λ o. IsInsideChange t (block_taken_from (block_emptied t block) block o) op) (sym there) (block_erased_change t op block h.0 w h.2 held (subst (λ o. IsJoined (block_taken_from (block_emptied t block) block o)) there wu))
