-- Erasing what was built leaves what stood before.
use Rattle.std.proofs.Common.{◌≡◌, ◌⊎◌, ℕ, zero, suc, ◌<◌, ◌≤◌, Bool, true, false, nat_eq, List, [], ◌∷◌, length, get_or, Option, Some, None, IsSome, is_some, refl, sym, ap, ◌∙◌, subst, inl, inr, ⊎_elim, arith, slice_get, true≢false}
use Rattle.std.proofs.lemmas.List.{get_or_past}
use Rattle.std.proofs.lemmas.Option.{slice_get_within}
use Rattle.pliron_core.specs.declared.context.Def.{Def}
use Rattle.pliron_core.specs.declared.context.Def.TheVariants.{Result, Argument}
use Rattle.pliron_core.specs.Tree.{Tree, In, IsLive, IsBlock, IsRegion, IsInside, IsWithin, HoldsBlock, IsMadeBy, IsDefinedWithin, no_entry, row_of, head_of, regions_of, operands_of, successors_of, parent_of, block_parent_of, layout_of, up_from, region_parent_of, block_parent_operation_of, parent_operation_of}
use Rattle.pliron_core.specs.Invariant.{IsTree}
use Rattle.pliron_core.specs.Changes.{IsSameTree}
use Rattle.pliron_core.specs.Writes.{taken_from}
use Rattle.pliron_core.specs.Erased.{is_met_above, blank_at, after_clearing, after_erasing, IsSelfContained}
use Rattle.pliron_core.proofs.BlankLemmas.{blanked_gone, blanked_kept}
use Rattle.pliron_core.proofs.ClearedLemmas.{true_or_false, met_above}
use Rattle.pliron_core.proofs.TreeLemmas.{cases_lt, block-within}
use Rattle.pliron_core.proofs.HoldingLemmas.{some_is, not_none, past_live, region_live, result_live, argument_stands, slot_is, region_by, maker_is, region_parent_is, block_held, holder_live, inside_by}
use Rattle.pliron_core.proofs.WithinLemmas.{is_within, within_is}
use Rattle.pliron_text.specs.Building.{KeepsEntries, IsGrown}
use Rattle.pliron_text.proofs.GrowthLemmas.{keeps-old, more-block_parent_operation}

module _ (t u : Tree) (root : ℕ) (wt : IsTree t) (wu : IsTree u) (g : IsGrown t u root) where
  old_live : (k : ℕ) → IsLive t k → k < root
  old_live k live = let lt = past_live t k live in let e = g.fresh in omega (arith, lt, e)

  -- what is new stands within the root
  within_up_to : (n k : ℕ) → k ≤ n → IsLive u k → root ≤ k → IsWithin u root k
  within_up_to zero k le live from = inl (omega (arith, le, from))
  within_up_to (suc n) k le live from = ⊎_elim
      (λ lt. let p = g.held k live lt in let less = p.3 in inr (inside_by p.0 p.1 (within_up_to n p.0 (omega (arith, less, le)) (holder_live u k p.0 wu.joined p.1).1 p.2)))
      (λ past. inl (omega (arith, from, past)))
      (cases_lt root k)

  new_within : (k : ℕ) → IsLive u k → root ≤ k → IsWithin u root k
  new_within k live from = within_up_to k k (omega arith) live from

  -- what is old does not
  old_holder : (k p : ℕ) → k < root → parent_operation_of u k ≡ Some p → IsLive t p
  old_holder k p lt e = go (parent_of t k) refl
    where
      same : parent_of u k ≡ parent_of t k
      same = keeps-old t.parents u.parents k None (let f = wt.keys.parents in let h = g.fresh in omega (arith, lt, f, h)) g.kept.more.parents

      go : (o : Option ℕ) → parent_of t k ≡ o → IsLive t p
      go None f = absurd (not_none (sym (ap (λ o. up_from o (λ b. block_parent_operation_of u b)) (same ∙ f)) ∙ e))
      go (Some b) f =
          let h = block_held t b wt.joined (wt.joined.all_in_place k b f).1 in
          let there : block_parent_operation_of u b ≡ Some h.1 = more-block_parent_operation t u g.kept.more b h.1 h.5 in
          let is : h.1 ≡ p = some_is (sym there ∙ (sym (ap (λ o. up_from o (λ b. block_parent_operation_of u b)) (same ∙ f)) ∙ e)) in
          subst (IsLive t) is h.6

  old_not_inside : (k : ℕ) → k < root → IsInside u root k → ⊥
  old_not_inside k lt (IsInside.Directly e) = let f = old_live root (old_holder k root lt e) in omega (arith, f)
  old_not_inside k lt (IsInside.Deeper p e i) = old_not_inside p (old_live p (old_holder k p lt e)) i

  pub old_not_within : (k : ℕ) → k < root → IsWithin u root k → ⊥
  old_not_within k lt (inl e) = omega (arith, lt, e)
  old_not_within k lt (inr i) = old_not_inside k lt i

  old_block : (b : ℕ) → IsBlock t b → HoldsBlock u root b → ⊥
  old_block b is h =
      let w = block_held t b wt.joined is in
      let there : block_parent_operation_of u b ≡ Some w.1 = more-block_parent_operation t u g.kept.more b w.1 w.5 in
      let same : w.1 ≡ h.0 = some_is (sym there ∙ h.1) in
      old_not_within h.0 (subst (λ z. z < root) same (old_live w.1 w.6)) h.2

  -- what names something is live
  named_live : (k : ℕ) → (IsLive u k → ⊥) → (operands_of u k ≡ []) × (successors_of u k ≡ []) × (row_of u k ≡ no_entry)
  named_live k dead = go (head_of u k) refl
    where
      go : (o : Option _) → head_of u k ≡ o → (operands_of u k ≡ []) × (successors_of u k ≡ []) × (row_of u k ≡ no_entry)
      go None e = wu.joined.erased k e
      go (Some h) e = absurd (dead (ap is_some e))

  live_or : (k : ℕ) → IsLive u k ⊎ (IsLive u k → ⊥)
  live_or k = go (head_of u k) refl
    where
      go : (o : Option _) → head_of u k ≡ o → IsLive u k ⊎ (IsLive u k → ⊥)
      go None e = inr (λ s. true≢false (sym (subst IsSome e s)))
      go (Some h) e = inl (ap is_some e)

  users_within : (k : ℕ) → root ≤ k → ((operands_of u k ≡ []) × (successors_of u k ≡ []) × (row_of u k ≡ no_entry) → ⊥) → IsWithin u root k
  users_within k from used = ⊎_elim (λ live. new_within k live from) (λ dead. absurd (used (named_live k dead))) (live_or k)

  made_outside : (v : ℕ) (d : Def) → IsMadeBy t v (Some d) → IsDefinedWithin u root (Some d) → ⊥
  made_outside v (Result k i) is w = old_not_within k (old_live k (result_live t wt.joined k i v is)) w
  made_outside v (Argument b i) is w = old_block b (argument_stands t wt.joined b i v is) w

  pub contained : IsSelfContained u root
  contained = record {
    values = λ x v i made. ⊎_elim
        (λ lt.
        let same : operands_of u x ≡ operands_of t x = keeps-old t.operands u.operands x [] (let f = wt.keys.operands in let h = g.fresh in omega (arith, lt, f, h)) g.kept.operands in
        let m = maker_is t v (wt.joined.operands x v (subst (In v) same i)) in
        absurd (made_outside v m.0 m.2 (subst (IsDefinedWithin u root) (g.kept.more.definitions v m.0 m.1) made)))
        (λ from. users_within x from (λ none. subst (In v) none.0 i))
        (cases_lt x root);
    blocks = λ x b i held. ⊎_elim
        (λ lt.
        let same : successors_of u x ≡ successors_of t x = keeps-old t.successors u.successors x [] (let f = wt.keys.successors in let h = g.fresh in omega (arith, lt, f, h)) g.kept.successors in
        absurd (old_block b (wt.joined.successors x b (subst (In b) same i)) held))
        (λ from. users_within x from (λ none. subst (In b) none.1 i))
        (cases_lt x root);
  }

  -- the tables after the root is erased
  abbrev deleted : Option ℕ → Bool
  deleted o = is_met_above u (nat_eq root) o

  op_table : {A : Type 0} (d : A) (xs ys : List A) → KeepsEntries xs ys → length xs ≡ root → ((k : ℕ) → (IsLive u k → ⊥) → get_or ys k d ≡ d) → (k : ℕ) → get_or (blank_at (λ x. deleted (Some x)) d ys) k d ≡ get_or xs k d
  op_table d xs ys keeps count dead k = ⊎_elim old new (cases_lt k root)
    where
      old : k < root → get_or (blank_at (λ x. deleted (Some x)) d ys) k d ≡ get_or xs k d
      old lt = ⊎_elim (λ e. absurd (old_not_within k lt (within_is u root k e))) (λ e. blanked_kept (λ x. deleted (Some x)) d ys k e ∙ keeps-old xs ys k d (subst (λ z. k < z) (sym count) lt) keeps) (true_or_false (deleted (Some k)))

      nothing : deleted (Some k) ≡ false → root ≤ k → get_or ys k d ≡ d
      nothing e from = ⊎_elim (λ live. absurd (true≢false (sym (is_within u root k wu.joined g.live (new_within k live from)) ∙ e))) (λ no. dead k no) (live_or k)

      new : root ≤ k → get_or (blank_at (λ x. deleted (Some x)) d ys) k d ≡ get_or xs k d
      new from = ⊎_elim (λ e. blanked_gone (λ x. deleted (Some x)) d ys k e) (λ e. blanked_kept (λ x. deleted (Some x)) d ys k e ∙ nothing e from) (true_or_false (deleted (Some k))) ∙ sym (get_or_past xs k d (subst (λ z. z ≤ k) (sym count) from))

  dead_parent : (k : ℕ) → (IsLive u k → ⊥) → parent_of u k ≡ None
  dead_parent k dead = go (parent_of u k) refl
    where
      go : (o : Option ℕ) → parent_of u k ≡ o → parent_of u k ≡ None
      go None e = e
      go (Some b) e = absurd (dead (wu.joined.all_in_place k b e).0)

  -- a region that an old operation lists is old
  old_region : (r k i : ℕ) → k < root → slice_get (regions_of u k) i ≡ Some r → IsRegion t r
  old_region r k i lt e =
      let same : row_of u k ≡ row_of t k = keeps-old t.operations u.operations k no_entry (let h = g.fresh in omega (arith, lt, h)) g.kept.more.operations in
      let listed : slice_get (regions_of t k) i ≡ Some r = sym (ap (λ z. slice_get z.regions i) same) ∙ e in
      region_by t r (record { op = k; index = i }) (wt.joined.regions k i r listed) listed

  region_within : (r : ℕ) → IsRegion t r → r < length t.layouts
  region_within r is = let s = slot_is t r is in let lt = slice_get_within t.slots r s.0 s.1 in let e = wt.keys.slots in omega (arith, lt, e)

  -- a new block stands within the root
  new_block : (b : ℕ) → length t.bodies ≤ b → IsBlock u b → deleted (block_parent_operation_of u b) ≡ true
  new_block b from is =
      let h = block_held u b wu.joined is in
      ⊎_elim
      (λ lt. let s = slot_is u h.0 h.3 in let same : s.0.op ≡ h.1 = some_is (sym (region_parent_is u h.0 s.0 s.1) ∙ h.4) in old_new b h.0 from h.2 (old_region h.0 s.0.op s.0.index (subst (λ z. z < root) (sym same) lt) s.2))
      (λ new. ap deleted h.5 ∙ is_within u root h.1 wu.joined g.live (new_within h.1 h.6 new))
      (cases_lt h.1 root)
    where
      -- a block of an old region is old
      old_new : (b r : ℕ) → length t.bodies ≤ b → block_parent_of u b ≡ Some r → IsRegion t r → deleted (block_parent_operation_of u b) ≡ true
      old_new b r from e old =
          let layout : layout_of u r ≡ layout_of t r = keeps-old t.layouts u.layouts r [] (region_within r old) g.kept.layouts in
          let owned : block_parent_of t b ≡ Some r = wt.layouts.owned b r (subst (In b) layout (wu.layouts.listed b r e)) in
          let le = block-within t b wt.keys (ap is_some owned) in
          absurd (omega (arith, le, from))

  -- a new region that has blocks stands within the root
  new_region : (r : ℕ) → length t.layouts ≤ r → IsRegion u r → deleted (region_parent_of u r) ≡ true
  new_region r from is =
      let s = slot_is u r is in
      ⊎_elim
      (λ lt. absurd (let le = region_within r (old_region r s.0.op s.0.index lt s.2) in omega (arith, le, from)))
      (λ new. ap deleted (region_parent_is u r s.0 s.1) ∙ is_within u root s.0.op wu.joined g.live (new_within s.0.op (region_live u wu.joined s.0.op s.0.index r s.2) new))
      (cases_lt s.0.op root)

  block_or : (b : ℕ) → IsBlock u b ⊎ (block_parent_of u b ≡ None)
  block_or b = go (block_parent_of u b) refl
    where
      go : (o : Option ℕ) → block_parent_of u b ≡ o → IsBlock u b ⊎ (block_parent_of u b ≡ None)
      go None e = inr e
      go (Some r) e = inl (ap is_some e)

  -- an old block is not gone
  kept_block : (b : ℕ) → b < length t.bodies → deleted (block_parent_operation_of u b) ≡ true → ⊥
  kept_block b lt e = go (block_parent_of t b) refl
    where
      same : block_parent_of u b ≡ block_parent_of t b
      same = keeps-old t.block_parents u.block_parents b None (let f = wt.keys.block_parents in omega (arith, lt, f)) g.kept.more.block_parents

      go : (o : Option ℕ) → block_parent_of t b ≡ o → ⊥
      go None f = let m = met_above u root (block_parent_operation_of u b) e in not_none (sym (ap (λ o. up_from o (λ r. region_parent_of u r)) (same ∙ f)) ∙ m.1)
      go (Some r) f = let m = met_above u root (block_parent_operation_of u b) e in old_block b (ap is_some f) (m.0, m.1, m.2)

  block_table : {A : Type 0} (d : A) (xs ys : List A) → KeepsEntries xs ys → length xs ≡ length t.bodies → ((b : ℕ) → block_parent_of u b ≡ None → get_or ys b d ≡ d) → (b : ℕ) → get_or (blank_at (λ x. deleted (block_parent_operation_of u x)) d ys) b d ≡ get_or xs b d
  block_table d xs ys keeps count dead b = ⊎_elim old new (cases_lt b (length t.bodies))
    where
      old : b < length t.bodies → get_or (blank_at (λ x. deleted (block_parent_operation_of u x)) d ys) b d ≡ get_or xs b d
      old lt = ⊎_elim (λ e. absurd (kept_block b lt e)) (λ e. blanked_kept (λ x. deleted (block_parent_operation_of u x)) d ys b e ∙ keeps-old xs ys b d (subst (λ z. b < z) (sym count) lt) keeps) (true_or_false (deleted (block_parent_operation_of u b)))

      nothing : deleted (block_parent_operation_of u b) ≡ false → length t.bodies ≤ b → get_or ys b d ≡ d
      nothing e from = ⊎_elim (λ is. absurd (true≢false (sym (new_block b from is) ∙ e))) (λ no. dead b no) (block_or b)

      new : length t.bodies ≤ b → get_or (blank_at (λ x. deleted (block_parent_operation_of u x)) d ys) b d ≡ get_or xs b d
      new from = ⊎_elim (λ e. blanked_gone (λ x. deleted (block_parent_operation_of u x)) d ys b e) (λ e. blanked_kept (λ x. deleted (block_parent_operation_of u x)) d ys b e ∙ nothing e from) (true_or_false (deleted (block_parent_operation_of u b))) ∙ sym (get_or_past xs b d (subst (λ z. z ≤ b) (sym count) from))

  -- a region with a block stands
  filled : (w : Tree) → IsTree w → (r b : ℕ) (bs : List ℕ) → layout_of w r ≡ b ∷ bs → IsRegion w r
  filled w is r b bs e = is.joined.placed b r (is.layouts.owned b r (subst (In b) (sym e) (inl refl)))

  layout_table : (r : ℕ) → get_or (blank_at (λ x. deleted (region_parent_of u x)) [] u.layouts) r [] ≡ layout_of t r
  layout_table r = ⊎_elim old new (cases_lt r (length t.layouts))
    where
      both : (xs : List ℕ) → layout_of u r ≡ xs → (deleted (region_parent_of u r) ≡ true → xs ≡ []) → get_or (blank_at (λ x. deleted (region_parent_of u x)) [] u.layouts) r [] ≡ xs
      both xs e none = ⊎_elim (λ h. blanked_gone (λ x. deleted (region_parent_of u x)) [] u.layouts r h ∙ sym (none h)) (λ h. blanked_kept (λ x. deleted (region_parent_of u x)) [] u.layouts r h ∙ e) (true_or_false (deleted (region_parent_of u r)))

      not_gone : IsRegion t r → deleted (region_parent_of u r) ≡ true → ⊥
      not_gone is h =
          let s = slot_is t r is in
          let m = met_above u root (region_parent_of u r) h in
          let same : s.0.op ≡ m.0 = some_is (sym (region_parent_is u r s.0 (g.kept.more.slots r s.0 s.1)) ∙ m.1) in
          old_not_within s.0.op (old_live s.0.op (region_live t wt.joined s.0.op s.0.index r s.2)) (subst (IsWithin u root) (sym same) m.2)

      old : r < length t.layouts → get_or (blank_at (λ x. deleted (region_parent_of u x)) [] u.layouts) r [] ≡ layout_of t r
      old lt = both (layout_of t r) (keeps-old t.layouts u.layouts r [] lt g.kept.layouts) (λ h. go (layout_of t r) refl h)
        where
          go : (xs : List ℕ) → layout_of t r ≡ xs → deleted (region_parent_of u r) ≡ true → layout_of t r ≡ []
          go [] e h = e
          go (b ∷ bs) e h = absurd (not_gone (filled t wt r b bs e) h)

      empty : deleted (region_parent_of u r) ≡ false → length t.layouts ≤ r → (xs : List ℕ) → layout_of u r ≡ xs → layout_of u r ≡ []
      empty h from [] e = e
      empty h from (b ∷ bs) e = absurd (true≢false (sym (new_region r from (filled u wu r b bs e)) ∙ h))

      new : length t.layouts ≤ r → get_or (blank_at (λ x. deleted (region_parent_of u x)) [] u.layouts) r [] ≡ layout_of t r
      new from = ⊎_elim (λ h. blanked_gone (λ x. deleted (region_parent_of u x)) [] u.layouts r h) (λ h. blanked_kept (λ x. deleted (region_parent_of u x)) [] u.layouts r h ∙ empty h from (layout_of u r) refl) (true_or_false (deleted (region_parent_of u r))) ∙ sym (get_or_past t.layouts r [] from)

  cleared-same : IsSameTree t (after_clearing u (nat_eq root))
  cleared-same = record {
    operations = op_table no_entry t.operations u.operations g.kept.more.operations (sym g.fresh) (λ k dead. (named_live k dead).2);
    operands = op_table [] t.operands u.operands g.kept.operands (wt.keys.operands ∙ sym g.fresh) (λ k dead. (named_live k dead).0);
    successors = op_table [] t.successors u.successors g.kept.successors (wt.keys.successors ∙ sym g.fresh) (λ k dead. (named_live k dead).1);
    parents = op_table None t.parents u.parents g.kept.more.parents (wt.keys.parents ∙ sym g.fresh) dead_parent;
    bodies = block_table [] t.bodies u.bodies g.kept.bodies refl (λ b no. (wu.joined.unplaced b no).1);
    arguments = block_table [] t.arguments u.arguments g.kept.more.arguments wt.keys.arguments (λ b no. (wu.joined.unplaced b no).0);
    block_parents = block_table None t.block_parents u.block_parents g.kept.more.block_parents wt.keys.block_parents (λ b no. no);
    layouts = layout_table;
  }

  pub undone : IsSameTree t (after_erasing u root)
  undone = subst (λ o. IsSameTree t (after_clearing (taken_from u root o) (nat_eq root))) (sym g.loose) cleared-same
