-- Where another branch stands in the place of a branch, nothing changed outside what holds it.
use Rattle.std.proofs.Common.{◌≡◌, ◌≢◌, inl, inr, ℕ, List, [], ◌∷◌, Some, None, IsSome, is_some, refl, sym, ap, ◌∙◌, subst}
use Rattle.std.proofs.lemmas.Bool.{cases_eq}
use Rattle.pliron_core.specs.Changes.{IsOutside, IsBlockOutside, IsInsideChange}
use Rattle.pliron_core.specs.Tree.{Tree, In, row_of, head_of, regions_of, IsLive, IsBlock, IsInside, IsInside.Directly, IsInside.Deeper, IsWithin, parent_of, body_of, block_parent_of, block_parent_operation_of, parent_operation_of}
use Rattle.pliron_core.specs.Invariant.{IsTree}
use Rattle.pliron_core.proofs.ListLemmas.{In-right}
use Rattle.pliron_core.proofs.WithinLemmas.{holder_steps}
use Rattle.pliron_core.proofs.HoldingLemmas.{some_is, not_none, some_of, holder_by, holder_is, holder_live, block_held}
use Rattle.pliron_core.proofs.InsideLemmas.{AreKeptOutside, change_of_kept, widen}
use Rattle.pliron_core.proofs.WriteInsideLemmas.{same_block, same_operation}
use Rattle.pliron_theory.specs.Rebranching.{IsRebranched}
use Rattle.pliron_rewrite_blocks.specs.Inside.{RebranchedInsideLaw}
use Rattle.pliron_rewrite_blocks.proofs.StandingLemmas.{block_still, slot_still, made_still}

module _ (t v : Tree) (a op new : ℕ) (front : List ℕ) (w : IsTree t) (wv : IsTree v) (h : IsRebranched t v a op new front) where
  in_a : parent_of t op ≡ Some a
  in_a = w.bodies.owned op a (subst (In op) (sym h.split) (In-right op front (op ∷ []) (inl refl)))

  new_in_a : parent_of v new ≡ Some a
  new_in_a = wv.bodies.owned new a (subst (In new) (sym h.put) (In-right new front (new ∷ []) (inl refl)))

  -- the new operation did not stand, and the old one does not
  pub not_new : (x : ℕ) → IsLive t x → x ≢ new
  not_new x l e = let y = some_of (head_of t x) l in not_none (sym h.fresh ∙ ap (head_of t) (sym e) ∙ y.1)

  not_op : (x : ℕ) → IsLive v x → x ≢ op
  not_op x l e = let y = some_of (head_of v x) l in not_none (sym h.deleted ∙ ap (head_of v) (sym e) ∙ y.1)

  regions_left : (k : ℕ) → IsLive v k → regions_of v k ≡ regions_of t k
  regions_left k l = elim (cases_eq k new) [
    | inl e ↦ ap (regions_of v) e ∙ h.new_childless ∙ sym (ap (λ z. z.regions) (w.joined.erased new h.fresh).2) ∙ ap (regions_of t) (sym e)
    | inr ne ↦ ap (λ z. z.regions) (h.rows k (not_op k l) ne)
  ]

  block_stays : (b k : ℕ) → IsBlock v b → block_parent_operation_of t b ≡ Some k → block_parent_operation_of v b ≡ Some k
  block_stays = block_still t v w wv regions_left (λ b is. h.block_parents b)

  liveness : (x b : ℕ) → parent_of t x ≡ Some b → IsBlock v b
  liveness x b e = subst IsSome (sym (h.block_parents b)) (w.joined.all_in_place x b e).1

  holder_stays : (x p : ℕ) → x ≢ op → x ≢ new → parent_operation_of t x ≡ Some p → parent_operation_of v x ≡ Some p
  holder_stays x p other old e =
      let s = holder_steps t x p e in
      holder_by v x s.0 p (h.parents x other old ∙ s.1) (block_stays s.0 p (liveness x s.0 s.1) s.2)

  -- what stands after and holds something stood before
  pub inside_stays : (k x : ℕ) → IsLive v x → x ≢ new → IsInside t k x → IsInside v k x
  inside_stays k x l old (Directly e) = Directly (holder_stays x k (not_op x l) old e)
  inside_stays k x l old (Deeper p e i) =
      let up = holder_stays x p (not_op x l) old e in
      Deeper p up (inside_stays k p (holder_live v x p wv.joined up).1 (not_new p (holder_live t x p w.joined e).1) i)

  within_stays : (k x : ℕ) → IsLive v x → x ≢ new → IsWithin t k x → IsWithin v k x
  within_stays k x l old (inl e) = inl e
  within_stays k x l old (inr i) = inr (inside_stays k x l old i)

  module _ (holder : ℕ) (held : block_parent_operation_of t a ≡ Some holder) where
    out_op : (x : ℕ) → IsOutside t holder x → x ≢ op
    out_op x o e = o.1 (Directly (ap (parent_operation_of t) e ∙ holder_by t op a holder in_a held))

    out_a : (c : ℕ) → IsBlockOutside t holder c → c ≢ a
    out_a c o e = o.1 (holder, ap (block_parent_operation_of t) e ∙ held, inl refl)

    out_new : (x : ℕ) → IsOutside v holder x → x ≢ new
    out_new x o e = o.1 (Directly (ap (parent_operation_of v) e ∙ holder_by v new a holder new_in_a (block_stays a holder (liveness op a in_a) held)))

    rows_kept : (x : ℕ) → IsOutside t holder x → row_of v x ≡ row_of t x
    rows_kept x o = h.rows x (out_op x o) (not_new x o.0)

    kept : AreKeptOutside t v holder
    kept = record {
      operations = λ x o. let other = out_op x o in let old = not_new x o.0 in same_operation t v holder x (h.rows x other old) (h.operands x other old) (h.successors x other old) (h.parents x other old);
      blocks = λ c o. same_block t v c (h.arguments c) (h.bodies c (out_a c o)) (h.block_parents c);
      regions = λ r o. record { layout = h.layouts r; slot = slot_still t v holder w wv rows_kept r o };
      values = made_still t v holder w wv rows_kept (λ c q. h.arguments c);
    }

    none_outside : (x : ℕ) → IsOutside v holder x → IsOutside t holder x
    none_outside x o =
        let old = out_new x o in
        let other = not_op x o.0 in
        (subst (λ z. IsSome z.head) (h.rows x other old) o.0, λ i. o.1 (inside_stays holder x o.0 old i))

    no_block_outside : (b : ℕ) → IsBlockOutside v holder b → IsBlockOutside t holder b
    no_block_outside b o = (
      subst IsSome (h.block_parents b) o.0,
      λ x.
          let up = block_stays b x.0 o.0 x.1 in
          let there = block_held v b wv.joined o.0 in
          let live : IsLive v x.0 = subst (IsLive v) (some_is (sym there.5 ∙ up)) there.6 in
          let before = block_held t b w.joined (subst IsSome (h.block_parents b) o.0) in
          o.1 (x.0, up, within_stays holder x.0 live (not_new x.0 (subst (IsLive t) (some_is (sym before.5 ∙ x.1)) before.6)) x.2),
    )

    pub inside_alone : IsInsideChange t v holder
    inside_alone = change_of_kept t v holder w.joined kept none_outside no_block_outside

pub rebranched_inside : RebranchedInsideLaw
rebranched_inside t v root a op new front w wv (Directly e) h =
    let s = holder_is t op root e in
    let here = some_is (sym s.1 ∙ in_a t v a op new front w wv h) in
    inside_alone t v a op new front w wv h root (ap (block_parent_operation_of t) (sym here) ∙ s.2)
rebranched_inside t v root a op new front w wv (Deeper p e i) h =
    let s = holder_is t op p e in
    let here = some_is (sym s.1 ∙ in_a t v a op new front w wv h) in
    widen t v root p w.joined i (inside_alone t v a op new front w wv h p (ap (block_parent_operation_of t) (sym here) ∙ s.2))
