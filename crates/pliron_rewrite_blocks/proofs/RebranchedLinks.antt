-- Trees stay well linked where another branch stands in the place of a branch.
use Rattle.std.proofs.Common.{◌≡◌, ◌≢◌, ◌⊎◌, inl, inr, ℕ, List, [], ◌∷◌, length, Some, None, is_some, sym, ap, ◌∙◌, subst}
use Rattle.std.proofs.lemmas.Bool.{cases_eq}
use Rattle.pliron_core.specs.Tree.{Tree, In, last_of, IsLive, IsInside, IsInside.Directly, IsInside.Deeper, IsWithin, HoldsBlock, successors_of, regions_of, body_of, block_parent_of, block_parent_operation_of, parent_operation_of}
use Rattle.pliron_core.specs.Invariant.{IsTree}
use Rattle.pliron_core.proofs.RowLemmas.{last_of-append}
use Rattle.pliron_core.proofs.WithinLemmas.{holder_steps}
use Rattle.pliron_core.proofs.HoldingLemmas.{some_is, in_slice, holder_by}
use Rattle.pliron_laws.specs.Datum.{Meaning}
use Rattle.pliron_laws.specs.Linked.{EndsBlock, IsAdmitted, IsWellLinked}
use Rattle.pliron_theory.specs.Rebranching.{IsRebranched}
use Rattle.pliron_theory.proofs.RebranchedAgree.{op_in, new_in, live_new}
use Rattle.pliron_theory.proofs.SweptParts.{block_place_of}
use Rattle.pliron_theory.proofs.SweptStays.{admitted_same}
use Rattle.pliron_rewrite_blocks.specs.Links.{RebranchedLinksLaw}
use Rattle.pliron_rewrite_blocks.proofs.StandingLemmas.{live_by, block_was}

module _ (m : Meaning) (t v : Tree) (a op new : ℕ) (front : List ℕ) (w : IsTree t) (wv : IsTree v) (h : IsRebranched t v a op new front) (fresh : IsAdmitted m v new) where
  not_op : (k : ℕ) → IsLive v k → k ≢ op
  not_op k l = live_new m t v a op new front w wv h k l

  regions_left : (k : ℕ) → IsLive v k → regions_of v k ≡ regions_of t k
  regions_left k l = elim (cases_eq k new) [
    | inl e ↦ ap (regions_of v) e ∙ h.new_childless ∙ sym (ap (λ z. z.regions) (w.joined.erased new h.fresh).2) ∙ ap (regions_of t) (sym e)
    | inr ne ↦ ap (λ z. z.regions) (h.rows k (not_op k l) ne)
  ]

  abbrev blocks_were : (b k : ℕ) → block_parent_operation_of v b ≡ Some k → block_parent_operation_of t b ≡ Some k
  blocks_were = block_was t v w wv regions_left (λ b is. h.block_parents b)

  -- the new operation holds nothing
  holds_none : (b : ℕ) → block_parent_operation_of v b ≡ Some new → ⊥
  holds_none b e =
      let p = block_place_of v wv b new e in
      absurd (subst (In p.region) h.new_childless (in_slice (regions_of v new) p.index p.region p.listed))

  holds_other : (b k : ℕ) → block_parent_operation_of v b ≡ Some k → k ≢ new
  holds_other b k e s = holds_none b (e ∙ ap Some s)

  above_other : (x y : ℕ) → parent_operation_of v x ≡ Some y → y ≢ new
  above_other x y e = let s = holder_steps v x y e in holds_other s.0 y s.2

  holder_was : (x y : ℕ) → x ≢ new → parent_operation_of v x ≡ Some y → parent_operation_of t x ≡ Some y
  holder_was x y ne e =
      let s = holder_steps v x y e in
      let l = (wv.joined.all_in_place x s.0 s.1).0 in
      holder_by t x s.0 y (sym (h.parents x (not_op x l) ne) ∙ s.1) (blocks_were s.0 y s.2)

  inside_was : (root x : ℕ) → x ≢ new → IsInside v root x → IsInside t root x
  inside_was root x ne (Directly e) = Directly (holder_was x root ne e)
  inside_was root x ne (Deeper p e i) = Deeper p (holder_was x p ne e) (inside_was root p (above_other x p e) i)

  within_was : (root x : ℕ) → x ≢ new → IsWithin v root x → IsWithin t root x
  within_was root x ne (inl e) = inl e
  within_was root x ne (inr i) = inr (inside_was root x ne i)

  -- the old branch stood where the new one stands
  old_holder : (y : ℕ) → parent_operation_of v new ≡ Some y → parent_operation_of t op ≡ Some y
  old_holder y e =
      let s = holder_steps v new y e in
      let same : s.0 ≡ a = some_is (sym s.1 ∙ new_in m t v a op new front w wv h) in
      holder_by t op a y (op_in m t v a op new front w wv h) (blocks_were a y (subst (λ z. block_parent_operation_of v z ≡ Some y) same s.2))

  old_inside : (root : ℕ) → IsInside v root new → IsInside t root op
  old_inside root (Directly e) = Directly (old_holder root e)
  old_inside root (Deeper p e i) = Deeper p (old_holder p e) (inside_was root p (above_other new p e) i)

  held_was : (root s : ℕ) → HoldsBlock v root s → HoldsBlock t root s
  held_was root s x = (x.0, blocks_were s x.0 x.1, within_was root x.0 (holds_other s x.0 x.1) x.2)

  module _ (root : ℕ) (l : IsWellLinked m t root) where
    new_ends : (s : ℕ) → In s (successors_of v new) → IsInside v root new ⊎ HoldsBlock v root s → EndsBlock v new
    new_ends s i held = record {
      block = a;
      in_block = new_in m t v a op new front w wv h;
      last = ap (last_of None) h.put ∙ last_of-append None front (new ∷ []);
      own_region = λ x j. h.block_parents x ∙ ends.own_region x (h.new_successors x j) ∙ ap (block_parent_of t) (some_is (sym ends.in_block ∙ op_in m t v a op new front w wv h)) ∙ sym (h.block_parents a);
    }
      where
        before : IsInside v root new ⊎ HoldsBlock v root s → IsInside t root op ⊎ HoldsBlock t root s
        before (inl j) = inl (old_inside root j)
        before (inr x) = inr (held_was root s x)

        ends : EndsBlock t op
        ends = l.edges op s (h.new_successors s i) (before held)

    other_ends : (k s : ℕ) → k ≢ new → In s (successors_of v k) → IsInside v root k ⊎ HoldsBlock v root s → EndsBlock v k
    other_ends k s ne i held = record {
      block = ends.block;
      in_block = h.parents k no ne ∙ ends.in_block;
      last = ap (last_of None) (h.bodies ends.block not_a) ∙ ends.last;
      own_region = λ x j. h.block_parents x ∙ ends.own_region x (subst (In x) same j) ∙ sym (h.block_parents ends.block);
    }
      where
        no : k ≢ op
        no = not_op k (live_by v wv k s i)

        same : successors_of v k ≡ successors_of t k
        same = h.successors k no ne

        before : IsInside v root k ⊎ HoldsBlock v root s → IsInside t root k ⊎ HoldsBlock t root s
        before (inl j) = inl (inside_was root k ne j)
        before (inr x) = inr (held_was root s x)

        ends : EndsBlock t k
        ends = l.edges k s (subst (In s) same i) (before held)

        not_a : ends.block ≢ a
        not_a e = no (some_is (sym ends.last ∙ ap (λ z. last_of None (body_of t z)) e ∙ ap (last_of None) h.split ∙ last_of-append None front (op ∷ [])))

    admitted : (k : ℕ) → IsWithin v root k → IsAdmitted m v k
    admitted k i = elim (cases_eq k new) [
      | inl e ↦ subst (IsAdmitted m v) (sym e) fresh
      | inr ne ↦ λ x e.
          let no = not_op k (ap is_some e) in
          let row = h.rows k no ne in
          admitted_same m t v k (ap (λ z. z.head) row) (ap length (h.operands k no ne)) (ap (λ z. length z.results) row) (ap length (h.successors k no ne)) (ap (λ z. length z.regions) row) (l.admitted k (within_was root k ne i)) x e
    ]

    edge : (k s : ℕ) → In s (successors_of v k) → IsInside v root k ⊎ HoldsBlock v root s → EndsBlock v k
    edge k s i held = elim (cases_eq k new) [
      | inl e ↦ subst (EndsBlock v) (sym e) (new_ends s (subst (λ z. In s (successors_of v z)) e i) (subst (λ z. IsInside v root z ⊎ HoldsBlock v root s) e held))
      | inr ne ↦ other_ends k s ne i held
    ]

    pub rebranched_linked : IsWellLinked m v root
    rebranched_linked = record { edges = edge; admitted = admitted }

pub rebranched_links : RebranchedLinksLaw
rebranched_links m t v a op new front w wv h fresh root l = rebranched_linked m t v a op new front w wv h fresh root l
