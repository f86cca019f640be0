-- What is left without some blocks is well linked, and nothing changed outside what holds them.
use Rattle.std.proofs.Common.{◌≡◌, inl, inr, ⊎_elim, ℕ, true, false, refl, true≢false, List, length, Some, None, IsSome, is_some, sym, ap, ◌∙◌, subst}
use Rattle.std.proofs.lemmas.Bool.{false_from_ne_true}
use Rattle.pliron_core.specs.Changes.{IsOutside, IsBlockOutside, IsRegionOutside, IsInsideChange}
use Rattle.pliron_core.specs.Tree.{Tree, In, last_of, IsLive, IsBlock, IsInside, IsInside.Directly, successors_of, regions_of, parent_of, block_parent_of, region_parent_of, block_parent_operation_of, parent_operation_of, layout_of}
use Rattle.pliron_core.specs.Invariant.{IsTree}
use Rattle.pliron_core.specs.Erased.{is_met_above}
use Rattle.pliron_core.proofs.WithinLemmas.{holder_steps, block_holder_from, met_within}
use Rattle.pliron_core.proofs.HoldingLemmas.{slot_is, region_parent_is, holder_by, within_inside}
use Rattle.pliron_core.proofs.InsideLemmas.{AreKeptOutside, change_of_kept, region_holder_outside}
use Rattle.pliron_core.proofs.WriteInsideLemmas.{same_block, same_operation}
use Rattle.pliron_laws.specs.Datum.{Meaning}
use Rattle.pliron_laws.specs.Linked.{EndsBlock, IsAdmitted}
use Rattle.pliron_theory.proofs.SweptStays.{admitted_same}
use Rattle.pliron_rewrite_blocks.specs.Cutting.{is_in_one_of, cut_op, cut_block, AreCut}
use Rattle.pliron_rewrite_blocks.specs.Links.{CutLinksLaw}
use Rattle.pliron_rewrite_blocks.specs.Inside.{CutInsideLaw}
use Rattle.pliron_rewrite_blocks.proofs.CutBlocks.{one_stands, block_cases}
use Rattle.pliron_rewrite_blocks.proofs.StandingLemmas.{live_by, block_was, none_outside, no_block_outside, slot_still, made_still, links_stay}

module _ (t v : Tree) (region : ℕ) (bs : List ℕ) (w : IsTree t) (wv : IsTree v) (c : AreCut t v region bs) where
  -- what stands is not cut
  op_left : (k : ℕ) → IsLive v k → cut_op t bs k ≡ false
  op_left k live = false_from_ne_true _ (λ e. true≢false (sym live ∙ ap is_some (c.deleted k e)))

  block_left : (b : ℕ) → IsBlock v b → cut_block t bs b ≡ false
  block_left b is = false_from_ne_true _ (λ e. true≢false (sym is ∙ ap is_some (c.detached_blocks b e)))

  regions_left : (k : ℕ) → IsLive v k → regions_of v k ≡ regions_of t k
  regions_left k live = ap (λ z. z.regions) (c.rows k (op_left k live))

  parents_left : (b : ℕ) → IsBlock v b → block_parent_of v b ≡ block_parent_of t b
  parents_left b is = c.block_parents b (block_left b is)

  abbrev blocks_were : (b k : ℕ) → block_parent_operation_of v b ≡ Some k → block_parent_operation_of t b ≡ Some k
  blocks_were = block_was t v w wv regions_left parents_left

  holder_was : (x y : ℕ) → parent_operation_of v x ≡ Some y → parent_operation_of t x ≡ Some y
  holder_was x y e =
      let s = holder_steps v x y e in
      let live = (wv.joined.all_in_place x s.0 s.1).0 in
      holder_by t x s.0 y (sym (c.parents x (op_left x live)) ∙ s.1) (blocks_were s.0 y s.2)

  ends : (k s : ℕ) → In s (successors_of v k) → EndsBlock t k → EndsBlock v k
  ends k s i was =
      let left = op_left k (live_by v wv k s i) in
      let at : parent_of v k ≡ Some was.block = c.parents k left ∙ was.in_block in
      let liveness = (wv.joined.all_in_place k was.block at).1 in
      record {
        block = was.block;
        in_block = at;
        last = ap (last_of None) (c.bodies was.block (block_left was.block liveness)) ∙ was.last;
        own_region = λ x j. c.block_parents x (block_left x (wv.joined.successors k x j)) ∙ was.own_region x (subst (In x) (c.successors k left) j) ∙ sym (c.block_parents was.block (block_left was.block liveness));
      }

  admits : (m : Meaning) (k : ℕ) → IsAdmitted m t k → IsAdmitted m v k
  admits m k a x e =
      let left = op_left k (ap is_some e) in
      let row = c.rows k left in
      admitted_same m t v k (ap (λ z. z.head) row) (ap length (c.operands k left)) (ap (λ z. length z.results) row) (ap length (c.successors k left)) (ap (λ z. length z.regions) row) a x e

  -- what stands outside the parent operation of the region is not cut
  module _ (holder : ℕ) (held : region_parent_of t region ≡ Some holder) (own : (b : ℕ) → In b bs → block_parent_of t b ≡ Some region) where
    cut_within : (x : ℕ) → cut_op t bs x ≡ true → IsInside t holder x
    cut_within x e =
        let y = met_within t (is_in_one_of t bs) (length t.operations) x e in
        let b = one_stands t bs y.0 y.1 in
        within_inside (Directly (holder_by t y.0 b.0 holder b.2 (block_holder_from t b.0 region (own b.0 b.1) ∙ held))) y.2

    out_left : (x : ℕ) → IsOutside t holder x → cut_op t bs x ≡ false
    out_left x o = false_from_ne_true _ (λ e. o.1 (cut_within x e))

    block_out_left : (b : ℕ) → IsBlockOutside t holder b → cut_block t bs b ≡ false
    block_out_left b o = false_from_ne_true _ (λ e. ⊎_elim
        (λ i. o.1 (holder, block_holder_from t b region (own b i) ∙ held, inl refl))
        (λ y. o.1 (y.0, y.1, inr (cut_within y.0 y.2)))
        (block_cases t bs b e))

    layout_out : (r : ℕ) → IsRegionOutside t holder r → layout_of v r ≡ layout_of t r
    layout_out r o =
        let s = slot_is t r o.0 in
        let up = region_parent_is t r s.0 s.1 in
        let out = region_holder_outside t holder w.joined r s.0.op s.0.index o up s.2 in
        c.layouts r (λ e. o.1 (holder, ap (region_parent_of t) e ∙ held, inl refl)) (ap (is_met_above t (is_in_one_of t bs)) up ∙ out_left s.0.op out)

    kept : AreKeptOutside t v holder
    kept = record {
      operations = λ x o. let l = out_left x o in same_operation t v holder x (c.rows x l) (c.operands x l) (c.successors x l) (c.parents x l);
      blocks = λ b o. let l = block_out_left b o in same_block t v b (c.arguments b l) (c.bodies b l) (c.block_parents b l);
      regions = λ r o. record { layout = layout_out r o; slot = slot_still t v holder w wv (λ x q. c.rows x (out_left x q)) r o };
      values = made_still t v holder w wv (λ x q. c.rows x (out_left x q)) (λ b q. c.arguments b (block_out_left b q));
    }

    was_live : (x : ℕ) → IsLive v x → IsLive t x
    was_live x l = subst (λ z. IsSome z.head) (c.rows x (op_left x l)) l

    placed : (x d : ℕ) → IsLive v x → parent_of t x ≡ Some d → IsSome (parent_of v x)
    placed x d l e = subst IsSome (sym (c.parents x (op_left x l) ∙ e)) refl

    pub inside_alone : IsInsideChange t v holder
    inside_alone = change_of_kept t v holder w.joined kept (none_outside t v w wv regions_left parents_left was_live holder_was placed holder) (no_block_outside t v w wv regions_left parents_left was_live holder_was placed holder)

pub cut_links : CutLinksLaw
cut_links m t v region bs w wv c = links_stay m t v (record {
  holders = holder_was t v region bs w wv c;
  block_holders = blocks_were t v region bs w wv c;
  targets = λ k s i. subst (In s) (c.successors k (op_left t v region bs w wv c k (live_by v wv k s i))) i;
  ends = ends t v region bs w wv c;
  admits = admits t v region bs w wv c m;
})

pub cut_inside : CutInsideLaw
cut_inside t v region holder bs w wv held own c = inside_alone t v region bs w wv c holder held own
