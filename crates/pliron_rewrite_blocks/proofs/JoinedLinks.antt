-- What is joined is well linked, and nothing changed outside what holds the blocks.
use Rattle.std.proofs.Common.{◌≡◌, ◌≢◌, ◌⊎◌, inl, inr, ⊎_elim, ℕ, List, [], ◌∷◌, length, Option, Some, None, IsSome, is_some, refl, sym, ap, ◌∙◌, subst}
use Rattle.std.proofs.lemmas.Bool.{cases_eq}
use Rattle.pliron_core.specs.Changes.{IsOutside, IsBlockOutside, IsRegionOutside, IsInsideChange}
use Rattle.pliron_core.specs.Tree.{Tree, In, last_of, IsLive, IsBlock, IsInside.Directly, head_of, successors_of, regions_of, parent_of, body_of, block_parent_of, layout_of, region_parent_of, block_parent_operation_of, parent_operation_of, up_from}
use Rattle.pliron_core.specs.Invariant.{IsTree}
use Rattle.pliron_core.proofs.EditLemmas.{without-out}
use Rattle.pliron_core.proofs.RowLemmas.{last_of-append}
use Rattle.pliron_core.proofs.NeighbourLemmas.{last_of-In}
use Rattle.pliron_core.proofs.WithinLemmas.{holder_steps, block_holder_from}
use Rattle.pliron_core.proofs.HoldingLemmas.{some_is, not_none, some_of, holder_by}
use Rattle.pliron_core.proofs.InsideLemmas.{AreKeptOutside, change_of_kept}
use Rattle.pliron_core.proofs.WriteInsideLemmas.{same_block, same_operation}
use Rattle.pliron_laws.specs.Datum.{Meaning}
use Rattle.pliron_laws.specs.Linked.{EndsBlock, IsAdmitted}
use Rattle.pliron_theory.specs.Splicing.{IsSpliced}
use Rattle.pliron_theory.proofs.SweptStays.{admitted_same}
use Rattle.pliron_rewrite_blocks.specs.Links.{JoinedLinksLaw}
use Rattle.pliron_rewrite_blocks.specs.Inside.{JoinedInsideLaw}
use Rattle.pliron_rewrite_blocks.proofs.ListLemmas.{last_some}
use Rattle.pliron_rewrite_blocks.proofs.StandingLemmas.{live_by, block_was, none_outside, no_block_outside, slot_still, made_still, links_stay}

module _ (t v : Tree) (a b jump : ℕ) (front : List ℕ) (w : IsTree t) (wv : IsTree v) (h : IsSpliced t v a b jump front) where
  op_left : (k : ℕ) → IsLive v k → k ≢ jump
  op_left k live e = let x = some_of (head_of v k) live in not_none (sym h.deleted ∙ ap (head_of v) (sym e) ∙ x.1)

  block_left : (c : ℕ) → IsBlock v c → c ≢ b
  block_left c is e = let x = some_of (block_parent_of v c) is in not_none (sym h.detached_block ∙ ap (block_parent_of v) (sym e) ∙ x.1)

  regions_left : (k : ℕ) → IsLive v k → regions_of v k ≡ regions_of t k
  regions_left k live = ap (λ z. z.regions) (h.rows k (op_left k live))

  parents_left : (c : ℕ) → IsBlock v c → block_parent_of v c ≡ block_parent_of t c
  parents_left c is = h.block_parents c (block_left c is)

  abbrev blocks_were : (c k : ℕ) → block_parent_operation_of v c ≡ Some k → block_parent_operation_of t c ≡ Some k
  blocks_were = block_was t v w wv regions_left parents_left

  -- where an operation that is left stood
  stood : (k c : ℕ) → k ≢ jump → parent_of v k ≡ Some c → (parent_of t k ≡ Some c) ⊎ ((parent_of t k ≡ Some b) × (c ≡ a))
  stood k c ne e = go (parent_of t k) refl
    where
      go : (o : Option ℕ) → parent_of t k ≡ o → (parent_of t k ≡ Some c) ⊎ ((parent_of t k ≡ Some b) × (c ≡ a))
      go None f = absurd (not_none (sym (h.parents k ne (λ q. not_none (sym f ∙ q)) ∙ f) ∙ e))
      go (Some d) f = ⊎_elim
          (λ s. inr (f ∙ ap Some s, some_is (sym e ∙ h.moved k (f ∙ ap Some s))))
          (λ nb. inl (sym (h.parents k ne (λ q. nb (some_is (sym f ∙ q)))) ∙ e))
          (cases_eq d b)

  beside : block_parent_operation_of t b ≡ block_parent_operation_of t a
  beside = ap (λ o. up_from o (λ r. region_parent_of t r)) h.beside

  holder_was : (x y : ℕ) → parent_operation_of v x ≡ Some y → parent_operation_of t x ≡ Some y
  holder_was x y e =
      let s = holder_steps v x y e in
      let ne = op_left x (wv.joined.all_in_place x s.0 s.1).0 in
      ⊎_elim
      (λ p. holder_by t x s.0 y p (blocks_were s.0 y s.2))
      (λ p. holder_by t x b y p.0 (beside ∙ ap (block_parent_operation_of t) (sym p.1) ∙ blocks_were s.0 y s.2))
      (stood x s.0 ne s.1)

  jump_last : last_of None (body_of t a) ≡ Some jump
  jump_last = ap (last_of None) h.split ∙ last_of-append None front (jump ∷ [])

  ends : (k s : ℕ) → In s (successors_of v k) → EndsBlock t k → EndsBlock v k
  ends k s i was = at_block (cases_eq was.block b)
    where
      ne : k ≢ jump
      ne = op_left k (live_by v wv k s i)

      same : successors_of v k ≡ successors_of t k
      same = h.successors k ne

      -- its targets stand where they stood
      targets : (x : ℕ) → In x (successors_of v k) → block_parent_of v x ≡ block_parent_of t was.block
      targets x j = h.block_parents x (block_left x (wv.joined.successors k x j)) ∙ was.own_region x (subst (In x) same j)

      at_block : (was.block ≡ b) ⊎ (was.block ≢ b) → EndsBlock v k
      at_block (inl e) = record {
        block = a;
        in_block = h.moved k (was.in_block ∙ ap Some e);
        last = ap (last_of None) h.joined ∙ last_of-append None front (body_of t b) ∙ last_some (last_of None front) (body_of t b) k (ap (λ c. last_of None (body_of t c)) (sym e) ∙ was.last);
        own_region = λ x j. targets x j ∙ ap (block_parent_of t) e ∙ h.beside ∙ sym (h.block_parents a h.apart);
      }
      at_block (inr nb) = record {
        block = was.block;
        in_block = h.parents k ne (λ q. nb (some_is (sym was.in_block ∙ q))) ∙ was.in_block;
        last = ap (last_of None) (h.bodies was.block (λ e. ne (some_is (sym was.last ∙ ap (λ c. last_of None (body_of t c)) e ∙ jump_last))) nb) ∙ was.last;
        own_region = λ x j. targets x j ∙ sym (h.block_parents was.block nb);
      }

  admits : (m : Meaning) (k : ℕ) → IsAdmitted m t k → IsAdmitted m v k
  admits m k q x e =
      let ne = op_left k (ap is_some e) in
      let row = h.rows k ne in
      admitted_same m t v k (ap (λ z. z.head) row) (ap length (h.operands k ne)) (ap (λ z. length z.results) row) (ap length (h.successors k ne)) (ap (λ z. length z.regions) row) q x e

  -- what stands outside the parent operation of the blocks stays
  module _ (holder : ℕ) (held : block_parent_operation_of t a ≡ Some holder) where
    in_a : parent_of t jump ≡ Some a
    in_a = w.bodies.owned jump a (last_of-In jump (body_of t a) jump_last)

    out_jump : (x : ℕ) → IsOutside t holder x → x ≢ jump
    out_jump x o e = o.1 (Directly (ap (parent_operation_of t) e ∙ holder_by t jump a holder in_a held))

    out_b : (x : ℕ) → IsOutside t holder x → parent_of t x ≢ Some b
    out_b x o e = o.1 (Directly (holder_by t x b holder e (beside ∙ held)))

    block_out_a : (c : ℕ) → IsBlockOutside t holder c → c ≢ a
    block_out_a c o e = o.1 (holder, ap (block_parent_operation_of t) e ∙ held, inl refl)

    block_out_b : (c : ℕ) → IsBlockOutside t holder c → c ≢ b
    block_out_b c o e = o.1 (holder, ap (block_parent_operation_of t) e ∙ beside ∙ held, inl refl)

    layout_out : (r : ℕ) → IsRegionOutside t holder r → layout_of v r ≡ layout_of t r
    layout_out r o = h.layouts r ∙ without-out b (layout_of t r) (λ i. o.1 (holder, sym (block_holder_from t b r (w.layouts.owned b r i)) ∙ beside ∙ held, inl refl))

    kept : AreKeptOutside t v holder
    kept = record {
      operations = λ x o. let n = out_jump x o in same_operation t v holder x (h.rows x n) (h.operands x n) (h.successors x n) (h.parents x n (out_b x o));
      blocks = λ c o. same_block t v c (h.arguments c (block_out_b c o)) (h.bodies c (block_out_a c o) (block_out_b c o)) (h.block_parents c (block_out_b c o));
      regions = λ r o. record { layout = layout_out r o; slot = slot_still t v holder w wv (λ x q. h.rows x (out_jump x q)) r o };
      values = made_still t v holder w wv (λ x q. h.rows x (out_jump x q)) (λ c q. h.arguments c (block_out_b c q));
    }

    was_live : (x : ℕ) → IsLive v x → IsLive t x
    was_live x l = subst (λ z. IsSome z.head) (h.rows x (op_left x l)) l

    placed : (x d : ℕ) → IsLive v x → parent_of t x ≡ Some d → IsSome (parent_of v x)
    placed x d l e = ⊎_elim
        (λ s. subst IsSome (sym (h.moved x (e ∙ ap Some s))) refl)
        (λ n. subst IsSome (sym (h.parents x (op_left x l) (λ q. n (some_is (sym e ∙ q))) ∙ e)) refl)
        (cases_eq d b)

    pub inside_alone : IsInsideChange t v holder
    inside_alone = change_of_kept t v holder w.joined kept (none_outside t v w wv regions_left parents_left was_live holder_was placed holder) (no_block_outside t v w wv regions_left parents_left was_live holder_was placed holder)

pub joined_links : JoinedLinksLaw
joined_links m t v a b jump front w wv h = links_stay m t v (record {
  holders = holder_was t v a b jump front w wv h;
  block_holders = blocks_were t v a b jump front w wv h;
  targets = λ k s i. subst (In s) (h.successors k (op_left t v a b jump front w wv h k (live_by v wv k s i))) i;
  ends = ends t v a b jump front w wv h;
  admits = admits t v a b jump front w wv h m;
})

pub joined_inside : JoinedInsideLaw
joined_inside t v holder a b jump front w wv held h = inside_alone t v a b jump front w wv h holder held
