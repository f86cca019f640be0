-- Which regions are visited and which blocks are reached, before and after two blocks were joined.
use Rattle.std.proofs.Common.{◌≡◌, ◌≢◌, inl, ⊎_elim, ℕ, Bool, true, false, List, [], ◌∷◌, Option, Some, None, slice_get, refl, sym, ap, ◌∙◌, subst}
use Rattle.std.proofs.lemmas.Bool.{cases_eq, false≢true}
use Rattle.std.proofs.lemmas.Bool.Decides.{eqb_tells}
use Rattle.std.proofs.Common.{if◌then◌else◌}
use Rattle.pliron_core.specs.Tree.{Tree, In, first_of, last_of, without, IsLive, IsRegion, regions_of, parent_of, body_of, block_parent_of, block_parent_operation_of, region_parent_of, slot_of, layout_of, op_of_slot}
use Rattle.pliron_core.specs.Invariant.{IsTree}
use Rattle.pliron_core.specs.Edges.{succs_of, succs_from}
use Rattle.pliron_core.specs.Reads.{has_ssa, has_ssa_at, ssa_in}
use Rattle.pliron_core.specs.Changes.{IsInsideChange}
use Rattle.pliron_core.proofs.NeighbourLemmas.{last_of-In}
use Rattle.pliron_core.proofs.RowLemmas.{last_of-append}
use Rattle.pliron_core.proofs.HoldingLemmas.{some_is, not_none, slot_is, region_by, region_live, in_slice}
use Rattle.pliron_laws.specs.Linked.{EdgesLast}
use Rattle.pliron_laws.specs.Paths.{Path}
use Rattle.pliron_theory.specs.Splicing.{IsSpliced}
use Rattle.pliron_opt_cfg.specs.Visited.{IsReachedIn, IsVisitedBlockIf, IsVisitedBlock, IsVisited, IsVisited.Starts, IsVisited.Nested}
use Rattle.pliron_rewrite_blocks.specs.Reaching.{LeadsTo, LeadsAlike}
use Rattle.pliron_rewrite_blocks.proofs.JoinedReach.{reaching}
use Rattle.pliron_opt_cfg.proofs.RegionReach.{IsHeld, reaches_leads, reached_in, entry_in, visited_held, reaches_more, leads_reaches, within_still}

-- operands are nothing to visits
entered_same : (t : Tree) (operands : List (List ℕ)) (z : Bool) (r b : ℕ) → IsVisitedBlockIf z t r b → IsVisitedBlockIf z (record t { operands = operands }) r b
entered_same t operands true r b x = x
entered_same t operands false r b x = x

pub visited_same : (t : Tree) (operands : List (List ℕ)) (S R : ℕ → Type 0) → ((r : ℕ) → S r → R r) → (r : ℕ) → IsVisited t S r → IsVisited (record t { operands = operands }) R r
visited_same t operands S R more r (Starts s) = Starts (more r s)
visited_same t operands S R more r (Nested outer b k v e at i) = Nested outer b k (visited_same t operands S R more outer v) (entered_same t operands (has_ssa t outer) outer b e) at i

first_same : (b : ℕ) (xs : List ℕ) → first_of xs None ≢ Some b → first_of (without b xs) None ≡ first_of xs None
first_same b [] ne = refl
first_same b (x ∷ xs) ne = ⊎_elim (λ y. absurd (ne (ap Some (sym y.1)))) (λ n. ap (λ z. first_of (if z then xs else x ∷ without b xs) None) n.0) (eqb_tells b x)

-- the jump has no regions, and neither has what is gone
pub spliced_regions : (u v : Tree) → IsTree v → (a b jump : ℕ) (front : List ℕ) → IsSpliced u v a b jump front → (k : ℕ) → regions_of v k ≡ regions_of u k
spliced_regions u v wv a b jump front s k = ⊎_elim
    (λ e. ap (regions_of v) e ∙ ap (λ z. z.regions) (wv.joined.erased jump s.deleted).2 ∙ sym s.childless ∙ ap (regions_of u) (sym e))
    (λ ne. ap (λ z. z.regions) (s.rows k ne))
    (cases_eq k jump)

module _ (u v : Tree) (w : IsTree u) (wv : IsTree v) (root holder a b jump : ℕ) (front : List ℕ) (s : IsSpliced u v a b jump front) (edges : EdgesLast u root) (edges_v : EdgesLast v root) (near : EdgesLast u holder) (held : block_parent_operation_of u a ≡ Some holder) (inside : IsInsideChange u v root) where
  not_jump : (k r : ℕ) → In r (regions_of u k) → k ≢ jump
  not_jump k r i e = subst (In r) (ap (regions_of u) e ∙ s.childless) i

  regions_same : (k : ℕ) → regions_of v k ≡ regions_of u k
  regions_same k = spliced_regions u v wv a b jump front s k

  alike : LeadsAlike u v b
  alike = reaching u v holder a b jump front w wv near held s

  -- a region keeps its operation
  slot_same : (r : ℕ) → IsRegion u r → slot_of v r ≡ slot_of u r
  slot_same r is = let x = slot_is u r is in wv.joined.regions x.0.op x.0.index r (ap (λ l. slice_get l x.0.index) (regions_same x.0.op) ∙ x.2) ∙ sym x.1

  pub held_still : (r : ℕ) → IsHeld u root r → IsHeld v root r
  held_still r h =
      let x = slot_is u r h.liveness in
      let there = ap (λ l. slice_get l x.0.index) (regions_same x.0.op) ∙ x.2 in
      let slot = wv.joined.regions x.0.op x.0.index r there in
      let up : region_parent_of v r ≡ Some h.holder = ap op_of_slot (slot_same r h.liveness) ∙ h.held in
      let same : x.0.op ≡ h.holder = some_is (sym (ap op_of_slot slot) ∙ up) in
      record {
        holder = h.holder;
        held = up;
        liveness = region_by v r x.0 slot there;
        within = within_still u v root h.holder wv inside (subst (IsLive v) same (region_live v wv.joined x.0.op x.0.index r there)) h.within;
      }

  pub ssa_same : (r : ℕ) → IsHeld u root r → has_ssa v r ≡ has_ssa u r
  ssa_same r h =
      let x = slot_is u r h.liveness in
      let ne = not_jump x.0.op r (in_slice (regions_of u x.0.op) x.0.index r x.2) in
      let up : region_parent_of u r ≡ Some x.0.op = ap op_of_slot x.1 in
      ap (has_ssa_at v) (ap op_of_slot (slot_same r h.liveness) ∙ up) ∙ ap (λ z. ssa_in z.head) (s.rows x.0.op ne) ∙ ap (has_ssa_at u) (sym up)

  first_kept : (r : ℕ) → first_of (layout_of v r) None ≡ first_of (layout_of u r) None
  first_kept r = ap (λ l. first_of l None) (s.layouts r) ∙ first_same b (layout_of u r) (s.no_entry r)

  not_gone : (c r : ℕ) → block_parent_of v c ≡ Some r → c ≢ b
  not_gone c r e f = not_none (sym s.detached_block ∙ ap (block_parent_of v) (sym f) ∙ e)

  pub reached_forth : (r c : ℕ) → IsHeld u root r → c ≢ b → IsReachedIn u r c → IsReachedIn v r c
  reached_forth r c h ne x =
      let ne0 : x.0 ≢ b = λ e. s.no_entry r (x.1 ∙ ap Some e) in
      let l = reaches_leads u w root edges r h x.0 c x.2.0 (entry_in u w root edges r x.0 x.1) x.2.1 in
      let l' = alike.forth x.0 c ne0 ne l in
      (x.0, first_kept r ∙ x.1, leads_reaches v r x.0 c l'.0 l'.1)

  pub reached_back : (r c : ℕ) → IsHeld u root r → IsReachedIn v r c → IsReachedIn u r c
  reached_back r c h x =
      let hv = held_still r h in
      let in_r = entry_in v wv root edges_v r x.0 x.1 in
      let ne0 = not_gone x.0 r in_r in
      let ne = not_gone c r (reached_in v wv root edges_v r c hv x) in
      let l = reaches_leads v wv root edges_v r hv x.0 c x.2.0 in_r x.2.1 in
      let l' = alike.back x.0 c ne0 ne l in
      (x.0, sym (first_kept r) ∙ x.1, leads_reaches u r x.0 c l'.0 l'.1)

  jump_last : last_of None (body_of u a) ≡ Some jump
  jump_last = ap (last_of None) s.split ∙ last_of-append None front (jump ∷ [])

  a_to_b : In b (succs_of u a)
  a_to_b = subst (In b) (sym (ap (succs_from u) jump_last ∙ s.goes)) (inl refl)

  -- only a leads to b
  to_b : (c : ℕ) → In b (succs_of u c) → c ≡ a
  to_b c i = go (last_of None (body_of u c)) refl i
    where
      go : (o : Option ℕ) → last_of None (body_of u c) ≡ o → In b (succs_from u o) → c ≡ a
      go None e j = absurd j
      go (Some k) e j = some_is (sym (w.bodies.owned k c (last_of-In k (body_of u c) e)) ∙ ap (parent_of u) (s.only k j) ∙ w.bodies.owned jump a (last_of-In jump (body_of u a) jump_last))

  -- where b is reached, a is
  reached_before : (r : ℕ) → IsHeld u root r → IsReachedIn u r b → IsReachedIn u r a
  reached_before r h x =
      let l = reaches_leads u w root edges r h x.0 b x.2.0 (entry_in u w root edges r x.0 x.1) x.2.1 in
      let q = go l.0 l.1 in
      (x.0, x.1, leads_reaches u r x.0 a q.0 q.1)
    where
      go : (ps : List ℕ) → Path u x.0 b ps → LeadsTo u x.0 a
      go [] e = absurd (s.no_entry r (x.1 ∙ ap Some e))
      go (c ∷ ps) p = (ps, subst (λ z. Path u x.0 z ps) (to_b c p.0.successor) p.1)

  entered_forth : (r c : ℕ) → IsHeld u root r → c ≢ b → IsVisitedBlock u r c → IsVisitedBlock v r c
  entered_forth r c h ne e = subst (λ z. IsVisitedBlockIf z v r c) (sym (ssa_same r h)) (go (has_ssa u r) e)
    where
      go : (z : Bool) → IsVisitedBlockIf z u r c → IsVisitedBlockIf z v r c
      go true x = reached_forth r c h ne x
      go false x = first_kept r ∙ x

  entered_first : (r : ℕ) → IsHeld u root r → IsVisitedBlock u r b → IsVisitedBlock v r a
  entered_first r h e = subst (λ z. IsVisitedBlockIf z v r a) (sym (ssa_same r h)) (go (has_ssa u r) e)
    where
      go : (z : Bool) → IsVisitedBlockIf z u r b → IsVisitedBlockIf z v r a
      go true x = reached_forth r a h s.apart (reached_before r h x)
      go false x = absurd (s.no_entry r x)

  pub visited_forth : (S R : ℕ → Type 0) → ((r : ℕ) → S r → IsHeld u root r) → ((r : ℕ) → S r → R r) → (r : ℕ) → IsVisited u S r → IsVisited v R r
  visited_forth S R starts more r (Starts x) = Starts (more r x)
  visited_forth S R starts more r (Nested outer c k x e at i) =
      let h = visited_held u w root edges S starts outer x in
      let ne = not_jump k r i in
      let rest = visited_forth S R starts more outer x in
      let i' = subst (In r) (sym (regions_same k)) i in
      ⊎_elim
      (λ f. Nested outer a k rest (entered_first outer h (subst (IsVisitedBlock u outer) f e)) (s.moved k (at ∙ ap Some f)) i')
      (λ nb. Nested outer c k rest (entered_forth outer c h nb e) (s.parents k ne (λ q. nb (some_is (sym at ∙ q))) ∙ at) i')
      (cases_eq c b)

  entered_back : (r c : ℕ) → IsHeld u root r → IsVisitedBlock v r c → IsVisitedBlock u r c
  entered_back r c h e = go (has_ssa u r) (subst (λ z. IsVisitedBlockIf z v r c) (ssa_same r h) e)
    where
      go : (z : Bool) → IsVisitedBlockIf z v r c → IsVisitedBlockIf z u r c
      go true x = reached_back r c h x
      go false x = sym (first_kept r) ∙ x

  -- where the first block's region has SSA dominance
  module _ (region : ℕ) (in_region : block_parent_of u a ≡ Some region) (ssa : has_ssa u region ≡ true) where
    entered_second : (r : ℕ) → IsHeld u root r → IsVisitedBlock v r a → IsVisitedBlock u r b
    entered_second r h e = go (has_ssa u r) refl (entered_back r a h e)
      where
        go : (z : Bool) → has_ssa u r ≡ z → IsVisitedBlockIf z u r a → IsVisitedBlockIf z u r b
        go true q x = (x.0, x.1, reaches_more u r x.0 a b x.2 a_to_b)
        go false q x = absurd (false≢true (sym q ∙ ap (has_ssa u) (some_is (sym (entry_in u w root edges r a x) ∙ in_region)) ∙ ssa))

    pub visited_back : (S R : ℕ → Type 0) → ((r : ℕ) → S r → IsHeld u root r) → ((r : ℕ) → R r → S r) → (r : ℕ) → IsVisited v R r → IsVisited u S r
    visited_back S R starts more r (Starts x) = Starts (more r x)
    visited_back S R starts more r (Nested outer c k x e at i) =
        let rest = visited_back S R starts more outer x in
        let h = visited_held u w root edges S starts outer rest in
        let i' = subst (In r) (regions_same k) i in
        let ne = not_jump k r i' in
        go rest h i' ne (parent_of u k) refl
      where
        go : IsVisited u S outer → IsHeld u root outer → In r (regions_of u k) → k ≢ jump → (o : Option ℕ) → parent_of u k ≡ o → IsVisited u S r
        go rest h i' ne None f = absurd (not_none (sym (s.parents k ne (λ q. not_none (sym f ∙ q)) ∙ f) ∙ at))
        go rest h i' ne (Some d) f = ⊎_elim
            (λ z. Nested outer b k rest (entered_second outer h (subst (IsVisitedBlock v outer) (some_is (sym at ∙ s.moved k (f ∙ ap Some z))) e)) (f ∙ ap Some z) i')
            (λ nb.
            let same : d ≡ c = some_is (sym (s.parents k ne (λ q. nb (some_is (sym f ∙ q))) ∙ f) ∙ at) in
            Nested outer c k rest (entered_back outer c h e) (f ∙ ap Some same) i')
            (cases_eq d b)
