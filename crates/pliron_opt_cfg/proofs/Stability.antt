-- Where the unreachable blocks of one region are gone, other regions are visited as before, and their
-- entries reach the same blocks.
use Rattle.std.proofs.Common.{◌≡◌, ◌↔◌, ◌<◌, inl, ⊎_elim, ℕ, Bool, true, false, true≢false, List, [], ◌∷◌, Option, Some, None, IsTrue, Contains, refl, sym, ap, ◌∙◌, subst, arith, is_some}
use Rattle.std.specs.List.{slice_get}
use Rattle.std.proofs.lemmas.Bool.{false_from_ne_true}
use Rattle.pliron_core.specs.Tree.{Tree, In, IsRising, IsLive, first_of, last_of, row_of, regions_of, parent_of, body_of, block_parent_of, layout_of, region_parent_of, block_parent_operation_of, parent_operation_of, op_of_slot}
use Rattle.pliron_core.specs.Invariant.{IsTree}
use Rattle.pliron_core.specs.Reads.{has_ssa, has_ssa_at, ssa_in}
use Rattle.pliron_core.specs.Edges.{succs_of, succs_from}
use Rattle.pliron_core.specs.Erased.{IsInOperation}
use Rattle.pliron_core.proofs.ClearedLemmas.{true_or_false}
use Rattle.pliron_core.proofs.ReadLemmas.{In-last}
use Rattle.pliron_core.proofs.NeighbourLemmas.{first_of-In}
use Rattle.pliron_core.proofs.WithinLemmas.{block_holder_from, holder_from}
use Rattle.pliron_core.proofs.HoldingLemmas.{some_is, not_none, in_slice, slice_in, slot_is, region_parent_is, inside_up}
use Rattle.pliron_graph_traversal.specs.Digraph.{IsPath}
use Rattle.pliron_graph_traversal.specs.Regions.{graph_of_region, IsLawfulRegion}
use Rattle.pliron_graph_traversal.specs.Internal.RegionLawful.{in_keys}
use Rattle.std.proofs.Common.{if◌then◌else◌}
use Rattle.pliron_core.specs.Erased.{is_met_above}
use Rattle.pliron_rewrite_blocks.specs.Cutting.{is_in_one_of, cut_op, cut_block, AreCut}
use Rattle.pliron_rewrite_blocks.proofs.CutBlocks.{block_cases, listed}
use Rattle.pliron_opt_cfg.specs.Visited.{IsVisited, IsVisited.Starts, IsVisited.Nested, IsReachedIn, IsVisitedBlock, IsVisitedBlockIf, IsCutOff}
use Rattle.pliron_opt_cfg.specs.Visits.{AreVisits}
use Rattle.pliron_opt_cfg.proofs.Lawful.{reached_in, entered_in, visited_lawful}
use Rattle.pliron_opt_cfg.proofs.CutOffLemmas.{reached_on, cut_in}

-- the least member of two rising lists
pub first_same : (xs ys : List ℕ) (x : ℕ) → IsRising xs → IsRising ys → first_of xs None ≡ Some x → ((y : ℕ) → In y ys → In y xs) → In x ys → first_of ys None ≡ Some x
first_same [] ys x rx ry e sub i = absurd (cc)
first_same (a ∷ xs) [] x rx ry e sub i = absurd i
first_same (a ∷ xs) (b ∷ ys) x rx ry e sub i =
    let same : a ≡ x = some_is e in
    ap Some (⊎_elim
    (λ s. s ∙ same)
    (λ j. ⊎_elim
    (λ s. sym s)
    (λ k. let p : a < b = rx.0 b j in let q : b < x = ry.0 x k in absurd (omega (arith, same)))
    i)
    (sub b (inl refl)))

in_cut_listed : (t : Tree) (bs : List ℕ) (b : ℕ) → In b bs → cut_block t bs b ≡ true
in_cut_listed t bs b i = ap (λ z. if z then true else is_met_above t (is_in_one_of t bs) (block_parent_operation_of t b)) (listed bs b i)

-- a region is one of its operation's
region_listed : (t : Tree) (r : ℕ) (l : IsLawfulRegion t r) → In r (regions_of t l.holder)
region_listed t r l =
    let s = slot_is t r l.liveness in
    let same : s.0.op ≡ l.holder = some_is (sym (region_parent_is t r s.0 s.1) ∙ l.held) in
    subst (λ z. In r (regions_of t z)) same (in_slice (regions_of t s.0.op) s.0.index r s.2)

module _ (t v : Tree) (w : IsTree t) (wv : IsTree v) (r0 : ℕ) (bs : List ℕ) (exact : (b : ℕ) → In b bs ↔ IsCutOff t r0 b) (cut : AreCut t v r0 bs) (ssa : IsTrue (has_ssa t r0))
    (A B : ℕ → Type 0) (lawful : (r : ℕ) → A r → IsLawfulRegion t r)
    (apart : (r h b : ℕ) → A r → region_parent_of t r ≡ Some h → In b bs → IsInOperation t b h → ⊥)
    (to : (r : ℕ) → A r → B r) (from : (r : ℕ) → B r → A r) where
  own : (b : ℕ) → In b bs → block_parent_of t b ≡ Some r0
  own b i = ((exact b).0 i).0

  law : (r : ℕ) → IsVisited t A r → IsLawfulRegion t r
  law r x = visited_lawful t w A lawful r x

  held_by : (k r : ℕ) → In r (regions_of t k) → region_parent_of t r ≡ Some k
  held_by k r i = let x = slice_in (regions_of t k) r i in ap op_of_slot (w.joined.regions k x.0 r x.1)

  -- what an entry reaches is not among the blocks
  reached_left : (r b : ℕ) → IsLawfulRegion t r → IsReachedIn t r b → In b bs → ⊥
  reached_left r b l x i =
      let same : r ≡ r0 = some_is (sym (reached_in t w r l b x) ∙ own b i) in
      ((exact b).0 i).1 (subst (λ z. IsReachedIn t z b) same x)

  entered_left : (r b : ℕ) (z : Bool) → IsLawfulRegion t r → IsVisitedBlockIf z t r b → In b bs → ⊥
  entered_left r b true l x i = reached_left r b l x i
  entered_left r b false l x i = reached_left r b l (b, x, ([], refl)) i

  -- the operation that holds a visited region does not go
  never : (r : ℕ) → IsVisited t A r → (h : ℕ) → region_parent_of t r ≡ Some h → (b : ℕ) → In b bs → IsInOperation t b h → ⊥
  never r (Starts s) h e b i y = apart r h b s e i y
  never r (Nested outer c k x ent p j) h e b i y = ⊎_elim
      (λ s. entered_left outer c (has_ssa t outer) (law outer x) ent (subst (λ z. In z bs) (some_is (sym y.1 ∙ ap (parent_of t) (sym s) ∙ ap (parent_of t) same ∙ p)) i))
      (λ inner.
      let up = inside_up inner in
      let above : region_parent_of t outer ≡ Some up.0 = sym (holder_from t k c p ∙ block_holder_from t c outer (entered_in t w outer (law outer x) c ent)) ∙ ap (parent_operation_of t) (sym same) ∙ up.1 in
      never outer x up.0 above b i (y.0, y.1, up.2))
      y.2
    where
      same : h ≡ k
      same = some_is (sym e ∙ held_by k r j)

  module _ (r : ℕ) (x : IsVisited t A r) where
    l : IsLawfulRegion t r
    l = law r x

    holder_left : cut_op t bs l.holder ≡ false
    holder_left = false_from_ne_true _ (λ e. let y = cut_in t w bs l.holder e in never r x l.holder l.held y.0 y.1 y.2)

    -- a block of the region that is not among them stays, and so does what stands directly in it
    block_left : (c : ℕ) → block_parent_of t c ≡ Some r → (In c bs → ⊥) → cut_block t bs c ≡ false
    block_left c p n = false_from_ne_true _ (λ e. ⊎_elim n (λ q. true≢false (sym q.2 ∙ ap (cut_op t bs) (some_is (sym q.1 ∙ block_holder_from t c r p ∙ l.held)) ∙ holder_left)) (block_cases t bs c e))

    op_left : (c k : ℕ) → block_parent_of t c ≡ Some r → (In c bs → ⊥) → parent_of t k ≡ Some c → cut_op t bs k ≡ false
    op_left c k p n e = false_from_ne_true _ (λ d.
        let y = cut_in t w bs k d in
        ⊎_elim
        (λ s. n (subst (λ z. In z bs) (some_is (sym y.2.1 ∙ ap (parent_of t) (sym s) ∙ e)) y.1))
        (λ inner. let up = inside_up inner in never r x up.0 (sym (holder_from t k c e ∙ block_holder_from t c r p) ∙ up.1) y.0 y.1 (y.2.0, y.2.1, up.2))
        y.2.2)

    succs_same : (c : ℕ) → block_parent_of t c ≡ Some r → (In c bs → ⊥) → succs_of v c ≡ succs_of t c
    succs_same c p n = ap (λ z. succs_from v (last_of None z)) (cut.bodies c (block_left c p n)) ∙ go (last_of None (body_of t c)) refl
      where
        go : (o : Option ℕ) → last_of None (body_of t c) ≡ o → succs_from v o ≡ succs_from t o
        go None e = refl
        go (Some k) e = cut.successors k (op_left c k p n (w.bodies.owned k c (In-last (body_of t c) k e)))

    -- the region stands as before
    row_same : row_of v l.holder ≡ row_of t l.holder
    row_same = cut.rows l.holder holder_left

    in_holder : In r (regions_of t l.holder)
    in_holder = region_listed t r l

    parent_same : region_parent_of v r ≡ Some l.holder
    parent_same =
        let s = slice_in (regions_of t l.holder) r in_holder in
        ap op_of_slot (wv.joined.regions l.holder s.0 r (ap (λ z. slice_get z.regions s.0) row_same ∙ s.1))

    pub ssa_same : has_ssa v r ≡ has_ssa t r
    ssa_same = ap (has_ssa_at v) parent_same ∙ ap (λ z. ssa_in z.head) row_same ∙ sym (ap (has_ssa_at t) l.held)

    placed_was : (c : ℕ) → block_parent_of v c ≡ Some r → block_parent_of t c ≡ Some r
    placed_was c e = ⊎_elim (λ d. absurd (not_none (sym (cut.detached_blocks c d) ∙ e))) (λ d. sym (cut.block_parents c d) ∙ e) (true_or_false (cut_block t bs c))

    -- the entry is the same
    pub first_kept : (e : ℕ) → first_of (layout_of t r) None ≡ Some e → first_of (layout_of v r) None ≡ Some e
    first_kept e f =
        let p = w.layouts.owned e r (first_of-In e (layout_of t r) f) in
        let n : In e bs → ⊥ = λ i. reached_left r e l (e, f, ([], refl)) i in
        first_same (layout_of t r) (layout_of v r) e (w.joined.ordered r) (wv.joined.ordered r) f
        (λ y i. w.layouts.listed y r (placed_was y (wv.layouts.owned y r i)))
        (wv.layouts.listed e r (cut.block_parents e (block_left e p n) ∙ p))

    pub first_was : (e : ℕ) → first_of (layout_of v r) None ≡ Some e → first_of (layout_of t r) None ≡ Some e
    first_was e f = go (layout_of t r) refl
      where
        i : In e (layout_of t r)
        i = w.layouts.listed e r (placed_was e (wv.layouts.owned e r (first_of-In e (layout_of v r) f)))

        go : (xs : List ℕ) → layout_of t r ≡ xs → first_of (layout_of t r) None ≡ Some e
        go [] q = absurd (subst (In e) q i)
        go (a ∷ xs) q = let g : first_of (layout_of t r) None ≡ Some a = ap (λ z. first_of z None) q in g ∙ sym (first_kept a g) ∙ f

    -- paths from the entry are the same
    forth : (ws : List ℕ) (u c : ℕ) → IsReachedIn t r u → IsPath (graph_of_region t r) u ws c → IsPath (graph_of_region v r) u ws c
    forth [] u c y p = p
    forth (d ∷ ws) u c y p =
        (subst (λ z. Contains z d) (sym (succs_same u (reached_in t w r l u y) (reached_left r u l y))) p.0, forth ws d c (reached_on t r u d y (in_keys (succs_of t u) d p.0)) p.1)

    back : (ws : List ℕ) (u c : ℕ) → IsReachedIn t r u → IsPath (graph_of_region v r) u ws c → IsPath (graph_of_region t r) u ws c
    back [] u c y p = p
    back (d ∷ ws) u c y p =
        let s : Contains (succs_of t u) d = subst (λ z. Contains z d) (succs_same u (reached_in t w r l u y) (reached_left r u l y)) p.0 in
        (s, back ws d c (reached_on t r u d y (in_keys (succs_of t u) d s)) p.1)

    pub reached_still : (c : ℕ) → IsReachedIn t r c → IsReachedIn v r c
    reached_still c y = (y.0, first_kept y.0 y.1, (y.2.0, forth y.2.0 y.0 c (y.0, y.1, ([], refl)) y.2.1))

    pub reached_was : (c : ℕ) → IsReachedIn v r c → IsReachedIn t r c
    reached_was c y = let f = first_was y.0 y.1 in (y.0, f, (y.2.0, back y.2.0 y.0 c (y.0, f, ([], refl)) y.2.1))

    entered_still_if : (z : Bool) (c : ℕ) → IsVisitedBlockIf z t r c → IsVisitedBlockIf z v r c
    entered_still_if true c y = reached_still c y
    entered_still_if false c y = first_kept c y

    entered_was_if : (z : Bool) (c : ℕ) → IsVisitedBlockIf z v r c → IsVisitedBlockIf z t r c
    entered_was_if true c y = reached_was c y
    entered_was_if false c y = first_was c y

    entered_still : (c : ℕ) → IsVisitedBlock t r c → IsVisitedBlock v r c
    entered_still c y = subst (λ z. IsVisitedBlockIf z v r c) (sym ssa_same) (entered_still_if (has_ssa t r) c y)

    entered_was : (c : ℕ) → IsVisitedBlock v r c → IsVisitedBlock t r c
    entered_was c y = entered_was_if (has_ssa t r) c (subst (λ z. IsVisitedBlockIf z v r c) ssa_same y)

    -- a block of the region is cut off after exactly if it was and is not among them
    pub cut_off_was : (b : ℕ) → IsCutOff v r b → IsCutOff t r b
    cut_off_was b y = (placed_was b y.0, λ z. y.1 (reached_still b z))

    pub cut_off_still : (b : ℕ) → (In b bs → ⊥) → IsCutOff t r b → IsCutOff v r b
    cut_off_still b n y = (cut.block_parents b (block_left b y.0 n) ∙ y.0, λ z. y.1 (reached_was b z))

  pub visited_still : (r : ℕ) → IsVisited t A r → IsVisited v B r
  visited_still r (Starts s) = Starts (to r s)
  visited_still r (Nested outer c k x ent p j) =
      let left = op_left outer x c k (entered_in t w outer (law outer x) c ent) (entered_left outer c (has_ssa t outer) (law outer x) ent) p in
      Nested outer c k (visited_still outer x) (entered_still outer x c ent) (cut.parents k left ∙ p) (subst (λ z. In r z.regions) (sym (cut.rows k left)) j)

  pub visited_was : (r : ℕ) → IsVisited v B r → IsVisited t A r
  visited_was r (Starts s) = Starts (from r s)
  visited_was r (Nested outer c k x ent p j) =
      let y = visited_was outer x in
      let live : IsLive v k = (wv.joined.all_in_place k c p).0 in
      let left : cut_op t bs k ≡ false = false_from_ne_true _ (λ e. true≢false (sym live ∙ ap is_some (cut.deleted k e))) in
      Nested outer c k y (entered_was outer y c ent) (sym (cut.parents k left) ∙ p) (subst (λ z. In r z.regions) (cut.rows k left) j)

  pub visits_still : (rs ks : List ℕ) → AreVisits t A rs ks → AreVisits v B rs ks
  visits_still rs ks a = record {
    regions = λ r. (
      λ i. let x = (a.regions r).0 i in (visited_still r x.0, ssa_same r x.0 ∙ x.1),
      λ y. let x = visited_was r y.0 in (a.regions r).1 (x, sym (ssa_same r x) ∙ y.1),
    );
    blocks = λ b. (
      λ i. let x = (a.blocks b).0 i in (x.0, visited_still x.0 x.1, ssa_same x.0 x.1 ∙ x.2, reached_still x.0 x.1 b x.3),
      λ y. let x = visited_was y.0 y.1 in (a.blocks b).1 (y.0, x, sym (ssa_same y.0 x) ∙ y.2, reached_was y.0 x b y.3),
    );
  }

  -- nothing of the region is cut off then
  pub none_left : IsVisited t A r0 → (b : ℕ) → IsCutOff v r0 b → ⊥
  none_left x b y =
      let i = (exact b).1 (cut_off_was r0 x b y) in
      not_none (sym (cut.detached_blocks b (in_cut_listed t bs b i)) ∙ y.0)
