-- What holds on the way, as one operation after the other goes.
use Rattle.std.proofs.Common.{◌≡◌, ◌≢◌, ◌⊎◌, ◌↔◌, ℕ, ◌<◌, ◌+◌, Bool, List, [], ◌∷◌, ◌++◌, length, get_or, take, Option, Some, None, IsSome, inl, ⊎_elim, refl, sym, ap, ◌∙◌, subst, arith}
use Rattle.pliron_core.specs.Erased.{IsSelfContained}
use Rattle.pliron_core.specs.Invariant.{IsTree}
use Rattle.pliron_core.specs.Tree.{Tree, In, IsLive, IsInside, IsWithin, head_of, row_of, parent_operation_of, parent_of, block_parent_of, block_parent_operation_of, up_from, operands_of, regions_of, successors_of, results_of}
use Rattle.pliron_core.proofs.HoldingLemmas.{some_is, some_of, not_none, inside_up, inside_by, not_itself, within_inside, holder_by}
use Rattle.pliron_core.proofs.WithinLemmas.{is_within, block_holder_from}
use Rattle.pliron_laws.specs.Datum.{Head, Meaning}
use Rattle.pliron_laws.specs.Laws.{KeepsCounts, GivesAtOnce}
use Rattle.pliron_laws.specs.Linked.{IsWellLinked, EdgesLast}
use Rattle.pliron_rewrite_blocks.specs.Links.{KeepsLinks}
use Rattle.pliron_rewrite_blocks.proofs.RewriteLinks.{erased_links}
use Rattle.pliron_theory.specs.Edges.{KeepsEdges, EdgesAlike}
use Rattle.pliron_theory.proofs.EdgeLemmas.{edges_alike, edges_transitive}
use Rattle.pliron_theory.proofs.ErasedKeeps.{erased_gone}
use Rattle.pliron_theory.proofs.WholeChanges.{whole_refl, whole_trans}
use Rattle.pliron_rewrite_equals.specs.OperationDominance.{DominatesOperation}
use Rattle.pliron_rewrite_equals.specs.Redundancy.{IsLeader}
use Rattle.pliron_rewrite_equals.specs.Merging.{partly_merged, results_merged, after_merging}
use Rattle.pliron_rewrite_equals.proofs.Merging.{tree_all, own_pairs, contained_all, merged_lives, partly}
use Rattle.pliron_rewrite_equals.proofs.OperationDominance.{stands_holder}
use Rattle.pliron_graph_order.specs.Order.{IsOrder}
use Rattle.pliron_graph_order.specs.Seen.{IsSeen}
use Rattle.pliron_graph_order.proofs.NumberLemmas.{at_in}
use Rattle.pliron_graph_order.proofs.PreorderLemmas.{distinct_at}
use Rattle.pliron_graph_order.proofs.SeenLemmas.{seen_inside}
use Rattle.pliron_opt_cse.specs.MergingSteps.{MayMerge, AreOrderedOperations, IsMergingOnWay}
use Rattle.pliron_opt_cse.specs.Merges.{IsPair, Pair, MergeInTurn}
use Rattle.pliron_laws.specs.EdgeChecks.{region_around}
use Rattle.pliron_opt_cse.proofs.Changing.{links_all, inside_all, changing}
use Rattle.pliron_opt_cse.proofs.ErasedEdges.{erased_alike}
use Rattle.pliron_opt_cse.proofs.Moved.{moved_regions, moved_successors, moved_stands, moved_seen, moved_alike, moved_live, moved_around, merged_pairs}
use Rattle.pliron_opt_cse.proofs.SeenStays.{seen_stays}
use Rattle.pliron_opt_cse.proofs.Staying.{is, lives, parents, regions_same, stands_forth, stands_back}
use Rattle.pliron_opt_cse.proofs.Merged.{near_leader}

alike_itself : (t : Tree) → EdgesAlike t t
alike_itself t = record { grows = omega arith; regions = λ op. refl; layouts = λ r. refl; successors = λ b. refl; bodies = λ b. refl }

module _ (m : Meaning) where
  pub way_start : (t : Tree) (root : ℕ) → IsLive t root → IsWellLinked m t root → IsMergingOnWay m t t root
  way_start t root live linked = record { change = whole_refl m t root live linked; links = λ r l. l; edges = λ op a b. refl; fewer = λ k l. l }

  pub way_more : (t0 t u : Tree) (root : ℕ) → IsMergingOnWay m t0 t root → IsMergingOnWay m t u root → IsMergingOnWay m t0 u root
  way_more t0 t u root a b = record {
    change = whole_trans m t0 t u root a.change b.change;
    links = λ r l. b.links r (a.links r l);
    edges = edges_transitive t0 t u (λ op l0 l. b.fewer op l) a.edges b.edges;
    fewer = λ k l. a.fewer k (b.fewer k l);
  }

-- one whole rewrite
module _ (m : Meaning) (side_effects : Head → Option Bool) (counts : KeepsCounts m) (free : GivesAtOnce m side_effects) (t : Tree) (a b root : ℕ) (w : IsTree t) (live : IsLive t root) (linked : IsWellLinked m t root) (pair : IsPair side_effects t root a b) where
  leads : IsLeader side_effects t a b
  leads = near_leader side_effects t a b w pair.leads

  inside : IsInside t root b
  inside = seen_inside t w root b pair.second

  -- the uses of some first results moved
  pub way_partly : (n : ℕ) → IsTree (partly_merged t a b n) → IsMergingOnWay m t (partly_merged t a b n) root
  way_partly n w' = record {
    change = record {
      liveness = (moved_live vs xs t root).0 live;
      linked = links_all m vs xs t root linked;
      inside = (inside_all side_effects a b root vs xs t w (merged_pairs side_effects t a b n) inside).0;
      runs = partly m side_effects counts free t a b n w leads;
    };
    links = links_all m vs xs t;
    edges = edges_alike t (partly_merged t a b n) w w' (moved_alike vs xs t (alike_itself t));
    fewer = λ k l. (moved_live vs xs t k).1 l;
  }
    where
      vs : List ℕ
      vs = take n (results_of t b)

      xs : List ℕ
      xs = take n (results_of t a)

  module _ (w' : IsTree (after_merging t a b)) where
    abbrev u : Tree
    u = results_merged t a b

    tree : IsTree (results_merged t a b)
    tree = tree_all side_effects a b (results_of t b) (results_of t a) t w (own_pairs side_effects a b t)

    none : regions_of (results_merged t a b) b ≡ []
    none = moved_regions (results_of t b) (results_of t a) t b ∙ pair.leads.alike.no_regions

    next : successors_of (results_merged t a b) b ≡ []
    next = moved_successors (results_of t b) (results_of t a) t b ∙ pair.leads.alike.no_successors

    lives_still : IsLive (results_merged t a b) b
    lives_still = merged_lives side_effects t a b w leads

    contained : IsSelfContained (results_merged t a b) b
    contained = contained_all side_effects a b t w leads

    edges_last : EdgesLast (results_merged t a b) root
    edges_last = (links_all m (results_of t b) (results_of t a) t root linked).edges

    inside_still : IsInside (results_merged t a b) root b
    inside_still = (inside_all side_effects a b root (results_of t b) (results_of t a) t w (own_pairs side_effects a b t) inside).1

    pub merged_stands : (x y : ℕ) → x ≢ b → y ≢ b → DominatesOperation t x y ↔ DominatesOperation (after_merging t a b) x y
    merged_stands x y nx ny =
        let s = moved_stands (results_of t b) (results_of t a) t x y in (
          λ p. stands_forth (results_merged t a b) b tree none next lives_still contained w' root edges_last inside_still x y nx ny (s.0 p),
          λ p. s.1 (stands_back (results_merged t a b) b tree none next lives_still contained w' root edges_last inside_still x y nx ny p),
        )

    pub merged_seen : (k : ℕ) → k ≢ b → IsSeen t root k ↔ IsSeen (after_merging t a b) root k
    merged_seen k ne =
        let s = moved_seen (results_of t b) (results_of t a) t b root k pair.leads.alike.no_regions ne in
        let e = seen_stays (results_merged t a b) b tree none next lives_still contained w' root edges_last inside_still k ne in
        (λ p. e.0 (s.0 p), λ p. s.1 (e.1 p))

    -- the operation is gone
    pub merged_gone : (k : ℕ) → IsLive (after_merging t a b) k → k ≢ b
    merged_gone k l e =
        let liveness = some_of (head_of (after_merging t a b) b) (subst (IsLive (after_merging t a b)) e l) in
        let deleted = (erased_gone (results_merged t a b) b tree lives_still contained).operations b (is_within (results_merged t a b) b b tree.joined lives_still (inl refl)) in
        not_none (sym deleted ∙ liveness.1)

    pub row_of_merged : (k : ℕ) → k ≢ b → row_of (after_merging t a b) k ≡ row_of (results_merged t a b) k
    row_of_merged k ne = (is (results_merged t a b) b tree none next lives_still contained w' root edges_last inside_still).rows k (lives (results_merged t a b) b tree none next lives_still contained w' root edges_last inside_still k ne)

    pub operands_of_merged : (k : ℕ) → k ≢ b → operands_of (after_merging t a b) k ≡ operands_of (results_merged t a b) k
    operands_of_merged k ne = (is (results_merged t a b) b tree none next lives_still contained w' root edges_last inside_still).operands k (lives (results_merged t a b) b tree none next lives_still contained w' root edges_last inside_still k ne)

    pub successors_of_merged : (k : ℕ) → k ≢ b → successors_of (after_merging t a b) k ≡ successors_of (results_merged t a b) k
    successors_of_merged k ne = (is (results_merged t a b) b tree none next lives_still contained w' root edges_last inside_still).successors k (lives (results_merged t a b) b tree none next lives_still contained w' root edges_last inside_still k ne)

    pub place_of_merged : (k : ℕ) → k ≢ b → region_around (after_merging t a b) k ≡ region_around t k
    place_of_merged k ne =
        ap (λ o. up_from o (λ c. block_parent_of (after_merging t a b) c)) (parents (results_merged t a b) b tree none next lives_still contained w' root edges_last inside_still k ne)
        ∙ go (parent_of (results_merged t a b) k) ∙ moved_around (results_of t b) (results_of t a) t k
      where
        go : (o : Option ℕ) → up_from o (λ c. block_parent_of (after_merging t a b) c) ≡ up_from o (λ c. block_parent_of (results_merged t a b) c)
        go None = refl
        go (Some c) = regions_same (results_merged t a b) b tree none next lives_still contained w' root edges_last inside_still c

    row_same : (k : ℕ) → k ≢ b → head_of (after_merging t a b) k ≡ head_of (results_merged t a b) k
    row_same k ne = ap (λ z. z.head) (row_of_merged k ne)

    pub merged_live : (k : ℕ) → k ≢ b → IsLive t k → IsLive (after_merging t a b) k
    merged_live k ne l = subst IsSome (sym (row_same k ne)) ((moved_live (results_of t b) (results_of t a) t k).0 l)

    pub merged_fewer : (k : ℕ) → IsLive (after_merging t a b) k → IsLive t k
    merged_fewer k l = (moved_live (results_of t b) (results_of t a) t k).1 (subst IsSome (row_same k (merged_gone k l)) l)

    merged_edges : KeepsEdges t (after_merging t a b)
    merged_edges = edges_transitive t (results_merged t a b) (after_merging t a b) (λ op l0 l. (moved_live (results_of t b) (results_of t a) t op).0 l0)
        (edges_alike t (results_merged t a b) w tree (moved_alike (results_of t b) (results_of t a) t (alike_itself t)))
        (edges_alike (results_merged t a b) (after_merging t a b) tree w' (erased_alike (results_merged t a b) b tree none lives_still contained w' root edges_last inside_still (λ x i. subst (In x) next i)))

    pub way_merged : IsMergingOnWay m t (after_merging t a b) root
    way_merged = record {
      change = changing m side_effects counts free t root a b w w' live linked inside pair.leads;
      links = merged_links;
      edges = merged_edges;
      fewer = merged_fewer;
    }
      where
        merged_links : KeepsLinks m t (after_merging t a b)
        merged_links r l = erased_links m (results_merged t a b) b tree w' lives_still contained r (links_all m (results_of t b) (results_of t a) t r l)

    -- of the operations in order, those behind stand still
    pub ordered_merged : (ops ends : List ℕ) (place : ℕ) → place < length ops → b ≡ get_or ops place 0 → AreOrderedOperations t root ops ends place → AreOrderedOperations (after_merging t a b) root ops ends (place + 1)
    ordered_merged ops ends place low at o = record {
      counted = o.counted;
      distinct = o.distinct;
      each = λ k s. ⊎_elim (λ e. subst (λ z. In z ops) (sym (e ∙ at)) (at_in ops place low)) (λ ne. o.each k ((merged_seen k ne).1 s)) (cases k b);
      seen = λ k i l. (merged_seen k (merged_gone k l)).0 (o.seen k i (merged_fewer k l));
      all_in_place = λ i j li lj a_lives b_lives.
          let s = o.all_in_place i j li lj (merged_fewer (get_or ops i 0) a_lives) (merged_fewer (get_or ops j 0) b_lives) in
          let q = merged_stands (get_or ops i 0) (get_or ops j 0) (merged_gone (get_or ops i 0) a_lives) (merged_gone (get_or ops j 0) b_lives) in
          (λ p. q.0 (s.0 p), λ p. s.1 (q.1 p));
      left = λ j from lj. merged_live (get_or ops j 0) (λ e. let same : j ≡ place = distinct_at ops o.distinct j place lj low (e ∙ at) in omega (arith, same, from)) (o.left j (omega (arith, from)) lj);
    }
      where
        cases : (x y : ℕ) → (x ≡ y) ⊎ (x ≢ y)
        cases x y = grind arith

pub ordered_on : (t : Tree) (root : ℕ) (ops ends : List ℕ) (place : ℕ) → AreOrderedOperations t root ops ends place → AreOrderedOperations t root ops ends (place + 1)
ordered_on t root ops ends place o = record { counted = o.counted; distinct = o.distinct; each = o.each; seen = o.seen; all_in_place = o.all_in_place; left = λ j from lj. o.left j (omega (arith, from)) lj }

pub ordered_start : (t : Tree) → IsTree t → (root : ℕ) (ops ends : List ℕ) → IsOrder t root ops ends → AreOrderedOperations t root ops ends 0
ordered_start t w root ops ends o = record {
  counted = o.counted;
  distinct = o.distinct;
  each = λ k s. (o.each k).1 s;
  seen = λ k i l. (o.each k).0 i;
  all_in_place = λ i j li lj a b. o.all_in_place i j li lj;
  left = λ j from lj. let s = (o.each (get_or ops j 0)).0 (at_in ops j lj) in (w.joined.all_in_place (get_or ops j 0) s.block s.in_block).0;
}

-- what stands before another in its region has nothing round that
around_itself : (t : Tree) → IsTree t → (a b : ℕ) (s : DominatesOperation t a b) (block region : ℕ) → parent_of t b ≡ Some block → block_parent_of t block ≡ Some region → s.region ≡ region → s.around ≡ b
around_itself t w a b s block region at in_region same = ⊎_elim
    (λ e. sym e)
    (λ i.
    let h = stands_holder t w a b s in
    let up = inside_up i in
    let held : parent_operation_of t b ≡ Some h.0 = holder_by t b block h.0 at (block_holder_from t block region in_region ∙ sym (block_holder_from t s.block region (s.in_region ∙ ap Some same)) ∙ block_held h.0 h.2) in
    let p : up.0 ≡ h.0 = some_is (sym up.1 ∙ held) in
    let outer : IsInside t h.0 s.around = inside_by h.0 h.2 (inl refl) in
    absurd (not_itself w.joined.rooted (within_inside outer (subst (IsWithin t s.around) p up.2))))
    s.holds
  where
    block_held : (h : ℕ) → parent_operation_of t s.around ≡ Some h → block_parent_operation_of t s.block ≡ Some h
    block_held h e = sym (ap (λ o. up_from o (λ c. block_parent_operation_of t c)) s.in_block) ∙ e

-- an operation that leads another and is near to it, in order
pub pair_of : (side_effects : Head → Option Bool) (t : Tree) → IsTree t → (root : ℕ) (ops ends : List ℕ) (i j : ℕ) (a b : ℕ) → AreOrderedOperations t root ops ends j → i < j → j < length ops → j < get_or ends i 0 → a ≡ get_or ops i 0 → b ≡ get_or ops j 0 → IsLive t a → MayMerge side_effects t a b → IsPair side_effects t root a b
pair_of side_effects t w root ops ends i j a b o lt low within is_a is_b live near = record {
  first = o.seen a (subst (λ z. In z ops) (sym is_a) (at_in ops i (omega (arith, lt, low)))) live;
  second = second;
  leads = record {
    apart = λ e. let same : i ≡ j = distinct_at ops o.distinct i j (omega (arith, lt, low)) low (sym is_a ∙ e ∙ is_b) in omega (arith, same, lt);
    alike = near.alike;
    before = before;
    near = λ e. around_itself t w a b before second.block second.region second.in_block second.in_region (some_is (sym (around_a before) ∙ near.near e ∙ around_b second));
  };
}
  where
    live_b : IsLive t b
    live_b = subst (IsLive t) (sym is_b) (o.left j (omega arith) low)

    second : IsSeen t root b
    second = o.seen b (subst (λ z. In z ops) (sym is_b) (at_in ops j low)) live_b

    before : DominatesOperation t a b
    before = subst (λ z. DominatesOperation t z b) (sym is_a) (subst (DominatesOperation t (get_or ops i 0)) (sym is_b) ((o.all_in_place i j (omega (arith, lt, low)) low (subst (IsLive t) is_a live) (subst (IsLive t) is_b live_b)).0 (lt, within)))

    around_a : (s : DominatesOperation t a b) → region_around t a ≡ Some s.region
    around_a s = ap (λ o. up_from o (λ c. block_parent_of t c)) s.in_home ∙ s.home_region

    around_b : (s : IsSeen t root b) → region_around t b ≡ Some s.region
    around_b s = ap (λ o. up_from o (λ c. block_parent_of t c)) s.in_block ∙ s.in_region

-- redundant operations that went, and one more
pub turn_more : (side_effects : Head → Option Bool) (root : ℕ) (xs : List Pair) (x : Pair) (t u : Tree) → MergeInTurn side_effects root xs t u → IsPair side_effects u root x.leader x.redundant → MergeInTurn side_effects root (xs ++ x ∷ []) t (after_merging u x.leader x.redundant)
turn_more side_effects root [] x t u e p = (subst (λ z. IsPair side_effects z root x.leader x.redundant) e p, ap (λ z. after_merging z x.leader x.redundant) e)
turn_more side_effects root (y ∷ ys) x t u h p = (h.0, turn_more side_effects root ys x (after_merging t y.leader y.redundant) u h.1 p)
