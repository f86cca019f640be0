-- Reach in a region, by paths of the graph and by paths of the tree.
use Rattle.std.proofs.Common.{◌≡◌, inl, inr, ℕ, Bool, true, false, List, [], ◌∷◌, ◌++◌, Option, Some, None, Contains, refl, sym, ap, ◌∙◌, subst}
use Rattle.pliron_core.specs.Tree.{Tree, In, first_of, last_of, IsLive, IsRegion, IsWithin, regions_of, parent_of, body_of, block_parent_of, region_parent_of, layout_of}
use Rattle.pliron_core.specs.Invariant.{IsTree}
use Rattle.pliron_core.specs.Edges.{succs_of, succs_from}
use Rattle.pliron_core.specs.Reads.{has_ssa}
use Rattle.pliron_core.specs.Changes.{IsInsideChange}
use Rattle.pliron_core.proofs.NeighbourLemmas.{first_of-In, last_of-In}
use Rattle.pliron_core.proofs.WithinLemmas.{block_holder_from}
use Rattle.pliron_core.proofs.HoldingLemmas.{some_is, slice_in, holder_by, inside_by, inside_or, region_parent_is, region_by}
use Rattle.pliron_laws.specs.Linked.{EdgesLast}
use Rattle.pliron_laws.specs.Paths.{Path, Leads}
use Rattle.pliron_graph_traversal.specs.Digraph.{Reaches, IsPath}
use Rattle.pliron_graph_traversal.specs.Regions.{graph_of_region}
use Rattle.pliron_graph_traversal.specs.Internal.RegionLawful.{in_keys, keys_have}
use Rattle.pliron_opt_cfg.specs.Visited.{IsReachedIn, IsVisitedBlockIf, IsVisitedBlock, IsVisited, IsVisited.Starts, IsVisited.Nested}
use Rattle.pliron_rewrite_blocks.specs.Reaching.{LeadsTo}

-- the region stands, and what holds it is the root or inside it
pub record IsHeld (t : Tree) (root r : ℕ) : Type 0 where
  pub holder : ℕ
  pub held : region_parent_of t r ≡ Some holder
  pub liveness : IsRegion t r
  pub within : IsWithin t root holder

module _ (t : Tree) (w : IsTree t) (root : ℕ) (edges : EdgesLast t root) where
  -- a successor of a block stands beside it
  pub step_in : (r : ℕ) → IsHeld t root r → (x y : ℕ) → block_parent_of t x ≡ Some r → In y (succs_of t x) → block_parent_of t y ≡ Some r
  step_in r h x y is i = go (last_of None (body_of t x)) refl i
    where
      go : (o : Option ℕ) → last_of None (body_of t x) ≡ o → In y (succs_from t o) → block_parent_of t y ≡ Some r
      go None e j = absurd j
      go (Some k) e j =
          let in_x = w.bodies.owned k x (last_of-In k (body_of t x) e) in
          let up = holder_by t k x h.holder in_x (block_holder_from t x r is ∙ h.held) in
          let ends = edges k y j (inl (inside_by h.holder up h.within)) in
          ends.own_region y j ∙ ap (block_parent_of t) (some_is (sym ends.in_block ∙ in_x)) ∙ is

  before : (x y z : ℕ) (ps : List ℕ) → Leads t x y → Path t y z ps → LeadsTo t x z
  before x y z [] l e = (x ∷ [], (subst (Leads t x) e l, refl))
  before x y z (c ∷ ps) l p = let q = before x y c ps l p.1 in (c ∷ q.0, (p.0, q.1))

  pub reaches_leads : (r : ℕ) → IsHeld t root r → (x y : ℕ) (ws : List ℕ) → block_parent_of t x ≡ Some r → IsPath (graph_of_region t r) x ws y → LeadsTo t x y
  reaches_leads r h x y [] is e = ([], e)
  reaches_leads r h x y (c ∷ ws) is p =
      let i = in_keys (succs_of t x) c p.0 in
      let there = step_in r h x c is i in
      let q = reaches_leads r h c y ws there p.1 in
      before x c y q.0 (record { successor = i; same_region = there ∙ sym is }) q.1

  -- what the entry reaches stands in the region
  pub path_in : (r : ℕ) → IsHeld t root r → (x y : ℕ) (ws : List ℕ) → block_parent_of t x ≡ Some r → IsPath (graph_of_region t r) x ws y → block_parent_of t y ≡ Some r
  path_in r h x y [] is e = ap (block_parent_of t) (sym e) ∙ is
  path_in r h x y (c ∷ ws) is p = path_in r h c y ws (step_in r h x c is (in_keys (succs_of t x) c p.0)) p.1

  pub entry_in : (r b : ℕ) → first_of (layout_of t r) None ≡ Some b → block_parent_of t b ≡ Some r
  entry_in r b e = w.layouts.owned b r (first_of-In b (layout_of t r) e)

  pub reached_in : (r b : ℕ) → IsHeld t root r → IsReachedIn t r b → block_parent_of t b ≡ Some r
  reached_in r b h x = path_in r h x.0 b x.2.0 (entry_in r x.0 x.1) x.2.1

  pub entered_in : (r b : ℕ) → IsHeld t root r → IsVisitedBlock t r b → block_parent_of t b ≡ Some r
  entered_in r b h e = go (has_ssa t r) e
    where
      go : (z : Bool) → IsVisitedBlockIf z t r b → block_parent_of t b ≡ Some r
      go true x = reached_in r b h x
      go false x = entry_in r b x

  -- a region of an operation
  pub nested_held : (r outer b k : ℕ) → IsHeld t root outer → block_parent_of t b ≡ Some outer → parent_of t k ≡ Some b → In r (regions_of t k) → IsHeld t root r
  nested_held r outer b k h is at i =
      let x = slice_in (regions_of t k) r i in
      let slot = w.joined.regions k x.0 r x.1 in
      record {
        holder = k;
        held = region_parent_is t r (record { op = k; index = x.0 }) slot;
        liveness = region_by t r (record { op = k; index = x.0 }) slot x.1;
        within = inr (inside_by h.holder (holder_by t k b h.holder at (block_holder_from t b outer is ∙ h.held)) h.within);
      }

  pub visited_held : (S : ℕ → Type 0) → ((r : ℕ) → S r → IsHeld t root r) → (r : ℕ) → IsVisited t S r → IsHeld t root r
  visited_held S starts r (Starts s) = starts r s
  visited_held S starts r (Nested outer b k v e at i) = let h = visited_held S starts outer v in nested_held r outer b k h (entered_in outer b h e) at i

-- a path of the tree is one of the graph
snoc : (t : Tree) (r x y z : ℕ) (ws : List ℕ) → IsPath (graph_of_region t r) x ws y → In z (succs_of t y) → IsPath (graph_of_region t r) x (ws ++ z ∷ []) z
snoc t r x y z [] e i = (subst (λ q. Contains (succs_of t q) z) (sym e) (keys_have (succs_of t y) z i), refl)
snoc t r x y z (c ∷ ws) p i = (p.0, snoc t r c y z ws p.1 i)

pub reaches_more : (t : Tree) (r x y z : ℕ) → Reaches (graph_of_region t r) x y → In z (succs_of t y) → Reaches (graph_of_region t r) x z
reaches_more t r x y z p i = (p.0 ++ z ∷ [], snoc t r x y z p.0 p.1 i)

pub leads_reaches : (t : Tree) (r x y : ℕ) (ps : List ℕ) → Path t x y ps → Reaches (graph_of_region t r) x y
leads_reaches t r x y [] e = ([], e)
leads_reaches t r x y (c ∷ ps) p = reaches_more t r x c y (leads_reaches t r x c ps p.1) p.0.successor

-- what stood within the root and stands does so still
pub within_still : (t u : Tree) (root k : ℕ) → IsTree u → IsInsideChange t u root → IsLive u k → IsWithin t root k → IsWithin u root k
within_still t u root k wu h live (inl e) = inl e
within_still t u root k wu h live (inr i) = elim (inside_or u root k wu.joined.rooted) [ inl j ↦ inr j | inr out ↦ absurd ((h.no_new_operation k (live, out)).1 i) ]
