-- Visited regions may be read as graphs, and what is entered stands in them.
use Rattle.std.proofs.Common.{◌≡◌, inl, inr, ℕ, ◌<◌, ◌≤◌, ◌+◌, ◌-◌, arith, length, Bool, true, false, List, [], ◌∷◌, Some, Contains, IsSome, refl, sym, ap, ◌∙◌, subst}
use Rattle.std.proofs.lemmas.Option.{slice_get_within}
use Rattle.pliron_core.specs.Lists.{IsDistinct}
use Rattle.pliron_core.specs.Tree.{Tree, In, IsBlock, IsRegion, IsInside, IsInside.Directly, regions_of, body_of, block_parent_of, layout_of, block_parent_operation_of, region_parent_of, op_of_slot}
use Rattle.pliron_core.specs.Invariant.{IsTree}
use Rattle.pliron_core.specs.Reads.{has_ssa}
use Rattle.std.specs.List.{flat_map}
use Rattle.pliron_core.proofs.FlatLemmas.{flat_map-In}
use Rattle.pliron_core.proofs.ListLemmas.{distinct-length}
use Rattle.pliron_core.proofs.NeighbourLemmas.{first_of-In}
use Rattle.pliron_core.proofs.WithinLemmas.{block_holder_from}
use Rattle.pliron_core.proofs.HoldingLemmas.{slice_in, slot_is, region_by, region_parent_is, block_held, holder_by, deeper, holds_deeper}
use Rattle.pliron_laws.specs.Linked.{EdgesLast}
use Rattle.pliron_graph_traversal.specs.Digraph.{IsPath}
use Rattle.pliron_graph_traversal.specs.Regions.{graph_of_region, IsLawfulRegion}
use Rattle.pliron_graph_traversal.specs.Internal.RegionLawful.{in_keys, keys_have, region_lawful, same_key}
use Rattle.pliron_opt_cfg.specs.Visited.{IsVisited, IsVisited.Starts, IsVisited.Nested, IsVisitedBlock, IsVisitedBlockIf, IsReachedIn}

module _ (t : Tree) (w : IsTree t) (r : ℕ) (l : IsLawfulRegion t r) where
  path_stays : (u : ℕ) (ws : List ℕ) (v : ℕ) → Contains (layout_of t r) u → IsPath (graph_of_region t r) u ws v → Contains (layout_of t r) v
  path_stays u [] v i p = subst (Contains (layout_of t r)) p i
  path_stays u (x ∷ xs) v i p = path_stays x xs v ((region_lawful t r l _ (λ x y e. same_key x y e)).succ_in u x i p.0) p.1

  pub reached_in : (b : ℕ) → IsReachedIn t r b → block_parent_of t b ≡ Some r
  reached_in b x = w.layouts.owned b r (in_keys (layout_of t r) b (path_stays x.0 x.2.0 b (keys_have (layout_of t r) x.0 (first_of-In x.0 (layout_of t r) x.1)) x.2.1))

  entered_if : (ssa : Bool) (b : ℕ) → IsVisitedBlockIf ssa t r b → block_parent_of t b ≡ Some r
  entered_if true b x = reached_in b x
  entered_if false b x = w.layouts.owned b r (first_of-In b (layout_of t r) x)

  pub entered_in : (b : ℕ) → IsVisitedBlock t r b → block_parent_of t b ≡ Some r
  entered_in b x = entered_if (has_ssa t r) b x

  pub entered_stands : (b : ℕ) → IsVisitedBlock t r b → IsBlock t b
  entered_stands b x = subst IsSome (sym (entered_in b x)) refl

-- edges stand last in what is held
pub edges_held : (t : Tree) (op k : ℕ) → IsInside t op k → EdgesLast t op → EdgesLast t k
edges_held t op k i e j s y (inl z) = e j s y (inl (deeper i z))
edges_held t op k i e j s y (inr z) = e j s y (inr (holds_deeper i s z))

-- a region of an operation
pub region_of_op : (t : Tree) → IsTree t → (op r : ℕ) → In r (regions_of t op) → EdgesLast t op → IsLawfulRegion t r
region_of_op t w op r i e =
    let x = slice_in (regions_of t op) r i in
    let slot = w.joined.regions op x.0 r x.1 in
    record { tree = w; liveness = region_by t r (record { op = op; index = x.0 }) slot x.1; holder = op; held = ap op_of_slot slot; edges = e }

pub visited_lawful : (t : Tree) → IsTree t → (Start : ℕ → Type 0) → ((r : ℕ) → Start r → IsLawfulRegion t r) → (r : ℕ) → IsVisited t Start r → IsLawfulRegion t r
visited_lawful t w Start f r (Starts s) = f r s
visited_lawful t w Start f r (Nested outer b k v e p i) =
    let l = visited_lawful t w Start f outer v in
    let inside : IsInside t l.holder k = Directly (holder_by t k b l.holder p (block_holder_from t b outer (entered_in t w outer l b e) ∙ l.held)) in
    region_of_op t w k r i (edges_held t l.holder k inside l.edges)

pub region_below : (t : Tree) (r : ℕ) → IsRegion t r → r < length t.slots
region_below t r is = let s = slot_is t r is in slice_get_within t.slots r s.0 s.1

-- visited regions are no more than regions
pub seen_few : (t : Tree) → IsTree t → (Start : ℕ → Type 0) → ((r : ℕ) → Start r → IsLawfulRegion t r) → (seen : List ℕ) → IsDistinct seen → ((r : ℕ) → In r seen → IsVisited t Start r) → length seen ≤ length t.slots
seen_few t w Start f seen d v = distinct-length (length t.slots) seen d (λ r i. region_below t r (visited_lawful t w Start f r (v r i)).liveness)

pub fewer_left : (a x y rest s waiting : ℕ) → s ≤ a → y ≤ a → x + s ≡ rest + y → waiting ≡ rest + 1 → a + x - y < a + waiting - s
fewer_left a x y rest s waiting h k e f = omega (arith, h, k, e, f)

-- what a call on a block, on a region starts with may be read as a graph
pub region_in_block : (t : Tree) → IsTree t → (block r : ℕ) → IsBlock t block → ((holder : ℕ) → block_parent_operation_of t block ≡ Some holder → EdgesLast t holder) → In r (flat_map (λ k. regions_of t k) (body_of t block)) → IsLawfulRegion t r
region_in_block t w block r liveness edges i =
    let up = block_held t block w.joined liveness in
    let k = flat_map-In (λ k. regions_of t k) (body_of t block) r i in
    let inside : IsInside t up.1 k.0 = Directly (holder_by t k.0 block up.1 (w.bodies.owned k.0 block k.1) up.5) in
    region_of_op t w k.0 r k.2 (edges_held t up.1 k.0 inside (edges up.1 up.5))

pub region_itself : (t : Tree) → IsTree t → (r : ℕ) → IsRegion t r → ((holder : ℕ) → region_parent_of t r ≡ Some holder → EdgesLast t holder) → IsLawfulRegion t r
region_itself t w r liveness edges =
    let s = slot_is t r liveness in
    let up = region_parent_is t r s.0 s.1 in
    record { tree = w; liveness = liveness; holder = s.0.op; held = up; edges = edges s.0.op up }
