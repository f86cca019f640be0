-- What is visited stands inside the root.
use Rattle.std.proofs.Common.{◌≡◌, ◌⊎◌, ◌↔◌, ℕ, Bool, true, false, List, [], ◌∷◌, ◌++◌, Some, None, IsTrue, true≢false, refl, sym, ap, ◌∙◌, subst, inl, inr, ⊎_elim}
use Rattle.pliron_core.specs.Tree.{Tree, In, IsInside, IsInside.Directly, IsWithin, regions_of, parent_of, body_of, block_parent_of, layout_of, region_parent_of, parent_operation_of, first_of, op_of_slot}
use Rattle.pliron_core.specs.Invariant.{IsTree}
use Rattle.pliron_core.specs.Reads.{has_ssa}
use Rattle.pliron_core.proofs.NeighbourLemmas.{first_of-In}
use Rattle.pliron_core.proofs.WithinLemmas.{block_holder_from}
use Rattle.pliron_core.proofs.HoldingLemmas.{some_is, slice_in, region_by, holder_by, inside_by, deeper, holds_deeper, not_itself, within_inside}
use Rattle.pliron_laws.specs.Linked.{EdgesLast}
use Rattle.pliron_laws.specs.Paths.{Path}
use Rattle.pliron_graph_traversal.specs.Regions.{IsLawfulRegion}
use Rattle.pliron_rewrite_equals.specs.OperationDominance.{DominatesOperation}
use Rattle.pliron_graph_order.specs.Seen.{IsOnPathIn, IsVisitedBlockFrom, IsVisitedBlockFromIf, IsVisitedFrom, Starts, Nested, IsSeen}
use Rattle.pliron_graph_order.specs.Behind.{IsBehind}
use Rattle.pliron_graph_order.specs.Numbering.{IsBeforeHolder}

-- a path stays in its region
path_in : (t : Tree) (r a b : ℕ) (before : List ℕ) → block_parent_of t a ≡ Some r → Path t a b before → block_parent_of t b ≡ Some r
path_in t r a b [] is e = ap (block_parent_of t) (sym e) ∙ is
path_in t r a b (c ∷ before) is p = p.0.same_region ∙ path_in t r a c before is p.1

module _ (t : Tree) (w : IsTree t) where
  entry_in : (r b : ℕ) → first_of (layout_of t r) None ≡ Some b → block_parent_of t b ≡ Some r
  entry_in r b e = w.layouts.owned b r (first_of-In b (layout_of t r) e)

  pub reached_in : (r b : ℕ) → IsOnPathIn t r b → block_parent_of t b ≡ Some r
  reached_in r b x = path_in t r x.0 b x.2 (entry_in r x.0 x.1) x.3

  looked_if : (d : Bool) (r b : ℕ) → IsVisitedBlockFromIf d t r b → block_parent_of t b ≡ Some r
  looked_if true r b x = reached_in r b x
  looked_if false r b x = entry_in r b x

  pub looked_in : (r b : ℕ) → IsVisitedBlockFrom t r b → block_parent_of t b ≡ Some r
  looked_in r b x = looked_if (has_ssa t r) r b x

  -- what holds a region of an operation
  pub holder_of_region : (k r : ℕ) → In r (regions_of t k) → region_parent_of t r ≡ Some k
  holder_of_region k r i = let x = slice_in (regions_of t k) r i in ap op_of_slot (w.joined.regions k x.0 r x.1)

  held_by : (k b r h : ℕ) → parent_of t k ≡ Some b → block_parent_of t b ≡ Some r → region_parent_of t r ≡ Some h → parent_operation_of t k ≡ Some h
  held_by k b r h at is held = holder_by t k b h at (block_holder_from t b r is ∙ held)

  -- the operation that holds a visited region is the root or stands inside it
  pub visited_within : (root r : ℕ) → IsVisitedFrom t root r → (h : ℕ) × (region_parent_of t r ≡ Some h) × IsWithin t root h
  visited_within root r (Starts i) = (root, holder_of_region root r i, inl refl)
  visited_within root r (Nested outer b k v l p i) =
      let up = visited_within root outer v in
      (k, holder_of_region k r i, inr (inside_by up.0 (held_by k b outer up.0 p (looked_in outer b l) up.1) up.2))

  pub seen_inside : (root k : ℕ) → IsSeen t root k → IsInside t root k
  seen_inside root k s = let up = visited_within root s.region s.visited in inside_by up.0 (held_by k s.block s.region up.0 s.in_block s.in_region up.1) up.2

  -- nothing that is seen stands before the root
  pub none_before_root : (root x : ℕ) → IsSeen t root x → DominatesOperation t x root → ⊥
  none_before_root root x s p =
      let up = visited_within root s.region s.visited in
      let home : p.home ≡ s.block = some_is (sym p.in_home ∙ s.in_block) in
      let region : p.region ≡ s.region = some_is (sym p.home_region ∙ ap (block_parent_of t) home ∙ s.in_region) in
      let around : IsInside t root p.around = inside_by up.0 (held_by p.around p.block p.region up.0 p.in_block p.in_region (ap (region_parent_of t) region ∙ up.1)) up.2 in
      not_itself w.joined.rooted (within_inside around p.holds)

  -- a region of an operation may be read as a graph
  pub lawful_nested : (k r : ℕ) → In r (regions_of t k) → EdgesLast t k → IsLawfulRegion t r
  lawful_nested k r i e =
      let x = slice_in (regions_of t k) r i in
      let slot = w.joined.regions k x.0 r x.1 in
      record { tree = w; liveness = region_by t r (record { op = k; index = x.0 }) slot x.1; holder = k; held = ap op_of_slot slot; edges = e }

  -- edges stand last in what stands in a block of a region where they do
  pub edges_nested : (r b k : ℕ) → IsLawfulRegion t r → block_parent_of t b ≡ Some r → parent_of t k ≡ Some b → EdgesLast t k
  edges_nested r b k l is at =
      let inside : IsInside t l.holder k = Directly (held_by k b r l.holder at is l.held) in
      edges_held l.holder k inside l.edges
    where
      edges_held : (op q : ℕ) → IsInside t op q → EdgesLast t op → EdgesLast t q
      edges_held op q i e j s y (inl z) = e j s y (inl (deeper i z))
      edges_held op q i e j s y (inr z) = e j s y (inr (holds_deeper i s z))

  -- where the region has no SSA dominance, what is seen stands before a place in it exactly if it stands before its holder
  pub behind_elsewhere : (root r c x : ℕ) (done : List ℕ) → (IsTrue (has_ssa t r) → ⊥) → IsSeen t root x → IsBehind t r c done x ↔ IsBeforeHolder t r x
  behind_elsewhere root r c x done none s = (forth, λ h. inr h)
    where
      forth : IsBehind t r c done x → IsBeforeHolder t r x
      forth (inr h) = h
      forth (inl q) =
          let home : q.0 ≡ s.block = some_is (sym q.1 ∙ s.in_block) in
          let region : r ≡ s.region = some_is (sym q.2 ∙ ap (block_parent_of t) home ∙ s.in_region) in
          absurd (none (subst (λ z. IsTrue (has_ssa t z)) (sym region) s.dominance))
