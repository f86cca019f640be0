-- What is seen stays seen where operations without regions are put into blocks, and uses move.
use Rattle.std.proofs.Common.{◌≡◌, ◌⊎◌, ◌<◌, ◌≤◌, ℕ, Bool, true, false, List, [], ◌∷◌, length, Some, None, IsTrue, inl, inr, refl, sym, ap, ◌∙◌, subst, arith}
use Rattle.std.proofs.lemmas.List.{get_or_past}
use Rattle.pliron_core.specs.Edges.{succs_of}
use Rattle.pliron_core.specs.Invariant.{IsTree}
use Rattle.pliron_core.specs.Reads.{has_ssa, has_ssa_at, ssa_in}
use Rattle.pliron_core.specs.Tree.{Tree, In, no_entry, row_of, regions_of, parent_of, block_parent_of, layout_of, region_parent_of, first_of, op_of_slot}
use Rattle.pliron_core.proofs.HoldingLemmas.{past_live, slice_in}
use Rattle.pliron_laws.specs.Paths.{Path}
use Rattle.pliron_graph_order.specs.Seen.{IsOnPathIn, IsVisitedBlockFromIf, IsVisitedFrom, Starts, Nested, IsSeen}

-- what was there has its regions and is where it was, and blocks and edges are as before
pub record Stays (t u : Tree) : Type 0 where
  pub longer : length t.operations ≤ length u.operations
  pub rows : (k : ℕ) → k < length t.operations → row_of u k ≡ row_of t k
  pub parents : (k : ℕ) → k < length t.operations → parent_of u k ≡ parent_of t k
  pub homes : (b : ℕ) → block_parent_of u b ≡ block_parent_of t b
  pub layouts : (r : ℕ) → layout_of u r ≡ layout_of t r
  pub successors : (b : ℕ) → succs_of u b ≡ succs_of t b

pub stays_refl : (t : Tree) → Stays t t
stays_refl t = record { longer = omega arith; rows = λ k lt. refl; parents = λ k lt. refl; homes = λ b. refl; layouts = λ r. refl; successors = λ b. refl }

pub stays_trans : (t u v : Tree) → Stays t u → Stays u v → Stays t v
stays_trans t u v a b = record {
  longer = let p = a.longer in let q = b.longer in omega (arith, p, q);
  rows = λ k lt. b.rows k (low k lt) ∙ a.rows k lt;
  parents = λ k lt. b.parents k (low k lt) ∙ a.parents k lt;
  homes = λ z. b.homes z ∙ a.homes z;
  layouts = λ r. b.layouts r ∙ a.layouts r;
  successors = λ z. b.successors z ∙ a.successors z;
}
  where
    low : (k : ℕ) → k < length t.operations → k < length u.operations
    low k lt = let p = a.longer in omega (arith, p, lt)

module _ (t u : Tree) (w : IsTree t) (w' : IsTree u) (h : Stays t u) where
  placed_low : (k b : ℕ) → parent_of t k ≡ Some b → k < length t.operations
  placed_low k b at = past_live t k (w.joined.all_in_place k b at).0

  holder_low : (k r : ℕ) → In r (regions_of t k) → k < length t.operations
  holder_low k r i = go (cases k (length t.operations))
    where
      cases : (x n : ℕ) → (x < n) ⊎ (n ≤ x)
      cases x n = grind arith

      go : (k < length t.operations) ⊎ (length t.operations ≤ k) → k < length t.operations
      go (inl lt) = lt
      go (inr le) = absurd (subst (In r) (ap (λ z. z.regions) (get_or_past t.operations k no_entry le)) i)

  same_regions : (k r : ℕ) → In r (regions_of t k) → In r (regions_of u k)
  same_regions k r i = subst (In r) (ap (λ z. z.regions) (sym (h.rows k (holder_low k r i)))) i

  same_ssa : (k r : ℕ) → In r (regions_of t k) → has_ssa u r ≡ has_ssa t r
  same_ssa k r i =
      let x = slice_in (regions_of t k) r i in
      let y = slice_in (regions_of u k) r (same_regions k r i) in
      let here : region_parent_of t r ≡ Some k = ap op_of_slot (w.joined.regions k x.0 r x.1) in
      let there : region_parent_of u r ≡ Some k = ap op_of_slot (w'.joined.regions k y.0 r y.1) in
      ap (has_ssa_at u) there ∙ ap (λ z. ssa_in z.head) (h.rows k (holder_low k r i)) ∙ sym (ap (has_ssa_at t) here)

  path_stays : (a b : ℕ) (before : List ℕ) → Path t a b before → Path u a b before
  path_stays a b [] p = p
  path_stays a b (c ∷ before) p = (record { successor = subst (In b) (sym (h.successors c)) p.0.successor; same_region = h.homes b ∙ p.0.same_region ∙ sym (h.homes c) }, path_stays a c before p.1)

  reached_stays : (r c : ℕ) → IsOnPathIn t r c → IsOnPathIn u r c
  reached_stays r c x = (x.0, ap (λ l. first_of l None) (h.layouts r) ∙ x.1, x.2, path_stays x.0 c x.2 x.3)

  block_stays : (d : Bool) (r c : ℕ) → IsVisitedBlockFromIf d t r c → IsVisitedBlockFromIf d u r c
  block_stays true r c x = reached_stays r c x
  block_stays false r c x = ap (λ l. first_of l None) (h.layouts r) ∙ x

  module _ (root : ℕ) where
    holder : (r : ℕ) → IsVisitedFrom t root r → (k : ℕ) × In r (regions_of t k)
    holder r (Starts i) = (root, i)
    holder r (Nested outer c k v l p i) = (k, i)

    visited_ssa : (r : ℕ) → IsVisitedFrom t root r → has_ssa u r ≡ has_ssa t r
    visited_ssa r v = let x = holder r v in same_ssa x.0 r x.1

    visited_stays : (r : ℕ) → IsVisitedFrom t root r → IsVisitedFrom u root r
    visited_stays r (Starts i) = Starts (same_regions root r i)
    visited_stays r (Nested outer c k v l p i) = Nested outer c k (visited_stays outer v) (subst (λ d. IsVisitedBlockFromIf d u outer c) (sym (visited_ssa outer v)) (block_stays (has_ssa t outer) outer c l)) (h.parents k (holder_low k r i) ∙ p) (same_regions k r i)

    pub seen_stays : (k : ℕ) → IsSeen t root k → IsSeen u root k
    seen_stays k x = record {
      block = x.block;
      region = x.region;
      in_block = h.parents k (placed_low k x.block x.in_block) ∙ x.in_block;
      in_region = h.homes x.block ∙ x.in_region;
      visited = visited_stays x.region x.visited;
      dominance = subst IsTrue (sym (visited_ssa x.region x.visited)) x.dominance;
      reached = reached_stays x.region x.block x.reached;
    }

-- what is beside a seen operation is seen
pub seen_beside : (t : Tree) (root k j : ℕ) → IsSeen t root k → parent_of t j ≡ parent_of t k → IsSeen t root j
seen_beside t root k j x e = record { block = x.block; region = x.region; in_block = e ∙ x.in_block; in_region = x.in_region; visited = x.visited; dominance = x.dominance; reached = x.reached }
