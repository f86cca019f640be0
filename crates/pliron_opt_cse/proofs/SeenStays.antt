-- Where an operation without regions and successors is erased, what else is seen is seen still.
use Rattle.std.proofs.Common.{◌≡◌, ◌≢◌, ◌↔◌, ℕ, Bool, true, false, List, [], Some, None, IsTrue, sym, ap, ◌∙◌, subst}
use Rattle.pliron_core.specs.Tree.{Tree, In, IsLive, IsInside, successors_of, regions_of, parent_of, block_parent_of, layout_of, region_parent_of, first_of, op_of_slot}
use Rattle.pliron_core.specs.Invariant.{IsTree}
use Rattle.pliron_core.specs.Erased.{after_erasing, IsSelfContained}
use Rattle.pliron_core.specs.Reads.{has_ssa, has_ssa_at, ssa_in}
use Rattle.pliron_core.proofs.HoldingLemmas.{slice_in}
use Rattle.pliron_laws.specs.Linked.{EdgesLast}
use Rattle.pliron_laws.specs.Paths.{Path}
use Rattle.pliron_graph_order.specs.Seen.{IsOnPathIn, IsVisitedBlockFromIf, IsVisitedFrom, Starts, Nested, IsSeen}
use Rattle.pliron_opt_cse.proofs.Staying.{alike, is, lives, parents, regions_same, path_forth, path_back}

-- u shows what t shows, but for the operation b, which holds nothing
pub record Shows (t u : Tree) (b : ℕ) : Type 0 where
  pub regions : (k : ℕ) → regions_of u k ≡ regions_of t k
  pub layouts : (r : ℕ) → layout_of u r ≡ layout_of t r
  pub homes : (c : ℕ) → block_parent_of u c ≡ block_parent_of t c
  pub placed : (k : ℕ) → k ≢ b → parent_of u k ≡ parent_of t k
  pub others : (k r : ℕ) → In r (regions_of t k) → k ≢ b
  pub ssa : (k r : ℕ) → In r (regions_of t k) → has_ssa u r ≡ has_ssa t r
  pub paths : (x y : ℕ) (before : List ℕ) → Path t x y before → Path u x y before

module _ (t u : Tree) (b root : ℕ) (s : Shows t u b) where
  reached_on : (r c : ℕ) → IsOnPathIn t r c → IsOnPathIn u r c
  reached_on r c x = (x.0, ap (λ l. first_of l None) (s.layouts r) ∙ x.1, x.2, s.paths x.0 c x.2 x.3)

  looked_on : (d : Bool) (r c : ℕ) → IsVisitedBlockFromIf d t r c → IsVisitedBlockFromIf d u r c
  looked_on true r c x = reached_on r c x
  looked_on false r c x = ap (λ l. first_of l None) (s.layouts r) ∙ x

  -- what holds a visited region
  holder : (r : ℕ) → IsVisitedFrom t root r → (k : ℕ) × In r (regions_of t k)
  holder r (Starts i) = (root, i)
  holder r (Nested outer c k v l p i) = (k, i)

  same_ssa : (r : ℕ) → IsVisitedFrom t root r → has_ssa u r ≡ has_ssa t r
  same_ssa r v = let h = holder r v in s.ssa h.0 r h.1

  visited_on : (r : ℕ) → IsVisitedFrom t root r → IsVisitedFrom u root r
  visited_on r (Starts i) = Starts (subst (In r) (sym (s.regions root)) i)
  visited_on r (Nested outer c k v l p i) = Nested outer c k (visited_on outer v) (subst (λ d. IsVisitedBlockFromIf d u outer c) (sym (same_ssa outer v)) (looked_on (has_ssa t outer) outer c l)) (s.placed k (s.others k r i) ∙ p) (subst (In r) (sym (s.regions k)) i)

  pub seen_on : (k : ℕ) → k ≢ b → IsSeen t root k → IsSeen u root k
  seen_on k ne x = record {
    block = x.block;
    region = x.region;
    in_block = s.placed k ne ∙ x.in_block;
    in_region = s.homes x.block ∙ x.in_region;
    visited = visited_on x.region x.visited;
    dominance = subst IsTrue (sym (same_ssa x.region x.visited)) x.dominance;
    reached = reached_on x.region x.block x.reached;
  }

module _ (t : Tree) (b : ℕ) (w : IsTree t) (none : regions_of t b ≡ []) (next : successors_of t b ≡ []) (live : IsLive t b) (contained : IsSelfContained t b) (w' : IsTree (after_erasing t b)) (root : ℕ) (edges : EdgesLast t root) (inside : IsInside t root b) where
  regions_stay : (k : ℕ) → regions_of (after_erasing t b) k ≡ regions_of t k
  regions_stay k = (alike t b w none next live contained w' root edges inside).regions k

  other : (k r : ℕ) → In r (regions_of t k) → k ≢ b
  other k r i e = subst (In r) (ap (regions_of t) e ∙ none) i

  ssa_stays : (k r : ℕ) → In r (regions_of t k) → has_ssa (after_erasing t b) r ≡ has_ssa t r
  ssa_stays k r i =
      let l = lives t b w none next live contained w' root edges inside k (other k r i) in
      let rows = (is t b w none next live contained w' root edges inside).rows k l in
      let x = slice_in (regions_of t k) r i in
      let y = slice_in (regions_of (after_erasing t b) k) r (subst (In r) (sym (regions_stay k)) i) in
      let here : region_parent_of t r ≡ Some k = ap op_of_slot (w.joined.regions k x.0 r x.1) in
      let there : region_parent_of (after_erasing t b) r ≡ Some k = ap op_of_slot (w'.joined.regions k y.0 r y.1) in
      ap (has_ssa_at (after_erasing t b)) there ∙ ap (λ z. ssa_in z.head) rows ∙ sym (ap (has_ssa_at t) here)

  forth : Shows t (after_erasing t b) b
  forth = record {
    regions = regions_stay;
    layouts = λ r. (alike t b w none next live contained w' root edges inside).layouts r;
    homes = λ c. regions_same t b w none next live contained w' root edges inside c;
    placed = λ k ne. parents t b w none next live contained w' root edges inside k ne;
    others = other;
    ssa = ssa_stays;
    paths = λ x y before p. path_forth t b w none next live contained w' root edges inside x y before p;
  }

  back : Shows (after_erasing t b) t b
  back = record {
    regions = λ k. sym (regions_stay k);
    layouts = λ r. sym ((alike t b w none next live contained w' root edges inside).layouts r);
    homes = λ c. sym (regions_same t b w none next live contained w' root edges inside c);
    placed = λ k ne. sym (parents t b w none next live contained w' root edges inside k ne);
    others = λ k r i. other k r (subst (In r) (regions_stay k) i);
    ssa = λ k r i. sym (ssa_stays k r (subst (In r) (regions_stay k) i));
    paths = λ x y before p. path_back t b w none next live contained w' root edges inside x y before p;
  }

  pub seen_stays : (k : ℕ) → k ≢ b → IsSeen t root k ↔ IsSeen (after_erasing t b) root k
  seen_stays k ne = (seen_on t (after_erasing t b) b root forth k ne, seen_on (after_erasing t b) t b root back k ne)
