-- The blocks of a region by their numbers in its dominator tree.
use Rattle.std.proofs.Common.{◌≡◌, ◌≢◌, ◌↔◌, ℕ, ◌<◌, ◌&&◌, Bool, true, nat_eq, List, [], ◌∷◌, Option, Some, None, Contains, length, get_or, refl, sym, ap, ◌∙◌, subst, inl, inr, ⊎_elim, arith}
use Rattle.std.proofs.Math.Bool.{and-true}
use Rattle.std.proofs.lemmas.Cmp.{nat_eq_equiv}
use Rattle.std.proofs.lemmas.List.Sums.{passes_at_first}
use Rattle.std.proofs.lemmas.List.{get_or_default}
use Rattle.std.specs.Cmp.{IsEquivalence}
use Rattle.std.specs.Option.{option_to_list}
use Rattle.pliron_core.specs.Tree.{Tree, In, body_of, block_parent_of, layout_of, first_of, region_parent_of}
use Rattle.pliron_core.specs.Invariant.{IsTree}
use Rattle.pliron_core.proofs.HoldingLemmas.{some_is}
use Rattle.pliron_rewrite_equals.specs.OperationDominance.{DominatesOperation}
use Rattle.pliron_laws.specs.Paths.{Path}
use Rattle.pliron_graph_traversal.specs.Digraph.{IsReached}
use Rattle.pliron_graph_traversal.specs.Regions.{graph_of_region, IsLawfulRegion}
use Rattle.pliron_graph_traversal.specs.Search.{IsListed, number_in}
use Rattle.pliron_graph_traversal.specs.Internal.RegionLawful.{in_keys, keys_have}
use Rattle.pliron_graph_traversal.proofs.PlaceLemmas.{listed_within, place_at}
use Rattle.pliron_graph_dominance.specs.Dominance.{IsImmediate}
use Rattle.pliron_graph_dominance.specs.ParentTables.{parent_by}
use Rattle.pliron_graph_dominance.specs.NumberTests.{Parents, AreParentsOf, GivesDominance}
use Rattle.pliron_graph_dominance.proofs.RegionLemmas.{forwards, backwards, first_in, both}
use Rattle.pliron_graph_dominance.proofs.TableLemmas.{decide, within}
use Rattle.pliron_graph_dominance.proofs.GivingLemmas.{within_listed, immediate_at, first_is_entry}
use Rattle.pliron_graph_order.specs.Numbering.{key_eq, NumberTables, GivesBefore, IsBeforeHolder, IsWaiting, IsLeftAt}
use Rattle.pliron_graph_order.specs.Seen.{IsOnPathIn, IsSeen}
use Rattle.pliron_graph_order.specs.Behind.{IsBehind, IsPassedBy, IsNearestBefore}
use Rattle.pliron_graph_order.proofs.Behind.{behind}
use Rattle.pliron_graph_order.proofs.SeenLemmas.{reached_in}
use Rattle.pliron_graph_order.proofs.StepLemmas.{tells_alike}

pub equivalence : IsEquivalence key_eq
equivalence = record {
  refl = λ x. and-true (nat_eq x x) ∙ nat_eq_equiv.refl x;
  symm = λ x y. and-true (nat_eq x y) ∙ nat_eq_equiv.symm x y ∙ sym (and-true (nat_eq y x));
  congr = λ x y z e. and-true (nat_eq x z) ∙ nat_eq_equiv.congr x y z (sym (and-true (nat_eq x y)) ∙ e) ∙ sym (and-true (nat_eq y z));
}

in_option : (o : Option ℕ) (x : ℕ) → In x (option_to_list o) → o ≡ Some x
in_option None x i = absurd i
in_option (Some y) x (inl e) = ap Some (sym e)
in_option (Some y) x (inr i) = absurd i

option_in : (o : Option ℕ) (x : ℕ) → o ≡ Some x → In x (option_to_list o)
option_in o x e = subst (λ z. In x (option_to_list z)) (sym e) (inl refl)

module _ (t : Tree) (r : ℕ) (l : IsLawfulRegion t r) (tree : Parents ℕ) (h : AreParentsOf key_eq tree) (gives : GivesDominance key_eq (graph_of_region t r) tree) where
  abbrev node : ℕ → ℕ
  node k = get_or tree.nodes k 0

  place : (k : ℕ) → k < length tree.nodes → number_in key_eq tree.nodes (node k) ≡ k
  place k lt = place_at key_eq equivalence tree.nodes k 0 h.distinct lt

  listed : (k : ℕ) → k < length tree.nodes → IsListed key_eq tree.nodes (node k)
  listed k lt = within_listed (key_eq (node k)) tree.nodes (subst (λ z. z < length tree.nodes) (sym (place k lt)) lt)

  -- each is reached
  pub node_reached : (k : ℕ) → k < length tree.nodes → IsOnPathIn t r (node k)
  node_reached k lt =
      let x = (gives.listed (node k)).0 (listed k lt) in
      let at : first_of (layout_of t r) None ≡ Some x.0 = in_option (first_of (layout_of t r) None) x.0 (in_keys (option_to_list (first_of (layout_of t r) None)) x.0 x.1) in
      let p = backwards t r l x.0 x.0 (node k) x.2.0 [] (first_in t r l (layout_of t r) x.0 at) refl x.2.1 in
      (x.0, at, p.0, p.1)

  -- and what is reached is one of them
  pub reached_node : (c : ℕ) → IsOnPathIn t r c → (k : ℕ) × (k < length tree.nodes) × (node k ≡ c)
  reached_node c x =
      let f = forwards t r l x.0 c x.2 x.3 in
      let here : IsListed key_eq tree.nodes c = (gives.listed c).1 (x.0, keys_have (option_to_list (first_of (layout_of t r) None)) x.0 (option_in (first_of (layout_of t r) None) x.0 x.1), (f.0, f.1)) in
      let low = listed_within (key_eq c) tree.nodes here in
      (number_in key_eq tree.nodes c, low, sym (gives.same c (node (number_in key_eq tree.nodes c)) (passes_at_first (key_eq c) tree.nodes 0 low)))

  -- the first is the entry
  pub node_entry : (k : ℕ) → k < length tree.nodes → k ≡ 0 → first_of (layout_of t r) None ≡ Some (node k)
  node_entry k lt e = first_is_entry key_eq equivalence tree h (graph_of_region t r) gives (node k) (listed k lt) (place k lt ∙ e)

  -- and of each other the parent is the immediate dominator
  pub node_nearest : (k : ℕ) → k < length tree.nodes → k ≢ 0 → IsNearestBefore t r (node (parent_by tree.parents k)) (node k)
  node_nearest k lt ne =
      let up = parent_by tree.parents k in
      let low : up < length tree.nodes = omega (arith, within tree.parents (h.parents (omega (arith, lt))) k (omega (arith, lt, h.counted)), h.counted) in
      let d = node up in
      let same : d ≡ get_or tree.nodes up d = get_default tree.nodes up d low in
      let imm : IsImmediate (graph_of_region t r) d (node k) = immediate_at key_eq equivalence tree h (graph_of_region t r) gives (node k) d tree.nodes up same refl (ap (parent_by tree.parents) (sym (place k lt))) (listed k lt) (λ e. ne (sym (place k lt) ∙ e)) in
      record {
        beside = reached_in t l.tree r d (node_reached up low);
        other = imm.strictly.0;
        passed = (both t r l d (node k)).0 imm.strictly.1;
        nearest = λ y other p. (both t r l y d).0 (imm.nearest y (other, (both t r l y (node k)).1 p));
      }
    where
      get_default : (xs : List ℕ) (i d : ℕ) → i < length xs → get_or xs i 0 ≡ get_or xs i d
      get_default xs i d lt = get_or_default xs i 0 d lt

  -- what stands before the start of a block, by the number before it
  module _ (n : NumberTables) (above : ℕ) (waiting : IsWaiting t n r above) (k : ℕ) (lt : k < length tree.nodes) (from : ℕ) (top : k ≡ 0 → from ≡ above) (up : k ≢ 0 → IsLeftAt t n (node (parent_by tree.parents k)) (body_of t (node (parent_by tree.parents k))) from) where
    pub node_low : from < length n.parents
    node_low = ⊎_elim (λ e. subst (λ z. z < length n.parents) (sym (top e)) waiting.low) (λ ne. (up ne).low) (decide k 0)

    at_entry : k ≡ 0 → GivesBefore t n from (IsBehind t r (node k) [])
    at_entry e = subst (λ z. GivesBefore t n z (IsBehind t r (node k) [])) (sym (top e)) (tells_alike t n above (IsBeforeHolder t r) (IsBehind t r (node k) []) (λ x s. same x) waiting.before)
      where
        same : (x : ℕ) → IsBeforeHolder t r x ↔ IsBehind t r (node k) [] x
        same x =
            let b = behind.entry t r (node k) l.holder x l.tree (node_entry k lt e) l.held in
            (λ q. b.1 (let is : q.0 ≡ l.holder = some_is (sym q.1 ∙ l.held) in subst (DominatesOperation t x) is q.2), λ q. (l.holder, l.held, b.0 q))

    at_other : k ≢ 0 → GivesBefore t n from (IsBehind t r (node k) [])
    at_other ne =
        let near = node_nearest k lt ne in
        let d = node (parent_by tree.parents k) in
        tells_alike t n from (IsBehind t r d (body_of t d)) (IsBehind t r (node k) [])
        (λ x s. let b = behind.first t r (node k) d x l.tree (node_reached k lt) near in (b.1, b.0)) ((up ne).before r near.beside)

    pub node_tells : GivesBefore t n from (IsBehind t r (node k) [])
    node_tells = ⊎_elim at_entry at_other (decide k 0)
