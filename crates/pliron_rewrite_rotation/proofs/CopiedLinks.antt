-- Where a block was copied, a root that was well linked is so.
use Rattle.std.proofs.Common.{◌≡◌, ◌⊎◌, inl, inr, ℕ, length, Some, None, IsTrue, is_some, sym, ap, ◌∙◌, subst}
use Rattle.std.proofs.lemmas.List.{length-map}
use Rattle.pliron_core.specs.Invariant.{IsTree}
use Rattle.pliron_core.specs.Tree.{Tree, In, last_of, IsLive, IsInside, IsWithin, HoldsBlock, operands_of, successors_of, results_of, regions_of, parent_of, body_of, block_parent_of}
use Rattle.pliron_core.proofs.HoldingLemmas.{some_is, some_of}
use Rattle.pliron_core.proofs.NeighbourLemmas.{last_of-In}
use Rattle.pliron_laws.specs.Datum.{Meaning}
use Rattle.pliron_laws.specs.Linked.{EndsBlock, EdgesLast, AllAdmitted, IsWellLinked}
use Rattle.pliron_rewrite_copies.specs.Copies.{Originals}
use Rattle.pliron_rewrite_copies.specs.ClosedBlock.{IsBlockCopied}
use Rattle.pliron_rewrite_copies.proofs.Maps.{in_map, last_map, option_map_some}
use Rattle.pliron_rewrite_copies.proofs.Covered.{region_in, parent_forth, apart_in, block_holder_forth, inside_forth, within_forth}
use Rattle.pliron_rewrite_rotation.proofs.LeadingSteps.{leader_live}

module _ (m : Meaning) (t u : Tree) (o : Originals) (e c : ℕ) (w : IsTree t) (w' : IsTree u) (h : IsBlockCopied t u o e c) (root : ℕ) (own : o.operation root ≡ root) (l : IsWellLinked m t root) where
  placed : (k b : ℕ) → IsLive u k → parent_of t (o.operation k) ≡ Some b → (d : ℕ) × (parent_of u k ≡ Some d) × (o.block d ≡ b)
  placed k b live q = let d = h.placed k b live q in (d.0, d.1, some_is (sym (parent_forth t u o w w' h.originals k d.0 d.1) ∙ q))

  before : (k s : ℕ) → IsInside u root k ⊎ HoldsBlock u root s → IsInside t root (o.operation k) ⊎ HoldsBlock t root (o.block s)
  before k s (inl x) = inl (subst (λ z. IsInside t z (o.operation k)) own (inside_forth t u o w w' h.originals root k x))
  before k s (inr x) = inr (o.operation x.0, block_holder_forth t u o w w' h.originals s x.0 x.1, subst (λ z. IsWithin t z (o.operation x.0)) own (within_forth t u o w w' h.originals root x.0 x.2))

  ended : (k : ℕ) → IsLive u k → EndsBlock t (o.operation k) → EndsBlock u k
  ended k live ends =
      let d = placed k ends.block live ends.in_block in
      let r = region_in t u o w w' h.originals k d.0 d.1 in
      let body = ap (last_of None) (sym (h.originals.blocks d.0 r.0 r.1).body) ∙ ap (λ z. last_of None (body_of t z)) d.2 ∙ ends.last in
      let x = option_map_some o.operation (last_of None (body_of u d.0)) (o.operation k) (sym (last_map o.operation None (body_of u d.0)) ∙ body) in
      record {
        block = d.0;
        in_block = d.1;
        last = x.1 ∙ ap Some (apart_in t u o w w' h.originals d.0 x.0 k (w'.bodies.owned x.0 d.0 (last_of-In x.0 (body_of u d.0) x.1)) d.1 x.2);
        own_region = λ z j.
            let b = some_of (block_parent_of u z) (w'.joined.successors k z j) in
            let there = ends.own_region (o.block z) (subst (In (o.block z)) (sym (h.originals.operations k live).successors) (in_map o.block (successors_of u k) z j)) in
            let same : o.region b.0 ≡ o.region r.0 = some_is (sym (h.originals.blocks z b.0 b.1).parent ∙ there ∙ ap (block_parent_of t) (sym d.2) ∙ (h.originals.blocks d.0 r.0 r.1).parent) in
            b.1 ∙ ap Some (sym (h.regions b.0) ∙ same ∙ h.regions r.0) ∙ sym r.1;
      }

  edges : EdgesLast u root
  edges k s i held =
      let live = leader_live u w' k s i in
      ended k live (l.edges (o.operation k) (o.block s) (subst (In (o.block s)) (sym (h.originals.operations k live).successors) (in_map o.block (successors_of u k) s i)) (before k s held))

  admitted : AllAdmitted m u root
  admitted k i x q =
      let s = h.originals.operations k (ap is_some q) in
      let a = l.admitted (o.operation k) (subst (λ z. IsWithin t z (o.operation k)) own (within_forth t u o w w' h.originals root k i)) x (s.head ∙ q) in
      subst (λ n. IsTrue (m.admits x n (length (results_of u k)) (length (successors_of u k)) (length (regions_of u k)))) (ap length s.operands ∙ length-map (operands_of u k) o.value)
      (subst (λ n. IsTrue (m.admits x (length (operands_of t (o.operation k))) n (length (successors_of u k)) (length (regions_of u k)))) (ap length s.results ∙ length-map (results_of u k) o.value)
      (subst (λ n. IsTrue (m.admits x (length (operands_of t (o.operation k))) (length (results_of t (o.operation k))) n (length (regions_of u k)))) (ap length s.successors ∙ length-map (successors_of u k) o.block)
      (subst (λ n. IsTrue (m.admits x (length (operands_of t (o.operation k))) (length (results_of t (o.operation k))) (length (successors_of t (o.operation k))) n)) (ap length s.regions ∙ length-map (regions_of u k) o.region) a)))

  pub copied_linked : IsWellLinked m u root
  copied_linked = record { edges = edges; admitted = admitted }
