-- What passing values to a block keeps of roots that hold it.
use Rattle.std.proofs.Common.{◌≡◌, inl, inr, ⊎_elim, ℕ, List, length, None, IsSome, slice_get, sym, ap, ◌∙◌, subst}
use Rattle.pliron_core.specs.Changes.{IsInsideChange}
use Rattle.pliron_core.specs.Invariant.{IsTree}
use Rattle.pliron_core.specs.Tree.{Tree, In, last_of, IsInside, HoldsBlock, successors_of, block_parent_of, region_parent_of, up_from}
use Rattle.pliron_core.proofs.HoldingLemmas.{inside_block}
use Rattle.pliron_core.proofs.InsideLemmas.{AreKeptOutside, change_of_kept}
use Rattle.pliron_laws.specs.Datum.{Meaning}
use Rattle.pliron_laws.specs.Linked.{IsWellLinked}
use Rattle.pliron_theory.proofs.KeptPlaces.{KeepsPlaces, same_block_holder, inside_forth, inside_back, within_forth, within_back}
use Rattle.pliron_rewrite_loops.specs.Passing.{KeepsBesides}

-- what stands beside a held block is held
pub held_beside : (t : Tree) (root b c : ℕ) → block_parent_of t c ≡ block_parent_of t b → HoldsBlock t root b → HoldsBlock t root c
held_beside t root b c e h = (h.0, ap (λ z. up_from z (λ r. region_parent_of t r)) e ∙ h.1, h.2)

module _ (m : Meaning) (t u : Tree) (block : ℕ) (users : List ℕ) (h : KeepsBesides m t u block users) where
  pub places : KeepsPlaces t u
  places = record { parents = h.parents; block_parents = h.block_parents; slots = h.slots }

  pub holds_still : (root b : ℕ) → HoldsBlock t root b → HoldsBlock u root b
  holds_still root b y = (y.0, same_block_holder places b ∙ y.1, within_forth places root y.0 y.2)

  holds_before : (root b : ℕ) → HoldsBlock u root b → HoldsBlock t root b
  holds_before root b y = (y.0, sym (same_block_holder places b) ∙ y.1, within_back places root y.0 y.2)

  pub passed_linked : (root : ℕ) → IsWellLinked m t root → IsWellLinked m u root
  passed_linked root l = record {
    edges = λ k s i held.
        let e = l.edges k s (subst (In s) (h.successors k) i) (⊎_elim (λ j. inl (inside_back places root k j)) (λ j. inr (holds_before root s j)) held) in
        record {
          block = e.block;
          in_block = h.parents k ∙ e.in_block;
          last = ap (last_of None) (h.bodies e.block) ∙ e.last;
          own_region = λ z j. h.block_parents z ∙ e.own_region z (subst (In z) (h.successors k) j) ∙ sym (h.block_parents e.block);
        };
    admitted = λ k i. h.admitted k (l.admitted k (within_back places root k i));
  }

  module _ (w : IsTree t) (root : ℕ) (l : IsWellLinked m t root) (held : HoldsBlock t root block) (inside : (k : ℕ) → In k users → IsInside t root k) where
    leads_inside : (k : ℕ) → In block (successors_of t k) → IsInside t root k
    leads_inside k i =
        let e = l.edges k block i (inr held) in
        inside_block e.block e.in_block (held_beside t root block e.block (sym (e.own_region block i)) held)

    kept : AreKeptOutside t u root
    kept = record {
      operations = λ x out.
          let free : In block (successors_of t x) → ⊥ = λ i. out.1 (leads_inside x i) in
          let same = h.operands x free (λ i. out.1 (inside x i)) in
          record { row = h.rows x free; successors = h.successors x; parent = h.parents x; count = ap length same; operands = λ i v e o. ap (λ z. slice_get z i) same ∙ e };
      blocks = λ b out. record { arguments = h.arguments b (λ s. out.1 (subst (HoldsBlock t root) (sym s) held)); body = h.bodies b; parent = h.block_parents b };
      regions = λ r out. record { layout = h.layouts r; slot = h.slots r };
      values = λ v out. h.definitions v out.0;
    }

    pub passed_inside : IsInsideChange t u root
    passed_inside = change_of_kept t u root w.joined kept
        (λ x out. ((h.live x).0 out.0, λ i. out.1 (inside_forth places root x i)))
        (λ b out. (subst IsSome (h.block_parents b) out.0, λ y. out.1 (holds_still root b y)))
