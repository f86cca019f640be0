-- The tree in which an operation has other successors.
use Rattle.std.proofs.Common.{◌≡◌, ◌≢◌, ◌⊎◌, inl, inr, ℕ, ◌<◌, List, [], length, Option, Some, None, slice_set, refl, sym, ap, ◌∙◌, subst, arith}
use Rattle.std.proofs.lemmas.Bool.{cases_eq}
use Rattle.std.proofs.lemmas.List.{get_or-set_other, get_or-set_same, set-get_or, length-set}
use Rattle.pliron_core.specs.declared.context.Def.{Def}
use Rattle.pliron_core.specs.declared.context.Def.TheVariants.{Result, Argument}
use Rattle.pliron_core.specs.declared.context.RegionSlot.{RegionSlot}
use Rattle.pliron_core.specs.Tree.{Tree, In, IsLive, IsBlock, IsListedBy, IsMadeBy, slot_of, definition_of, IsInside, IsWithin, HoldsBlock, successors_of, head_of, block_parent_of}
use Rattle.pliron_core.specs.Invariant.{IsTree}
use Rattle.pliron_core.specs.Changes.{IsInsideChange, IsDefiningOperationInside}
use Rattle.pliron_core.proofs.HoldingLemmas.{not_none, some_of}
use Rattle.pliron_core.proofs.TreeLemmas.{live-within}
use Rattle.pliron_core.proofs.WriteInsideLemmas.{same_operation}
use Rattle.pliron_laws.specs.Datum.{Meaning}
use Rattle.pliron_laws.specs.Linked.{EndsBlock, IsAdmitted, IsWellLinked}
use Rattle.pliron_theory.proofs.KeptPlaces.{KeepsPlaces, inside_forth, inside_back, within_forth, within_back}
use Rattle.pliron_theory.proofs.SweptStays.{admitted_same}

-- the operation has these successors
abbrev pub with_targets : Tree → ℕ → List ℕ → Tree
with_targets t op targets = record t { successors = slice_set t.successors op targets }

module _ (t : Tree) (op : ℕ) (xs : List ℕ) where
  pub led_places : KeepsPlaces t (with_targets t op xs)
  led_places = record { parents = λ x. refl; block_parents = λ b. refl; slots = λ r. refl }

  listed_on : (r : ℕ) (o : Option RegionSlot) → IsListedBy t r o → IsListedBy (with_targets t op xs) r o
  listed_on r None i = i
  listed_on r (Some slot) i = i

  listed_back : (r : ℕ) (o : Option RegionSlot) → IsListedBy (with_targets t op xs) r o → IsListedBy t r o
  listed_back r None i = i
  listed_back r (Some slot) i = i

  made_on : (v : ℕ) (d : Option Def) → IsMadeBy t v d → IsMadeBy (with_targets t op xs) v d
  made_on v None i = i
  made_on v (Some (Result k i)) m = m
  made_on v (Some (Argument b i)) m = m

  made_back : (v : ℕ) (d : Option Def) → IsMadeBy (with_targets t op xs) v d → IsMadeBy t v d
  made_back v None i = i
  made_back v (Some (Result k i)) m = m
  made_back v (Some (Argument b i)) m = m

  inside_on : (root : ℕ) (d : Option Def) → IsDefiningOperationInside (with_targets t op xs) root d → IsDefiningOperationInside t root d
  inside_on root None i = i
  inside_on root (Some (Result k j)) i = inside_back led_places root k i
  inside_on root (Some (Argument b j)) i = (i.0, i.1, within_back led_places root i.0 i.2)

module _ (t : Tree) (op : ℕ) (w : IsTree t) (live : IsLive t op) where
  within : op < length t.successors
  within = omega (arith, live-within t op live, w.keys.successors)

  pub led_at : (xs : List ℕ) → successors_of (with_targets t op xs) op ≡ xs
  led_at xs = get_or-set_same t.successors op xs [] within

  pub led_other : (xs : List ℕ) (k : ℕ) → k ≢ op → successors_of (with_targets t op xs) k ≡ successors_of t k
  led_other xs k ne = get_or-set_other t.successors op k xs [] ne

  pub led_itself : with_targets t op (successors_of t op) ≡ t
  led_itself = ap (λ z. let u : Tree = record t { successors = z } in u) (set-get_or t.successors op [])

  pub led_tree : (xs : List ℕ) → ((b : ℕ) → In b xs → IsBlock t b) → IsTree (with_targets t op xs)
  led_tree xs blocks = record {
    keys = record {
      operands = w.keys.operands;
      successors = length-set t.successors op xs ∙ w.keys.successors;
      parents = w.keys.parents;
      arguments = w.keys.arguments;
      block_parents = w.keys.block_parents;
      slots = w.keys.slots;
    };
    joined = record {
      all_in_place = w.joined.all_in_place;
      placed = λ b r e. listed_on t op xs r (slot_of t r) (w.joined.placed b r e);
      regions = w.joined.regions;
      results = w.joined.results;
      arguments = w.joined.arguments;
      operands = λ k v i. made_on t op xs v (definition_of t v) (w.joined.operands k v i);
      successors = λ k b i. elim (cases_eq k op) [
        | inl e ↦ blocks b (subst (In b) (ap (successors_of (with_targets t op xs)) e ∙ led_at xs) i)
        | inr ne ↦ w.joined.successors k b (subst (In b) (led_other xs k ne) i)
      ];
      ordered = w.joined.ordered;
      erased = λ k e.
          let h = some_of (head_of t op) live in
          let ne : k ≢ op = λ s. not_none (sym e ∙ ap (head_of t) s ∙ h.1) in
          let old = w.joined.erased k e in
          (old.0, led_other xs k ne ∙ old.1, old.2);
      unplaced = w.joined.unplaced;
      rooted = w.joined.rooted;
    };
    bodies = w.bodies;
    layouts = w.layouts;
  }

  -- what is outside the root, where the operation is inside, is as it was
  pub led_inside : (xs : List ℕ) (root : ℕ) → IsInside t root op → IsInsideChange t (with_targets t op xs) root
  led_inside xs root inside = record {
    operations = λ x out. (
      (out.0, λ i. out.1 (inside_back (led_places t op xs) root x i)),
      same_operation t (with_targets t op xs) root x refl refl (led_other xs x (λ e. out.1 (subst (IsInside t root) (sym e) inside))) refl,
    );
    blocks = λ b out. ((out.0, λ h. out.1 (h.0, h.1, within_back (led_places t op xs) root h.0 h.2)), record { arguments = refl; body = refl; parent = refl });
    regions = λ r out. ((listed_on t op xs r (slot_of t r) out.0, λ h. out.1 (h.0, h.1, within_back (led_places t op xs) root h.0 h.2)), record { layout = refl; slot = refl });
    values = λ v out. ((made_on t op xs v (definition_of t v) out.0, λ h. out.1 (inside_on t op xs root (definition_of t v) h)), refl);
    no_new_operation = λ x out. (out.0, λ i. out.1 (inside_forth (led_places t op xs) root x i));
    no_new_block = λ b out. (out.0, λ h. out.1 (h.0, h.1, within_forth (led_places t op xs) root h.0 h.2));
  }

  -- where the new successors are beside the block that the operation ends, as many as before, trees stay well linked
  pub led_links : (m : Meaning) (xs : List ℕ) → length xs ≡ length (successors_of t op) → (ends : EndsBlock t op) → ((b : ℕ) → In b xs → block_parent_of t b ≡ block_parent_of t ends.block) → (root : ℕ) → IsWellLinked m t root → IsWellLinked m (with_targets t op xs) root
  led_links m xs long ends beside root l = record { edges = edges; admitted = admitted }
    where
      held : (s k : ℕ) → IsInside (with_targets t op xs) root k ⊎ HoldsBlock (with_targets t op xs) root s → IsInside t root k ⊎ HoldsBlock t root s
      held s k (inl i) = inl (inside_back (led_places t op xs) root k i)
      held s k (inr x) = inr (x.0, x.1, within_back (led_places t op xs) root x.0 x.2)

      edges : (k s : ℕ) → In s (successors_of (with_targets t op xs) k) → IsInside (with_targets t op xs) root k ⊎ HoldsBlock (with_targets t op xs) root s → EndsBlock (with_targets t op xs) k
      edges k s i h = elim (cases_eq k op) [
        | inl e ↦ subst (EndsBlock (with_targets t op xs)) (sym e) (record { block = ends.block; in_block = ends.in_block; last = ends.last; own_region = λ z j. beside z (subst (In z) (led_at xs) j) })
        | inr ne ↦
            let old = l.edges k s (subst (In s) (led_other xs k ne) i) (held s k h) in
            record { block = old.block; in_block = old.in_block; last = old.last; own_region = λ z j. old.own_region z (subst (In z) (led_other xs k ne) j) }
      ]

      as_many : (k : ℕ) → length (successors_of (with_targets t op xs) k) ≡ length (successors_of t k)
      as_many k = elim (cases_eq k op) [
        | inl e ↦ ap (λ z. length (successors_of (with_targets t op xs) z)) e ∙ ap length (led_at xs) ∙ long ∙ ap (λ z. length (successors_of t z)) (sym e)
        | inr ne ↦ ap length (led_other xs k ne)
      ]

      admitted : (k : ℕ) → IsWithin (with_targets t op xs) root k → IsAdmitted m (with_targets t op xs) k
      admitted k i = admitted_same m t (with_targets t op xs) k refl refl refl (as_many k) refl (l.admitted k (within_back (led_places t op xs) root k i))
