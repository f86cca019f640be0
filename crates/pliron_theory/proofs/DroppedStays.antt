-- A root that is fit to run stays so without an argument of a block and the operands that were forwarded
-- to it.
use Rattle.std.proofs.Common.{◌≡◌, ◌≢◌, ◌⊎◌, inl, inr, ⊎_elim, ℕ, ◌≤◌, true≢false, List, [], ◌∷◌, length, map, Option, Some, None, IsSome, IsTrue, slice_get, remove, refl, sym, ap, ◌∙◌, subst, arith}
use Rattle.std.proofs.lemmas.Bool.{cases_eq}
use Rattle.pliron_core.specs.declared.context.Def.{Def}
use Rattle.pliron_core.specs.declared.context.Def.TheVariants.{Result, Argument}
use Rattle.pliron_core.specs.Changes.{IsDefiningOperationInside}
use Rattle.pliron_core.specs.Tree.{Tree, In, first_of, last_of, IsMadeBy, IsInside, IsWithin, HoldsBlock, head_of, operands_of, successors_of, regions_of, parent_of, body_of, arguments_of, block_parent_of, layout_of, region_parent_of, block_parent_operation_of, parent_operation_of, definition_of, up_from, op_of_slot}
use Rattle.pliron_core.specs.Invariant.{IsTree}
use Rattle.pliron_core.specs.Edges.{succs_of, succs_from}
use Rattle.pliron_core.specs.Reads.{has_ssa, has_ssa_at, ssa_in}
use Rattle.pliron_core.proofs.ListLemmas.{decide_in}
use Rattle.pliron_core.proofs.HoldingLemmas.{some_is, some_of, in_slice, slice_in, maker_is, inside_alike, within_alike}
use Rattle.pliron_core.proofs.RemovalLemmas.{in-remove_cases}
use Rattle.pliron_laws.specs.Datum.{Head, Meaning}
use Rattle.pliron_laws.specs.Tree.{Operation, op_at, shape_of}
use Rattle.pliron_laws.specs.Acting.{pick}
use Rattle.pliron_laws.specs.Paths.{Path}
use Rattle.pliron_laws.specs.Root.{defining_block, HasPassed, IsDominated, WellDefined}
use Rattle.pliron_laws.specs.Linked.{EndsBlock, IsAdmitted, IsWellLinked}
use Rattle.pliron_theory.specs.Keeps.{IsFit, KeepsRuns}
use Rattle.pliron_theory.specs.Dropping.{IsArgumentDropped, LeadsWithout, HoldsWithout}
use Rattle.pliron_laws.proofs.Records.{op_shows, operation_of, make_op}
use Rattle.pliron_theory.proofs.KeptPlaces.{KeepsPlaces, same_block_holder, same_holder, inside_forth, inside_back, within_forth, within_back}
use Rattle.pliron_theory.proofs.SweptStays.{admitted_same}
use Rattle.pliron_theory.proofs.DroppedAgree.{live_forth, live_back, shows_after, parts_same, shapes, dropped_agree}

-- what was picked stood there
in_picked : (vs ws places : List ℕ) → map Some ws ≡ pick places vs → (x : ℕ) → In x ws → In x vs
in_picked vs [] places e x i = absurd i
in_picked vs (w ∷ ws) [] e x i = grind arith
in_picked vs (w ∷ ws) (p ∷ ps) e x (inl s) = let here : Some w ≡ slice_get vs p = cc in in_slice vs p x (sym here ∙ ap Some (sym s))
in_picked vs (w ∷ ws) (p ∷ ps) e x (inr i) = let rest : map Some ws ≡ pick ps vs = cc in in_picked vs ws ps rest x i

module _ (m : Meaning) (t t' : Tree) (block index v : ℕ) (kept : ℕ → List ℕ) (w : IsTree t) (w' : IsTree t') (h : IsArgumentDropped t t' block index v kept) where
  places : KeepsPlaces t t'
  places = record { parents = h.parents; block_parents = h.block_parents; slots = h.slots }

  succs_same : (b : ℕ) → succs_of t' b ≡ succs_of t b
  succs_same b = ap (λ xs. succs_from t' (last_of None xs)) (h.bodies b) ∙ go (last_of None (body_of t b))
    where
      go : (o : Option ℕ) → succs_from t' o ≡ succs_from t o
      go None = refl
      go (Some k) = h.successors k

  path_back : (a b : ℕ) (before : List ℕ) → Path t' a b before → Path t a b before
  path_back a b [] p = p
  path_back a b (c ∷ before) p = (record { successor = subst (In b) (succs_same c) p.0.successor; same_region = sym (h.block_parents b) ∙ p.0.same_region ∙ h.block_parents c }, path_back a c before p.1)

  -- operands only go
  old_operand : (k x : ℕ) → In x (operands_of t' k) → In x (operands_of t k)
  old_operand k x i = elim (decide_in block (successors_of t k)) [
    | inl b ↦ in_picked (operands_of t k) (operands_of t' k) (kept k) (h.left k b) x i
    | inr n ↦ subst (In x) (h.operands k n) i
  ]

  -- what makes a value stands in both trees alike, whatever its index is
  record MadeAlike (d d' : Option Def) : Type 0 where
    pub home : up_from (defining_block t' d') (λ b. block_parent_of t' b) ≡ up_from (defining_block t d) (λ b. block_parent_of t b)
    pub passed : (before : List ℕ) (b : ℕ) (done : List ℕ) → HasPassed t d before b done → HasPassed t' d' before b done
    pub forth : (root : ℕ) → IsDefiningOperationInside t root d → IsDefiningOperationInside t' root d'
    pub back : (root : ℕ) → IsDefiningOperationInside t' root d' → IsDefiningOperationInside t root d

  result_alike : (k i : ℕ) → MadeAlike (Some (Result k i)) (Some (Result k i))
  result_alike k i = record {
    home = ap (λ o. up_from o (λ b. block_parent_of t' b)) (h.parents k) ∙ go (parent_of t k);
    passed = λ before b done p. pass before b done p;
    forth = λ root j. inside_forth places root k j;
    back = λ root j. inside_back places root k j;
  }
    where
      go : (o : Option ℕ) → up_from o (λ b. block_parent_of t' b) ≡ up_from o (λ b. block_parent_of t b)
      go None = refl
      go (Some b) = h.block_parents b

      pass : (before : List ℕ) (b : ℕ) (done : List ℕ) → HasPassed t (Some (Result k i)) before b done → HasPassed t' (Some (Result k i)) before b done
      pass before b done (inl j) = inl j
      pass before b done (inr x) = inr (x.0, h.parents k ∙ x.1, x.2)

  argument_alike : (c i j : ℕ) → MadeAlike (Some (Argument c i)) (Some (Argument c j))
  argument_alike c i j = record {
    home = h.block_parents c;
    passed = λ before b done p. p;
    forth = λ root x. (x.0, same_block_holder places c ∙ x.1, within_forth places root x.0 x.2);
    back = λ root x. (x.0, sym (same_block_holder places c) ∙ x.1, within_back places root x.0 x.2);
  }

  -- what makes a value that is still used
  made_alike : (k x : ℕ) → In x (operands_of t' k) → MadeAlike (definition_of t x) (definition_of t' x)
  made_alike k x i =
      let d = maker_is t x (w.joined.operands k x (old_operand k x i)) in
      subst (λ o. MadeAlike o (definition_of t' x)) (sym d.1) (go d.0 d.2)
    where
      ne : x ≢ v
      ne s = h.unused k (subst (λ z. In z (operands_of t' k)) s i)

      go : (d : Def) → IsMadeBy t x (Some d) → MadeAlike (Some d) (definition_of t' x)
      go (Result q j) e = subst (MadeAlike (Some (Result q j))) (sym (w'.joined.results q j x (ap (λ z. slice_get z j) (h.results q) ∙ e))) (result_alike q j)
      go (Argument c j) e = elim (cases_eq c block) [
        | inl s ↦
            let here : In x (arguments_of t block) = in_slice (arguments_of t block) j x (ap (λ z. slice_get (arguments_of t z) j) (sym s) ∙ e) in
            let there : In x (remove (arguments_of t block) index) = ⊎_elim (λ y. absurd (ne (some_is (sym y ∙ h.argument)))) (λ y. y) (in-remove_cases x (arguments_of t block) index here) in
            let y = slice_in (remove (arguments_of t block) index) x there in
            let z : slice_get (arguments_of t' c) y.0 ≡ Some x = ap (λ b. slice_get (arguments_of t' b) y.0) s ∙ ap (λ xs. slice_get xs y.0) h.dropped ∙ y.1 in
            subst (MadeAlike (Some (Argument c j))) (sym (w'.joined.arguments c y.0 x z)) (argument_alike c j y.0)
        | inr ns ↦ subst (MadeAlike (Some (Argument c j))) (sym (w'.joined.arguments c j x (ap (λ z. slice_get z j) (h.arguments c ns) ∙ e))) (argument_alike c j j)
      ]

  dominated_forth : (k user x : ℕ) → In x (operands_of t' k) → IsDominated t user x → IsDominated t' user x
  dominated_forth k user x i d =
      let same = made_alike k x i in
      record {
        around = d.around;
        holds = within_forth places d.around user d.holds;
        block = d.block;
        region = d.region;
        in_block = h.parents d.around ∙ d.in_block;
        in_region = h.block_parents d.block ∙ d.in_region;
        defined = same.home ∙ d.defined;
        passes = λ entry before done rest fe pe be. same.passed before d.block done (d.passes entry before done rest (ap (λ xs. first_of xs None) (sym (h.layouts d.region)) ∙ fe) (path_back entry d.block before pe) (sym (h.bodies d.block) ∙ be));
      }

  module _ (root : ℕ) (f : IsFit m t root) (leads : (k : ℕ) → IsInside t root k → In block (successors_of t k) → LeadsWithout m t t' block index (kept k) k) (holds : (k r : ℕ) → IsWithin t root k → In r (regions_of t k) → first_of (layout_of t r) None ≡ Some block → HoldsWithout m t t' block index k) where
    -- the root leads nowhere
    root_still : In block (successors_of t root) → ⊥
    root_still i = subst (In block) f.defined.no_successors i

    -- what holds a region does not lead to the block
    not_holding : (k r : ℕ) → IsWithin t root k → In r (regions_of t k) → In block (successors_of t k) → ⊥
    not_holding k r (inl e) j b = root_still (subst (λ z. In block (successors_of t z)) e b)
    not_holding k r (inr i) j b = subst (In r) (leads k i b).childless j

    defined : WellDefined m t' root
    defined = record {
      no_successors = h.successors root ∙ f.defined.no_successors;
      own_values = λ k x i j. (made_alike k x j).forth root (f.defined.own_values k x (inside_back places root k i) (old_operand k x j));
      dominance = λ k r i j. ssa k r (within_back places root k i) (subst (In r) (h.regions k) j);
      forwards = λ k i b o ins e br s. forwards k i b o (inside_back places root k ins) e br s;
      terminators = λ k b x i e tr q. ap (last_of None) (h.bodies b) ∙ last k b x (inside_back places root k i) e tr (sym (h.parents k) ∙ q);
      unused = λ k x user i ne j u. f.defined.unused k x user (inside_back places root k i) (λ e. ne (h.successors k ∙ e)) (subst (In x) (h.results k) j) (old_operand user x u);
      dominated = λ user x i made. dominated_forth user user x i (f.defined.dominated user x (old_operand user x i) ((made_alike user x i).back root made));
    }
      where
        ssa : (k r : ℕ) → IsWithin t root k → In r (regions_of t k) → IsTrue (has_ssa t' r)
        ssa k r i j =
            let y = slice_in (regions_of t k) r j in
            let here : region_parent_of t r ≡ Some k = ap op_of_slot (w.joined.regions k y.0 r y.1) in
            let old : IsTrue (has_ssa_at t (Some k)) = subst (λ o. IsTrue (has_ssa_at t o)) here (f.defined.dominance k r i j) in
            subst (λ o. IsTrue (has_ssa_at t' o)) (sym (ap op_of_slot (h.slots r) ∙ here)) (subst (λ z. IsTrue (ssa_in z.head)) (sym (h.rows k (not_holding k r i j))) old)

        no_entry : (k : ℕ) → IsInside t root k → (o : Operation) → op_at t k ≡ Some o → IsTrue (m.is_branch o.head) → (r : ℕ) → In r (regions_of t k) → first_of (layout_of t r) None ≢ Some block
        no_entry k ins o e br r i q = true≢false (sym br ∙ (holds k r (inr ins) i q).no_branch o e)

        forwards : (k i b : ℕ) (o : Operation) → IsInside t root k → op_at t' k ≡ Some o → IsTrue (m.is_branch o.head) → slice_get o.successors i ≡ Some b → length (m.forwarded (shape_of m t' o) i) ≡ length (arguments_of t' b)
        forwards k i b o ins e br s = elim (decide_in block (successors_of t k)) [
          | inl l ↦ (leads k ins l).fits.forwards o i b e br s
          | inr n ↦ rest n
        ]
          where
            rest : (In block (successors_of t k) → ⊥) → length (m.forwarded (shape_of m t' o) i) ≡ length (arguments_of t' b)
            rest n =
                let live = some_of (head_of t k) (live_back m t t' block index v kept w w' h k (subst IsSome (sym (op_shows t' k o e).head) refl)) in
                let old = operation_of t k live.0 in
                let oe = make_op t k live.0 live.1 in
                let parts = parts_same m t t' block index v kept w w' h k old o n oe e in
                let br0 : IsTrue (m.is_branch old.head) = subst (λ z. IsTrue (m.is_branch z)) parts.0 br in
                let c0 : slice_get old.successors i ≡ Some b = ap (λ z. slice_get z i) (sym (shows_after m t t' block index v kept w w' h k old o oe e).successors) ∙ s in
                let nb : b ≢ block = λ z. n (subst (λ c. In c (successors_of t k)) z (in_slice old.successors i b c0)) in
                ap (λ z. length (m.forwarded z i)) (sym (shapes m t t' block index v kept w w' h k old o n (no_entry k ins old oe br0) oe e)) ∙ f.defined.forwards k i b old ins oe br0 c0 ∙ ap length (sym (h.arguments b nb))

        last : (k b : ℕ) (x : Head) → IsInside t root k → head_of t' k ≡ Some x → IsTrue (m.is_terminator x) → parent_of t k ≡ Some b → last_of None (body_of t b) ≡ Some k
        last k b x i e tr p = elim (decide_in block (successors_of t k)) [
          | inl l ↦ let ends = f.linked.edges k block l (inl i) in ap (λ z. last_of None (body_of t z)) (some_is (sym p ∙ ends.in_block)) ∙ ends.last
          | inr n ↦ f.defined.terminators k b x i (sym (ap (λ z. z.head) (h.rows k n)) ∙ e) tr p
        ]

    linked : IsWellLinked m t' root
    linked = record {
      edges = λ k s i held. edge (f.linked.edges k s (subst (In s) (h.successors k) i) (held_back k s held));
      admitted = λ k i. admitted k (within_back places root k i);
    }
      where
        held_back : (k s : ℕ) → IsInside t' root k ⊎ HoldsBlock t' root s → IsInside t root k ⊎ HoldsBlock t root s
        held_back k s (inl i) = inl (inside_back places root k i)
        held_back k s (inr x) = inr (x.0, sym (same_block_holder places s) ∙ x.1, within_back places root x.0 x.2)

        edge : {k : ℕ} → EndsBlock t k → EndsBlock t' k
        edge {k} ends = record {
          block = ends.block;
          in_block = h.parents k ∙ ends.in_block;
          last = ap (last_of None) (h.bodies ends.block) ∙ ends.last;
          own_region = λ z j. h.block_parents z ∙ ends.own_region z (subst (In z) (h.successors k) j) ∙ sym (h.block_parents ends.block);
        }

        stays : (k : ℕ) → (In block (successors_of t k) → ⊥) → IsWithin t root k → IsAdmitted m t' k
        stays k n i = admitted_same m t t' k (ap (λ z. z.head) (h.rows k n)) (ap length (h.operands k n)) (ap length (h.results k)) (ap length (h.successors k)) (ap length (h.regions k)) (f.linked.admitted k i)

        admitted : (k : ℕ) → IsWithin t root k → IsAdmitted m t' k
        admitted k (inl e) = stays k (λ b. root_still (subst (λ z. In block (successors_of t z)) e b)) (inl e)
        admitted k (inr i) = elim (decide_in block (successors_of t k)) [
          | inl l ↦ (leads k i l).fits.admitted
          | inr n ↦ stays k n (inr i)
        ]

    pub dropped_fit : IsFit m t' root
    dropped_fit = record { live = live_forth m t t' block index v kept w w' h root f.live; chosen = λ x e. f.chosen x (sym (ap (λ z. z.head) (h.rows root (λ i. subst (In block) f.defined.no_successors i))) ∙ e); defined = defined; linked = linked }

pub dropped_keeps : (m : Meaning) (t t' : Tree) (block index v : ℕ) (kept : ℕ → List ℕ) → IsTree t → IsTree t' → IsArgumentDropped t t' block index v kept → length t.operations ≤ length t'.operations → ((root : ℕ) → IsFit m t root → (k : ℕ) → IsInside t root k → In block (successors_of t k) → LeadsWithout m t t' block index (kept k) k) → ((root : ℕ) → IsFit m t root → (k r : ℕ) → IsWithin t root k → In r (regions_of t k) → first_of (layout_of t r) None ≡ Some block → HoldsWithout m t t' block index k) → KeepsRuns m t t'
dropped_keeps m t t' block index v kept w w' h longer leads holds = record {
  agrees = λ root f l. dropped_agree m t t' block index v kept w w' h root f (leads root f) (holds root f);
  heads = λ root f l. ap (λ z. z.head) (h.rows root (λ i. subst (In block) f.defined.no_successors i));
  stays = λ root f l. dropped_fit m t t' block index v kept w w' h root f (leads root f) (holds root f);
  grows = longer;
  fewer = λ root lt l. live_back m t t' block index v kept w w' h root l;
}
