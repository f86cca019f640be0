-- Runs are kept where an argument is added to a block, and forwarded to.
use Rattle.std.proofs.Common.{◌≡◌, ◌≢◌, ◌⊎◌, inl, inr, ⊎_elim, ℕ, true≢false, List, [], ◌∷◌, length, Option, Some, None, IsSome, IsTrue, slice_get, refl, sym, ap, ◌∙◌, subst}
use Rattle.std.proofs.lemmas.Bool.{cases_eq}
use Rattle.pliron_core.specs.declared.context.Def.{Def}
use Rattle.pliron_core.specs.declared.context.Def.TheVariants.{Result, Argument}
use Rattle.pliron_core.specs.Changes.{IsDefinedInside, IsDefiningOperationInside}
use Rattle.pliron_core.specs.Tree.{Tree, In, first_of, last_of, IsLive, IsMadeBy, IsInside, IsWithin, HoldsBlock, head_of, operands_of, successors_of, results_of, regions_of, parent_of, body_of, arguments_of, block_parent_of, layout_of, region_parent_of, block_parent_operation_of, parent_operation_of, definition_of, up_from, op_of_slot}
use Rattle.pliron_core.specs.Invariant.{IsTree}
use Rattle.pliron_core.specs.Edges.{succs_of, succs_from}
use Rattle.pliron_core.specs.Reads.{has_ssa, has_ssa_at, ssa_in}
use Rattle.pliron_core.proofs.ListLemmas.{decide_in}
use Rattle.pliron_core.proofs.HoldingLemmas.{some_is, some_of, in_slice, slice_in, maker_is}
use Rattle.pliron_core.proofs.RemovalLemmas.{in_from-remove}
use Rattle.pliron_laws.specs.Datum.{Head, Meaning}
use Rattle.pliron_laws.specs.Tree.{Operation, op_at, shape_of}
use Rattle.pliron_laws.specs.Agree.{Agree}
use Rattle.pliron_laws.specs.Paths.{Path}
use Rattle.pliron_laws.specs.Root.{defining_block, HasPassed, IsDominated, WellDefined}
use Rattle.pliron_laws.specs.Linked.{EndsBlock, IsAdmitted, IsWellLinked}
use Rattle.pliron_theory.specs.Keeps.{IsFit, KeepsRuns}
use Rattle.pliron_theory.specs.Renaming.{MayUse}
use Rattle.pliron_theory.specs.Dropping.{IsArgumentDropped, HoldsWithout}
use Rattle.pliron_laws.proofs.Records.{op_shows, operation_of, make_op}
use Rattle.pliron_theory.proofs.Simulation.{agree_sym}
use Rattle.pliron_theory.proofs.KeptPlaces.{KeepsPlaces, same_block_holder, inside_forth, inside_back, within_forth, within_back}
use Rattle.pliron_theory.proofs.SweptStays.{admitted_same}
use Rattle.pliron_theory.proofs.DroppedAgree.{live_forth, live_back, parts_same, shows_after, shapes, dropped_agree}
use Rattle.pliron_rewrite_copies.specs.Adding.{MayNameMore, LeadsWith, AddingLaw}

module _ (m : Meaning) (t u : Tree) (block index v : ℕ) (kept : ℕ → List ℕ) (w : IsTree t) (w' : IsTree u) (h : IsArgumentDropped u t block index v kept) where
  places : KeepsPlaces u t
  places = record { parents = h.parents; block_parents = h.block_parents; slots = h.slots }

  succs_same : (b : ℕ) → succs_of t b ≡ succs_of u b
  succs_same b = ap (λ xs. succs_from t (last_of None xs)) (h.bodies b) ∙ go (last_of None (body_of u b))
    where
      go : (z : Option ℕ) → succs_from t z ≡ succs_from u z
      go None = refl
      go (Some k) = h.successors k

  path_back : (a b : ℕ) (before : List ℕ) → Path u a b before → Path t a b before
  path_back a b [] p = p
  path_back a b (c ∷ before) p = (record { successor = subst (In b) (sym (succs_same c)) p.0.successor; same_region = h.block_parents b ∙ p.0.same_region ∙ sym (h.block_parents c) }, path_back a c before p.1)

  -- what makes a value stands in both trees alike, whatever its index is
  record MadeAlike (d d' : Option Def) : Type 0 where
    pub home : up_from (defining_block u d') (λ b. block_parent_of u b) ≡ up_from (defining_block t d) (λ b. block_parent_of t b)
    pub passed : (before : List ℕ) (b : ℕ) (done : List ℕ) → HasPassed t d before b done → HasPassed u d' before b done
    pub forth : (root : ℕ) → IsDefiningOperationInside t root d → IsDefiningOperationInside u root d'
    pub back : (root : ℕ) → IsDefiningOperationInside u root d' → IsDefiningOperationInside t root d

  result_alike : (k i : ℕ) → MadeAlike (Some (Result k i)) (Some (Result k i))
  result_alike k i = record {
    home = sym (ap (λ z. up_from z (λ b. block_parent_of t b)) (h.parents k) ∙ go (parent_of u k));
    passed = λ before b done p. pass before b done p;
    forth = λ root j. inside_back places root k j;
    back = λ root j. inside_forth places root k j;
  }
    where
      go : (z : Option ℕ) → up_from z (λ b. block_parent_of t b) ≡ up_from z (λ b. block_parent_of u b)
      go None = refl
      go (Some b) = h.block_parents b

      pass : (before : List ℕ) (b : ℕ) (done : List ℕ) → HasPassed t (Some (Result k i)) before b done → HasPassed u (Some (Result k i)) before b done
      pass before b done (inl j) = inl j
      pass before b done (inr x) = inr (x.0, sym (h.parents k) ∙ x.1, x.2)

  argument_alike : (c i j : ℕ) → MadeAlike (Some (Argument c i)) (Some (Argument c j))
  argument_alike c i j = record {
    home = sym (h.block_parents c);
    passed = λ before b done p. p;
    forth = λ root x. (x.0, sym (same_block_holder places c) ∙ x.1, within_back places root x.0 x.2);
    back = λ root x. (x.0, same_block_holder places c ∙ x.1, within_forth places root x.0 x.2);
  }

  -- what makes a value that is used before
  made_alike : (k x : ℕ) → In x (operands_of t k) → MadeAlike (definition_of t x) (definition_of u x)
  made_alike k x i =
      let d = maker_is t x (w.joined.operands k x i) in
      subst (λ z. MadeAlike z (definition_of u x)) (sym d.1) (go d.0 d.2)
    where
      go : (d : Def) → IsMadeBy t x (Some d) → MadeAlike (Some d) (definition_of u x)
      go (Result q j) e = subst (MadeAlike (Some (Result q j))) (sym (w'.joined.results q j x (ap (λ z. slice_get z j) (sym (h.results q)) ∙ e))) (result_alike q j)
      go (Argument c j) e = elim (cases_eq c block) [
        | inl s ↦
            let here : In x (arguments_of u block) = in_from-remove x (arguments_of u block) index (subst (In x) (ap (arguments_of t) s ∙ h.dropped) (in_slice (arguments_of t c) j x e)) in
            let y = slice_in (arguments_of u block) x here in
            subst (MadeAlike (Some (Argument c j))) (sym (w'.joined.arguments c y.0 x (ap (λ b. slice_get (arguments_of u b) y.0) s ∙ y.1))) (argument_alike c j y.0)
        | inr ns ↦ subst (MadeAlike (Some (Argument c j))) (sym (w'.joined.arguments c j x (ap (λ z. slice_get z j) (sym (h.arguments c ns)) ∙ e))) (argument_alike c j j)
      ]

  dominated_forth : (user x : ℕ) → In x (operands_of t user) → IsDominated t user x → IsDominated u user x
  dominated_forth user x i d =
      let same = made_alike user x i in
      record {
        around = d.around;
        holds = within_back places d.around user d.holds;
        block = d.block;
        region = d.region;
        in_block = sym (h.parents d.around) ∙ d.in_block;
        in_region = sym (h.block_parents d.block) ∙ d.in_region;
        defined = same.home ∙ d.defined;
        passes = λ entry before done rest fe pe be. same.passed before d.block done (d.passes entry before done rest (ap (λ xs. first_of xs None) (h.layouts d.region) ∙ fe) (path_back entry d.block before pe) (h.bodies d.block ∙ be));
      }

  leads_before : (k : ℕ) → In block (successors_of u k) → In block (successors_of t k)
  leads_before k i = subst (In block) (sym (h.successors k)) i

  module _ (root : ℕ) (f : IsFit m t root) (more : (k : ℕ) → In block (successors_of t k) → MayNameMore t u root k) (leads : (k : ℕ) → IsInside t root k → In block (successors_of t k) → LeadsWith m t u block index (kept k) k) (holds : (k r : ℕ) → IsWithin t root k → In r (regions_of t k) → first_of (layout_of t r) None ≡ Some block → HoldsWithout m u t block index k) where
    inside_before : (k : ℕ) → IsInside u root k → IsInside t root k
    inside_before k i = inside_forth places root k i

    within_before : (k : ℕ) → IsWithin u root k → IsWithin t root k
    within_before k i = within_forth places root k i

    -- an operand was one, or is one that may be named
    operand_or : (k x : ℕ) → In x (operands_of u k) → In x (operands_of t k) ⊎ MayUse u root k x
    operand_or k x i = ⊎_elim
        (λ l. ⊎_elim (λ j. inl j) (λ out. inr (more k (leads_before k l) x i out)) (decide_in x (operands_of t k)))
        (λ n. inl (subst (In x) (sym (h.operands k n)) i))
        (decide_in block (successors_of u k))

    root_still : In block (successors_of u root) → ⊥
    root_still i = subst (In block) (sym (h.successors root) ∙ f.defined.no_successors) i

    -- what holds a region does not lead to the block
    not_holding : (k r : ℕ) → IsWithin u root k → In r (regions_of u k) → In block (successors_of u k) → ⊥
    not_holding k r (inl e) j b = root_still (subst (λ z. In block (successors_of u z)) e b)
    not_holding k r (inr i) j b = subst (In r) (leads k (inside_before k i) (leads_before k b)).without.childless j

    defined : WellDefined m u root
    defined = record {
      no_successors = sym (h.successors root) ∙ f.defined.no_successors;
      own_values = λ k x i j. ⊎_elim (λ old. (made_alike k x old).forth root (f.defined.own_values k x (inside_before k i) old)) (λ y. y.own i) (operand_or k x j);
      dominance = ssa;
      forwards = forwards;
      terminators = last;
      unused = λ k x user i ne j y. ⊎_elim (λ old. f.defined.unused k x user (inside_before k i) (λ e. ne (sym (h.successors k) ∙ e)) (subst (In x) (sym (h.results k)) j) old) (λ z. z.no_jumper k i ne j) (operand_or user x y);
      dominated = λ user x i made. ⊎_elim (λ old. dominated_forth user x old (f.defined.dominated user x old ((made_alike user x old).back root made))) (λ y. y.dominated made) (operand_or user x i);
    }
      where
        ssa : (k r : ℕ) → IsWithin u root k → In r (regions_of u k) → IsTrue (has_ssa u r)
        ssa k r i j =
            let y = slice_in (regions_of u k) r j in
            let here : region_parent_of u r ≡ Some k = ap op_of_slot (w'.joined.regions k y.0 r y.1) in
            let old : IsTrue (has_ssa_at t (Some k)) = subst (λ z. IsTrue (has_ssa_at t z)) (ap op_of_slot (h.slots r) ∙ here) (f.defined.dominance k r (within_before k i) (subst (In r) (sym (h.regions k)) j)) in
            subst (λ z. IsTrue (has_ssa_at u z)) (sym here) (subst (λ z. IsTrue (ssa_in z.head)) (h.rows k (not_holding k r i j)) old)

        no_entry : (k : ℕ) → IsInside u root k → (x : Operation) → op_at u k ≡ Some x → IsTrue (m.is_branch x.head) → (r : ℕ) → In r (regions_of u k) → first_of (layout_of u r) None ≢ Some block
        no_entry k ins x e br r i q = true≢false (sym br ∙ (holds k r (inr (inside_before k ins)) (subst (In r) (sym (h.regions k)) i) (ap (λ l. first_of l None) (h.layouts r) ∙ q)).no_branch x e)

        forwards : (k i b : ℕ) (x : Operation) → IsInside u root k → op_at u k ≡ Some x → IsTrue (m.is_branch x.head) → slice_get x.successors i ≡ Some b → length (m.forwarded (shape_of m u x) i) ≡ length (arguments_of u b)
        forwards k i b x ins e br s = elim (decide_in block (successors_of u k)) [
          | inl l ↦ (leads k (inside_before k ins) (leads_before k l)).fits.forwards x i b e br s
          | inr n ↦ rest n
        ]
          where
            rest : (In block (successors_of u k) → ⊥) → length (m.forwarded (shape_of m u x) i) ≡ length (arguments_of u b)
            rest n =
                let live = some_of (head_of t k) (live_forth m u t block index v kept w' w h k (subst IsSome (sym (op_shows u k x e).head) refl)) in
                let old = operation_of t k live.0 in
                let oe = make_op t k live.0 live.1 in
                let parts = parts_same m u t block index v kept w' w h k x old n e oe in
                let c0 : slice_get old.successors i ≡ Some b = ap (λ z. slice_get z i) ((shows_after m u t block index v kept w' w h k x old e oe).successors) ∙ s in
                let nb : b ≢ block = λ z. n (subst (λ c. In c (successors_of u k)) z (subst (In b) (sym (op_shows u k x e).successors) (in_slice x.successors i b s))) in
                ap (λ z. length (m.forwarded z i)) (shapes m u t block index v kept w' w h k x old n (no_entry k ins x e br) e oe) ∙ f.defined.forwards k i b old (inside_before k ins) oe (subst (λ z. IsTrue (m.is_branch z)) (sym parts.0) br) c0 ∙ ap length (h.arguments b nb)

        last : (k b : ℕ) (x : Head) → IsInside u root k → head_of u k ≡ Some x → IsTrue (m.is_terminator x) → parent_of u k ≡ Some b → last_of None (body_of u b) ≡ Some k
        last k b x i e tr p = ap (last_of None) (sym (h.bodies b)) ∙ (elim (decide_in block (successors_of u k)) [
          | inl l ↦ let ends = f.linked.edges k block (leads_before k l) (inl (inside_before k i)) in ap (λ z. last_of None (body_of t z)) (some_is (sym p ∙ sym (h.parents k) ∙ ends.in_block)) ∙ ends.last
          | inr n ↦ f.defined.terminators k b x (inside_before k i) (ap (λ z. z.head) (h.rows k n) ∙ e) tr (h.parents k ∙ p)
        ])

    linked : IsWellLinked m u root
    linked = record {
      edges = λ k s i held. edge (f.linked.edges k s (subst (In s) (sym (h.successors k)) i) (held_back k s held));
      admitted = admitted;
    }
      where
        held_back : (k s : ℕ) → IsInside u root k ⊎ HoldsBlock u root s → IsInside t root k ⊎ HoldsBlock t root s
        held_back k s (inl i) = inl (inside_before k i)
        held_back k s (inr x) = inr (x.0, same_block_holder places s ∙ x.1, within_before x.0 x.2)

        edge : {k : ℕ} → EndsBlock t k → EndsBlock u k
        edge {k} ends = record {
          block = ends.block;
          in_block = sym (h.parents k) ∙ ends.in_block;
          last = ap (last_of None) (sym (h.bodies ends.block)) ∙ ends.last;
          own_region = λ z j. sym (h.block_parents z) ∙ ends.own_region z (subst (In z) (sym (h.successors k)) j) ∙ h.block_parents ends.block;
        }

        stays : (k : ℕ) → (In block (successors_of u k) → ⊥) → IsWithin t root k → IsAdmitted m u k
        stays k n i = admitted_same m t u k (ap (λ z. z.head) (sym (h.rows k n))) (ap length (sym (h.operands k n))) (ap length (sym (h.results k))) (ap length (sym (h.successors k))) (ap length (sym (h.regions k))) (f.linked.admitted k i)

        admitted : (k : ℕ) → IsWithin u root k → IsAdmitted m u k
        admitted k (inl e) = stays k (λ b. root_still (subst (λ z. In block (successors_of u z)) e b)) (inl e)
        admitted k (inr i) = elim (decide_in block (successors_of u k)) [
          | inl l ↦ (leads k (inside_before k i) (leads_before k l)).fits.admitted
          | inr n ↦ stays k n (inr (inside_before k i))
        ]

    pub added_fit : IsFit m u root
    added_fit = record { live = live_back m u t block index v kept w' w h root f.live; chosen = λ x e. f.chosen x (ap (λ z. z.head) (h.rows root root_still) ∙ e); defined = defined; linked = linked }

    pub added_agree : Agree m t u root
    added_agree = agree_sym (dropped_agree m u t block index v kept w' w h root added_fit
        (λ k i b. (leads k (inside_before k i) (leads_before k b)).without)
        (λ k r i j e. holds k r (within_before k i) (subst (In r) (sym (h.regions k)) j) (ap (λ l. first_of l None) (h.layouts r) ∙ e)))

    pub added_head : head_of u root ≡ head_of t root
    added_head = ap (λ z. z.head) (sym (h.rows root root_still))

pub added_keeps : AddingLaw
added_keeps m t u block index v kept w w' h longer more leads holds = record {
  agrees = λ root f l. added_agree m t u block index v kept w w' h root f (more root f) (leads root f) (holds root f);
  heads = λ root f l. added_head m t u block index v kept w w' h root f (more root f) (leads root f) (holds root f);
  stays = λ root f l. added_fit m t u block index v kept w w' h root f (more root f) (leads root f) (holds root f);
  grows = longer;
  fewer = λ root lt l. live_forth m u t block index v kept w' w h root l;
}
