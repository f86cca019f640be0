-- Runs are kept where an edge leads past a block that only jumps.
use Rattle.std.proofs.Common.{◌≡◌, ◌≢◌, ◌⊎◌, inl, inr, ⊎_elim, ℕ, List, [], ◌∷◌, ◌++◌, length, Option, Some, None, IsSome, IsTrue, slice_get, refl, sym, ap, ◌∙◌, subst}
use Rattle.std.proofs.lemmas.Bool.{cases_eq}
use Rattle.pliron_core.specs.declared.context.Def.{Def}
use Rattle.pliron_core.specs.declared.context.Def.TheVariants.{Result, Argument}
use Rattle.pliron_core.specs.Changes.{IsDefinedInside, IsDefiningOperationInside}
use Rattle.pliron_core.specs.Edges.{succs_of, succs_from}
use Rattle.pliron_core.specs.Reads.{has_ssa, has_ssa_at, ssa_in}
use Rattle.pliron_core.specs.Tree.{Tree, In, first_of, last_of, IsLive, IsMadeBy, IsInside, IsWithin, HoldsBlock, row_of, head_of, operands_of, successors_of, results_of, regions_of, parent_of, body_of, arguments_of, block_parent_of, layout_of, region_parent_of, definition_of, up_from, op_of_slot}
use Rattle.pliron_core.specs.Invariant.{IsTree}
use Rattle.pliron_core.proofs.HoldingLemmas.{some_is, in_slice, slice_in, maker_is}
use Rattle.pliron_core.proofs.NeighbourLemmas.{last_of-In}
use Rattle.pliron_core.proofs.RowLemmas.{last_of-append}
use Rattle.pliron_laws.specs.Datum.{Head, Meaning}
use Rattle.pliron_laws.specs.Tree.{Operation, op_at, shape_of}
use Rattle.pliron_laws.specs.Paths.{Path, Leads}
use Rattle.pliron_laws.specs.Root.{defining_block, HasPassed, IsDominated, WellDefined}
use Rattle.pliron_laws.specs.Linked.{EndsBlock, IsAdmitted, IsWellLinked}
use Rattle.pliron_theory.specs.Keeps.{IsFit}
use Rattle.pliron_theory.specs.Renaming.{MayUse}
use Rattle.pliron_theory.specs.Rebranching.{FitsInPlace}
use Rattle.pliron_laws.proofs.Records.{op_shows}
use Rattle.pliron_theory.proofs.KeptPlaces.{KeepsPlaces, same_block_holder, inside_forth, inside_back, within_forth, within_back}
use Rattle.pliron_theory.proofs.SweptStays.{admitted_same}
use Rattle.pliron_rewrite_copies.specs.Adding.{MayNameMore}
use Rattle.pliron_rewrite_copies.specs.Moving.{IsEdgeMoved, MovingLaw}
use Rattle.pliron_core.proofs.ListLemmas.{decide_in}
use Rattle.pliron_rewrite_copies.proofs.MovedAgree.{op_in, jump_in, shape_kept, op_same, moved_agree}

module _ (m : Meaning) (t u : Tree) (a op e jump : ℕ) (front : List ℕ) (w : IsTree t) (w' : IsTree u) (h : IsEdgeMoved t u a op e jump front) where
  places : KeepsPlaces t u
  places = record { parents = h.parents; block_parents = h.block_parents; slots = h.slots }

  op_at_a : parent_of t op ≡ Some a
  op_at_a = op_in m t u a op e jump front w w' h

  op_last : last_of None (body_of t a) ≡ Some op
  op_last = ap (last_of None) h.split ∙ last_of-append None front (op ∷ [])

  jump_last : last_of None (body_of t e) ≡ Some jump
  jump_last = ap (last_of None) h.only_jumps

  -- results, regions and definitions are as before
  results_same : (k : ℕ) → results_of u k ≡ results_of t k
  results_same k = elim (cases_eq k op) [
    | inl q ↦ ap (results_of u) q ∙ h.new_no_results ∙ sym h.no_results ∙ ap (results_of t) (sym q)
    | inr ne ↦ ap (λ z. z.results) (h.rows k ne)
  ]

  regions_same : (k : ℕ) → regions_of u k ≡ regions_of t k
  regions_same k = elim (cases_eq k op) [
    | inl q ↦ ap (regions_of u) q ∙ h.new_childless ∙ sym h.childless ∙ ap (regions_of t) (sym q)
    | inr ne ↦ ap (λ z. z.regions) (h.rows k ne)
  ]

  definition_same : (k v : ℕ) → In v (operands_of t k) → (definition_of u v ≡ definition_of t v)
  definition_same k v i = let d = maker_is t v (w.joined.operands k v i) in go d.0 d.2 ∙ sym d.1
    where
      go : (d : Def) → IsMadeBy t v (Some d) → definition_of u v ≡ Some d
      go (Result q j) y = w'.joined.results q j v (ap (λ z. slice_get z j) (results_same q) ∙ y)
      go (Argument c j) y = w'.joined.arguments c j v (ap (λ z. slice_get z j) (h.arguments c) ∙ y)

  made_forth : (root : ℕ) (d : Option Def) → IsDefiningOperationInside t root d → IsDefiningOperationInside u root d
  made_forth root None i = i
  made_forth root (Some (Result k j)) i = inside_forth places root k i
  made_forth root (Some (Argument c j)) i = (i.0, same_block_holder places c ∙ i.1, within_forth places root i.0 i.2)

  made_back : (root : ℕ) (d : Option Def) → IsDefiningOperationInside u root d → IsDefiningOperationInside t root d
  made_back root None i = i
  made_back root (Some (Result k j)) i = inside_back places root k i
  made_back root (Some (Argument c j)) i = (i.0, sym (same_block_holder places c) ∙ i.1, within_back places root i.0 i.2)

  -- a path after is one before, with e where the edge led there
  pub record CameBefore (entry b : ℕ) (before : List ℕ) : Type 0 where
    pub blocks : List ℕ
    pub path : Path t entry b blocks
    pub same : (z : ℕ) → In z blocks → In z before ⊎ (z ≡ e)

  leads_back : (c x : ℕ) → Leads u c x → Leads t c x ⊎ (Leads t c e × Leads t e x)
  leads_back c x l = go (last_of None (body_of t c)) refl (subst (λ z. In x (succs_from u (last_of None z))) (h.bodies c) l.successor)
    where
      beside : block_parent_of t x ≡ block_parent_of t c
      beside = sym (h.block_parents x) ∙ l.same_region ∙ h.block_parents c

      go : (k : Option ℕ) → last_of None (body_of t c) ≡ k → In x (succs_from u k) → Leads t c x ⊎ (Leads t c e × Leads t e x)
      go None q i = absurd i
      go (Some k) q i = elim (cases_eq k op) [
        | inl same ↦
            let here : c ≡ a = some_is (sym (w.bodies.owned k c (last_of-In k (body_of t c) q)) ∙ ap (parent_of t) same ∙ op_at_a) in
            ⊎_elim
            (λ j. inl (record { successor = subst (λ z. In x (succs_from t z)) (sym (q ∙ ap Some same)) j; same_region = beside }))
            (λ j. inr (
              record { successor = subst (λ z. In e (succs_from t z)) (sym (q ∙ ap Some same)) h.leads; same_region = h.beside ∙ ap (block_parent_of t) (sym here) },
              record { successor = subst (λ z. In x (succs_from t z)) (sym jump_last) j; same_region = beside ∙ ap (block_parent_of t) here ∙ sym h.beside },
            ))
            (h.targets x (subst (λ z. In x (successors_of u z)) same i)).0
        | inr ne ↦ inl (record { successor = subst (λ z. In x (succs_from t z)) (sym q) (subst (In x) (h.successors k ne) i); same_region = beside })
      ]

  came_before : (entry b : ℕ) (before : List ℕ) → Path u entry b before → CameBefore entry b before
  came_before entry b [] p = record { blocks = []; path = p; same = λ z i. absurd i }
  came_before entry b (c ∷ before) p =
      let r = came_before entry c before p.1 in
      ⊎_elim (λ l. straight r l) (λ l. past r l.0 l.1) (leads_back c b p.0)
    where
      kept : (r : CameBefore entry c before) → (z : ℕ) → In z (c ∷ r.blocks) → In z (c ∷ before) ⊎ (z ≡ e)
      kept r z (inl q) = inl (inl q)
      kept r z (inr i) = ⊎_elim (λ j. inl (inr j)) (λ q. inr q) (r.same z i)

      straight : CameBefore entry c before → Leads t c b → CameBefore entry b (c ∷ before)
      straight r l = record { blocks = c ∷ r.blocks; path = (l, r.path); same = λ z i. kept r z i }

      past : CameBefore entry c before → Leads t c e → Leads t e b → CameBefore entry b (c ∷ before)
      past r l l' = record { blocks = e ∷ c ∷ r.blocks; path = (l', (l, r.path)); same = λ z i. ⊎_elim (λ q. inr q) (λ j. kept r z j) i }

  -- nothing is defined in e
  passed_forth : (v user : ℕ) → In v (operands_of t user) → (d : Option Def) → definition_of t v ≡ d → (b : ℕ) (before blocks done : List ℕ) → ((z : ℕ) → In z blocks → In z before ⊎ (z ≡ e)) → HasPassed t d blocks b done → HasPassed u d before b done
  passed_forth v user i None q b before blocks done same p = p
  passed_forth v user i (Some (Argument c j)) q b before blocks done same (inl s) = inl s
  passed_forth v user i (Some (Argument c j)) q b before blocks done same (inr k) = ⊎_elim (λ z. inr z) (λ s. absurd (subst (In v) (ap (arguments_of t) s ∙ h.no_arguments) (in_slice (arguments_of t c) j v (subst (IsMadeBy t v) q (w.joined.operands user v i))))) (same c k)
  passed_forth v user i (Some (Result k j)) q b before blocks done same (inl s) = inl s
  passed_forth v user i (Some (Result k j)) q b before blocks done same (inr x) = ⊎_elim
      (λ z. inr (x.0, h.parents k ∙ x.1, z))
      (λ s.
      let there : In k (body_of t e) = w.bodies.listed k e (x.1 ∙ ap Some s) in
      let only : k ≡ jump = ⊎_elim (λ z. z) (λ z. absurd z) (subst (In k) h.only_jumps there) in
      absurd (subst (In v) (ap (results_of t) only ∙ h.no_values) (in_slice (results_of t k) j v (subst (IsMadeBy t v) q (w.joined.operands user v i)))))
      (same x.0 x.2)

  home_forth : (region : ℕ) (d : Option Def) → up_from (defining_block t d) (λ b. block_parent_of t b) ≡ Some region → up_from (defining_block u d) (λ b. block_parent_of u b) ≡ Some region
  home_forth region None q = q
  home_forth region (Some (Argument b j)) q = h.block_parents b ∙ q
  home_forth region (Some (Result k j)) q = ap (λ z. up_from z (λ b. block_parent_of u b)) (h.parents k) ∙ go (parent_of t k) ∙ q
    where
      go : (z : Option ℕ) → up_from z (λ b. block_parent_of u b) ≡ up_from z (λ b. block_parent_of t b)
      go None = refl
      go (Some b) = h.block_parents b

  dominated_forth : (user v : ℕ) → In v (operands_of t user) → IsDominated t user v → IsDominated u user v
  dominated_forth user v i d = record {
    around = d.around;
    holds = within_forth places d.around user d.holds;
    block = d.block;
    region = d.region;
    in_block = h.parents d.around ∙ d.in_block;
    in_region = h.block_parents d.block ∙ d.in_region;
    defined = subst (λ x. up_from (defining_block u x) (λ b. block_parent_of u b) ≡ Some d.region) (sym (definition_same user v i)) (home_forth d.region (definition_of t v) d.defined);
    passes = λ entry before done rest fe pe be.
        let c = came_before entry d.block before pe in
        subst (λ x. HasPassed u x before d.block done) (sym (definition_same user v i)) (passed_forth v user i (definition_of t v) refl d.block before c.blocks done c.same (d.passes entry c.blocks done rest (ap (λ xs. first_of xs None) (sym (h.layouts d.region)) ∙ fe) c.path (sym (h.bodies d.block) ∙ be)));
  }

  module _ (root : ℕ) (f : IsFit m t root) (other : root ≢ op) (more : MayNameMore t u root op) (fits : IsInside t root op → FitsInPlace m u op) where
    inside_before : (k : ℕ) → IsInside u root k → IsInside t root k
    inside_before k i = inside_back places root k i

    within_before : (k : ℕ) → IsWithin u root k → IsWithin t root k
    within_before k i = within_back places root k i

    -- an operand was one, or is one that may be named
    operand_or : (k x : ℕ) → In x (operands_of u k) → In x (operands_of t k) ⊎ MayUse u root k x
    operand_or k x i = elim (cases_eq k op) [
      | inl q ↦ ⊎_elim (λ j. inl j) (λ out. inr (subst (λ z. MayUse u root z x) (sym q) (more x (subst (λ z. In x (operands_of u z)) q i) (λ j. out (subst (λ z. In x (operands_of t z)) (sym q) j))))) (decide_in x (operands_of t k))
      | inr ne ↦ inl (subst (In x) (h.operands k ne) i)
    ]

    leads_before : (k : ℕ) → successors_of u k ≢ [] → successors_of t k ≢ []
    leads_before k ne = elim (cases_eq k op) [
      | inl q ↦ λ z. subst (In e) (ap (successors_of t) (sym q) ∙ z) h.leads
      | inr other ↦ λ z. ne (h.successors k other ∙ z)
    ]

    holds_region : (k r : ℕ) → In r (regions_of u k) → k ≢ op
    holds_region k r i q = subst (In r) (ap (regions_of u) q ∙ h.new_childless) i

    defined : WellDefined m u root
    defined = record {
      no_successors = h.successors root other ∙ f.defined.no_successors;
      own_values = λ k x i j. ⊎_elim (λ old. subst (IsDefiningOperationInside u root) (sym (definition_same k x old)) (made_forth root (definition_of t x) (f.defined.own_values k x (inside_before k i) old))) (λ y. y.own i) (operand_or k x j);
      dominance = ssa;
      forwards = forwards;
      terminators = last;
      unused = λ k x user i ne j y. ⊎_elim (λ old. f.defined.unused k x user (inside_before k i) (leads_before k ne) (subst (In x) (results_same k) j) old) (λ z. z.no_jumper k i ne j) (operand_or user x y);
      dominated = λ user x i made. ⊎_elim (λ old. dominated_forth user x old (f.defined.dominated user x old (made_back root (definition_of t x) (subst (IsDefiningOperationInside u root) (definition_same user x old) made)))) (λ y. y.dominated made) (operand_or user x i);
    }
      where
        ssa : (k r : ℕ) → IsWithin u root k → In r (regions_of u k) → IsTrue (has_ssa u r)
        ssa k r i j =
            let y = slice_in (regions_of u k) r j in
            let here : region_parent_of u r ≡ Some k = ap op_of_slot (w'.joined.regions k y.0 r y.1) in
            let old : IsTrue (has_ssa_at t (Some k)) = subst (λ z. IsTrue (has_ssa_at t z)) (sym (ap op_of_slot (h.slots r)) ∙ here) (f.defined.dominance k r (within_before k i) (subst (In r) (regions_same k) j)) in
            subst (λ z. IsTrue (has_ssa_at u z)) (sym here) (subst (λ z. IsTrue (ssa_in z.head)) (sym (h.rows k (holds_region k r j))) old)

        forwards : (k i b : ℕ) (x : Operation) → IsInside u root k → op_at u k ≡ Some x → IsTrue (m.is_branch x.head) → slice_get x.successors i ≡ Some b → length (m.forwarded (shape_of m u x) i) ≡ length (arguments_of u b)
        forwards k i b x ins y br s = elim (cases_eq k op) [
          | inl q ↦ (fits (subst (IsInside t root) q (inside_before k ins))).forwards x i b (ap (op_at u) (sym q) ∙ y) br s
          | inr ne ↦ ap (λ z. length (m.forwarded z i)) (shape_kept m t u a op e jump front w w' h x) ∙ f.defined.forwards k i b x (inside_before k ins) (sym (op_same m t u a op e jump front w w' h k ne) ∙ y) br s ∙ ap length (sym (h.arguments b))
        ]

        last : (k b : ℕ) (x : Head) → IsInside u root k → head_of u k ≡ Some x → IsTrue (m.is_terminator x) → parent_of u k ≡ Some b → last_of None (body_of u b) ≡ Some k
        last k b x i y tr p = ap (last_of None) (h.bodies b) ∙ (elim (cases_eq k op) [
          | inl q ↦ ap (λ z. last_of None (body_of t z)) (some_is (sym p ∙ h.parents k ∙ ap (parent_of t) q ∙ op_at_a)) ∙ op_last ∙ ap Some (sym q)
          | inr ne ↦ f.defined.terminators k b x (inside_before k i) (sym (ap (λ z. z.head) (h.rows k ne)) ∙ y) tr (sym (h.parents k) ∙ p)
        ])

    linked : IsWellLinked m u root
    linked = record { edges = edges; admitted = admitted }
      where
        held_back : (k s : ℕ) → IsInside u root k ⊎ HoldsBlock u root s → IsInside t root k ⊎ HoldsBlock t root s
        held_back k s (inl i) = inl (inside_before k i)
        held_back k s (inr x) = inr (x.0, sym (same_block_holder places s) ∙ x.1, within_before x.0 x.2)

        edges : (k s : ℕ) → In s (successors_of u k) → IsInside u root k ⊎ HoldsBlock u root s → EndsBlock u k
        edges k s i held = elim (cases_eq k op) [
          | inl q ↦ record {
            block = a;
            in_block = h.parents k ∙ ap (parent_of t) q ∙ op_at_a;
            last = ap (last_of None) (h.bodies a) ∙ op_last ∙ ap Some (sym q);
            own_region = λ z j. h.block_parents z ∙ (h.targets z (subst (λ y. In z (successors_of u y)) q j)).1 ∙ sym (h.block_parents a);
          }
          | inr ne ↦
              let ends = f.linked.edges k s (subst (In s) (h.successors k ne) i) (held_back k s held) in
              record {
                block = ends.block;
                in_block = h.parents k ∙ ends.in_block;
                last = ap (last_of None) (h.bodies ends.block) ∙ ends.last;
                own_region = λ z j. h.block_parents z ∙ ends.own_region z (subst (In z) (h.successors k ne) j) ∙ sym (h.block_parents ends.block);
              }
        ]

        stays : (k : ℕ) → k ≢ op → IsWithin t root k → IsAdmitted m u k
        stays k ne i = admitted_same m t u k (ap (λ z. z.head) (h.rows k ne)) (ap length (h.operands k ne)) (ap length (results_same k)) (ap length (h.successors k ne)) (ap length (regions_same k)) (f.linked.admitted k i)

        admitted : (k : ℕ) → IsWithin u root k → IsAdmitted m u k
        admitted k i = elim (cases_eq k op) [
          | inl q ↦ subst (IsAdmitted m u) (sym q) (at_op (subst (IsWithin t root) q (within_before k i)))
          | inr ne ↦ stays k ne (within_before k i)
        ]
          where
            at_op : IsWithin t root op → IsAdmitted m u op
            at_op (inl q) = absurd (other (sym q))
            at_op (inr j) = (fits j).admitted

    pub moved_fit : IsFit m u root
    moved_fit = record { live = subst (λ z. IsSome z.head) (sym (h.rows root other)) f.live; chosen = λ x y. f.chosen x (sym (ap (λ z. z.head) (h.rows root other)) ∙ y); defined = defined; linked = linked }

pub moved_keeps : MovingLaw
moved_keeps m t u a op e jump front w w' h longer more fits along = record {
  agrees = λ root f l. moved_agree m t u a op e jump front w w' h root f (other root f) (along root f);
  heads = λ root f l. ap (λ z. z.head) (h.rows root (other root f));
  stays = λ root f l. moved_fit m t u a op e jump front w w' h root f (other root f) (more root f) (fits root f);
  grows = longer;
  fewer = λ root lt l. before root l;
}
  where
    other : (root : ℕ) → IsFit m t root → root ≢ op
    other root f q = subst (In e) (ap (successors_of t) (sym q) ∙ f.defined.no_successors) h.leads

    before : (root : ℕ) → IsLive u root → IsLive t root
    before root l = elim (cases_eq root op) [
      | inl q ↦ subst (IsLive t) (sym q) (w.joined.all_in_place op a (op_in m t u a op e jump front w w' h)).0
      | inr ne ↦ subst (λ z. IsSome z.head) (h.rows root ne) l
    ]
