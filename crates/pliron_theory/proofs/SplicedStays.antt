-- A root that is fit to run stays so once a block joined the end of its only predecessor.
use Rattle.std.proofs.Common.{◌≡◌, ◌≢◌, ◌⊎◌, inl, inr, ⊎_elim, ℕ, ◌≤◌, Bool, true, false, true≢false, nat_eq, List, [], ◌∷◌, ◌++◌, length, Option, Some, None, IsSome, is_some, IsTrue, slice_get, refl, sym, ap, ◌∙◌, subst, arith, append_assoc}
use Rattle.std.proofs.lemmas.Bool.{cases_eq, eq-eqb}
use Rattle.pliron_core.specs.declared.context.Def.{Def}
use Rattle.pliron_core.specs.declared.context.Def.TheVariants.{Result, Argument}
use Rattle.pliron_core.specs.Changes.{IsDefiningOperationInside}
use Rattle.pliron_core.specs.Tree.{Tree, In, first_of, last_of, IsLive, IsDefined, IsMadeBy, IsInside, IsInside.Directly, IsInside.Deeper, IsWithin, HoldsBlock, head_of, operands_of, successors_of, regions_of, parent_of, body_of, arguments_of, block_parent_of, layout_of, slot_of, region_parent_of, block_parent_operation_of, parent_operation_of, definition_of, up_from, op_of_slot}
use Rattle.pliron_core.specs.Invariant.{IsTree}
use Rattle.pliron_core.specs.Edges.{succs_from}
use Rattle.pliron_core.specs.Reads.{has_ssa, has_ssa_at, ssa_in}
use Rattle.pliron_core.proofs.ListLemmas.{In-left, In-right, In-cases}
use Rattle.pliron_core.proofs.HoldingLemmas.{some_is, in_slice, slice_in, maker_is, holder_is, holder_by}
use Rattle.pliron_core.proofs.NeighbourLemmas.{last_of-In}
use Rattle.pliron_core.proofs.RowLemmas.{last_of-append}
use Rattle.pliron_core.proofs.WithinLemmas.{parent_holder}
use Rattle.pliron_laws.specs.Datum.{Meaning}
use Rattle.pliron_laws.specs.Tree.{Operation, op_at, shape_of}
use Rattle.pliron_laws.specs.Paths.{Path, Leads}
use Rattle.pliron_laws.specs.Root.{defining_block, HasPassed, IsDominated, WellDefined}
use Rattle.pliron_laws.specs.Linked.{EndsBlock, IsWellLinked}
use Rattle.pliron_theory.specs.Keeps.{IsFit, KeepsRuns}
use Rattle.pliron_theory.specs.Sweeping.{is_maker_dead}
use Rattle.pliron_theory.specs.Splicing.{IsSpliced, JumpsNow}
use Rattle.pliron_theory.proofs.Bound.{made_within}
use Rattle.pliron_laws.proofs.Records.{op_shows, operation_of, make_op}
use Rattle.pliron_theory.proofs.SweptParts.{HasBlockPlace, block_place_of, block_held_at}
use Rattle.pliron_theory.proofs.SweptStays.{admitted_same}
use Rattle.pliron_theory.proofs.Keys.{is_not, not_is, split_append}
use Rattle.pliron_theory.proofs.SplicedAgree.{jump_in, first_kept, shapes, target_kept, used_stays, spliced_agree}

last_any : (o : Option ℕ) (xs : List ℕ) (k : ℕ) → last_of None xs ≡ Some k → last_of o xs ≡ Some k
last_any o [] k e = grind arith
last_any o (x ∷ xs) k e = e

abbrev grow : ℕ → Bool → ℕ → List ℕ → List ℕ
grow b true c l = b ∷ c ∷ l
grow b false c l = c ∷ l

-- the blocks that a path passed before: behind a it passed b
abbrev expand : (a b : ℕ) → List ℕ → List ℕ
expand a b [] = []
expand a b (c ∷ cs) = grow b (nat_eq a c) c (expand a b cs)

abbrev choose : ℕ → Bool → ℕ → ℕ
choose a true c = a
choose a false c = c

module _ (m : Meaning) (t t' : Tree) (a b jump : ℕ) (front : List ℕ) (w : IsTree t) (w' : IsTree t') (h : IsSpliced t t' a b jump front) where
  -- where the operations of a block stand after
  abbrev into : ℕ → ℕ
  into c = choose a (nat_eq b c) c

  into_b : into b ≡ a
  into_b = ap (λ z. choose a z b) (eq-eqb b b refl)

  into_other : (c : ℕ) → c ≢ b → into c ≡ c
  into_other c ne = ap (λ z. choose a z c) (not_is b c ne)

  jump_at : parent_of t jump ≡ Some a
  jump_at = jump_in m t t' a b jump front w w' h jump

  jump_last : last_of None (body_of t a) ≡ Some jump
  jump_last = ap (last_of None) h.split ∙ last_of-append None front (jump ∷ [])

  -- what stands, names or holds something after is not the one that went
  user_not : (k v : ℕ) → In v (operands_of t' k) → k ≢ jump
  user_not k v i e = subst (In v) (ap (operands_of t') e ∙ (w'.joined.erased jump h.deleted).0) i

  jumper_not : (k c : ℕ) → In c (successors_of t' k) → k ≢ jump
  jumper_not k c i e = subst (In c) (ap (successors_of t') e ∙ (w'.joined.erased jump h.deleted).1) i

  holder_not : (k r : ℕ) → In r (regions_of t' k) → k ≢ jump
  holder_not k r i e = subst (In r) (ap (regions_of t') e ∙ ap (λ z. z.regions) (w'.joined.erased jump h.deleted).2) i

  held_not : (k c : ℕ) → parent_of t' k ≡ Some c → k ≢ jump
  held_not k c i e = true≢false (sym (w'.joined.all_in_place k c i).0 ∙ ap (λ z. is_some (head_of t' z)) e ∙ ap is_some h.deleted)

  block_not : (c r : ℕ) → block_parent_of t' c ≡ Some r → c ≢ b
  block_not c r e f = let g : None ≡ Some r = sym h.detached_block ∙ ap (block_parent_of t') (sym f) ∙ e in absurd (cc)

  parent_forth : (x c : ℕ) → x ≢ jump → parent_of t x ≡ Some c → parent_of t' x ≡ Some (into c)
  parent_forth x c ne e = elim (cases_eq c b) [
    | inl s ↦ h.moved x (e ∙ ap Some s) ∙ ap Some (sym into_b ∙ ap into (sym s))
    | inr nb ↦ h.parents x ne (λ f. nb (some_is (sym e ∙ f))) ∙ e ∙ ap Some (sym (into_other c nb))
  ]

  parent_back : (x c : ℕ) → parent_of t' x ≡ Some c → (d : ℕ) × (parent_of t x ≡ Some d) × (into d ≡ c)
  parent_back x c e = go (parent_of t x) refl
    where
      go : (o : Option ℕ) → parent_of t x ≡ o → (d : ℕ) × (parent_of t x ≡ Some d) × (into d ≡ c)
      go None f =
          let g : None ≡ Some c = sym f ∙ sym (h.parents x (held_not x c e) (λ q. let z : None ≡ Some b = sym f ∙ q in absurd (cc))) ∙ e in
          absurd (cc)
      go (Some d) f = (d, f, some_is (sym (parent_forth x d (held_not x c e) f) ∙ e))

  region_into : (c : ℕ) → block_parent_of t' (into c) ≡ block_parent_of t c
  region_into c = elim (cases_eq c b) [
    | inl s ↦ ap (λ z. block_parent_of t' (into z)) s ∙ ap (block_parent_of t') into_b ∙ h.block_parents a h.apart ∙ sym h.beside ∙ ap (block_parent_of t) (sym s)
    | inr nb ↦ ap (block_parent_of t') (into_other c nb) ∙ h.block_parents c nb
  ]

  region_slot : (k i r : ℕ) → k ≢ jump → slice_get (regions_of t k) i ≡ Some r → (slot_of t' r ≡ Some (record { op = k; index = i })) × (slice_get (regions_of t' k) i ≡ Some r)
  region_slot k i r ne e = let f = ap (λ z. slice_get z.regions i) (h.rows k ne) ∙ e in (w'.joined.regions k i r f, f)

  block_forth : (c p : ℕ) → block_parent_operation_of t c ≡ Some p → (block_parent_operation_of t' (into c) ≡ Some p) × (p ≢ jump)
  block_forth c p e =
      let q = block_place_of t w c p e in
      let ne : p ≢ jump = λ s. subst (In q.region) (ap (regions_of t) s ∙ h.childless) (in_slice (regions_of t p) q.index q.region q.listed) in
      let s = region_slot p q.index q.region ne q.listed in
      (block_held_at t' (into c) p (record { region = q.region; index = q.index; in_region = region_into c ∙ q.in_region; slot = s.0; listed = s.1 }), ne)

  block_back : (c p : ℕ) → block_parent_operation_of t' c ≡ Some p → (block_parent_operation_of t c ≡ Some p) × (p ≢ jump) × (c ≢ b)
  block_back c p e =
      let q = block_place_of t' w' c p e in
      let nb = block_not c q.region q.in_region in
      let ne = holder_not p q.region (in_slice (regions_of t' p) q.index q.region q.listed) in
      let f = ap (λ z. slice_get z.regions q.index) (sym (h.rows p ne)) ∙ q.listed in
      (block_held_at t c p (record { region = q.region; index = q.index; in_region = sym (h.block_parents c nb) ∙ q.in_region; slot = w.joined.regions p q.index q.region f; listed = f }), ne, nb)

  same_holder : (c d p : ℕ) → into d ≡ c → block_parent_operation_of t c ≡ Some p → block_parent_operation_of t d ≡ Some p
  same_holder c d p s e = elim (cases_eq d b) [
    | inl f ↦
        let at : c ≡ a = sym s ∙ ap into f ∙ into_b in
        ap (block_parent_operation_of t) f ∙ ap (λ o. up_from o (λ r. region_parent_of t r)) h.beside ∙ ap (block_parent_operation_of t) (sym at) ∙ e
    | inr nb ↦ ap (block_parent_operation_of t) (sym (into_other d nb) ∙ s) ∙ e
  ]

  place_forth : (x p : ℕ) → x ≢ jump → parent_operation_of t x ≡ Some p → (parent_operation_of t' x ≡ Some p) × (p ≢ jump)
  place_forth x p ne e =
      let q = holder_is t x p e in
      let u = block_forth q.0 p q.2 in
      (holder_by t' x (into q.0) p (parent_forth x q.0 ne q.1) u.0, u.1)

  place_back : (x p : ℕ) → parent_operation_of t' x ≡ Some p → (parent_operation_of t x ≡ Some p) × (x ≢ jump)
  place_back x p e =
      let q = holder_is t' x p e in
      let d = parent_back x q.0 q.1 in
      (holder_by t x d.0 p d.1 (same_holder q.0 d.0 p d.2 (block_back q.0 p q.2).0), held_not x q.0 q.1)

  inside_forth : (op x : ℕ) → x ≢ jump → IsInside t op x → IsInside t' op x × (op ≢ jump)
  inside_forth op x ne (Directly e) = let p = place_forth x op ne e in (Directly p.0, p.1)
  inside_forth op x ne (Deeper p e i) = let q = place_forth x p ne e in let r = inside_forth op p q.1 i in (Deeper p q.0 r.0, r.1)

  within_forth : (op x : ℕ) → x ≢ jump → IsWithin t op x → IsWithin t' op x × (op ≢ jump)
  within_forth op x ne (inl e) = (inl e, λ f. ne (e ∙ f))
  within_forth op x ne (inr i) = let r = inside_forth op x ne i in (inr r.0, r.1)

  inside_back : (op x : ℕ) → IsInside t' op x → IsInside t op x
  inside_back op x (Directly e) = Directly (place_back x op e).0
  inside_back op x (Deeper p e i) = Deeper p (place_back x p e).0 (inside_back op p i)

  inside_not : (op x : ℕ) → IsInside t' op x → x ≢ jump
  inside_not op x (Directly e) = (place_back x op e).1
  inside_not op x (Deeper p e i) = (place_back x p e).1

  within_back : (op x : ℕ) → IsWithin t' op x → IsWithin t op x
  within_back op x (inl e) = inl e
  within_back op x (inr i) = inr (inside_back op x i)

  abbrev IsKept : Option Def → Type 0
  IsKept d = is_maker_dead (nat_eq jump) (nat_eq b) d ≡ false

  made_forth : (root : ℕ) (d : Option Def) → IsKept d → IsDefiningOperationInside t root d → IsDefiningOperationInside t' root d
  made_forth root None l i = i
  made_forth root (Some (Result k j)) l i = (inside_forth root k (is_not jump k l) i).0
  made_forth root (Some (Argument c j)) l i =
      let p = block_forth c i.0 i.1 in
      (i.0, ap (block_parent_operation_of t') (sym (into_other c (is_not b c l))) ∙ p.0, (within_forth root i.0 p.1 i.2).0)

  made_back : (root : ℕ) (d : Option Def) → IsDefiningOperationInside t' root d → IsDefiningOperationInside t root d
  made_back root None i = i
  made_back root (Some (Result k j)) i = inside_back root k i
  made_back root (Some (Argument c j)) i = (i.0, (block_back c i.0 i.1).0, within_back root i.0 i.2)

  kept : (k v : ℕ) → In v (operands_of t k) → IsKept (definition_of t v)
  kept k v i = used_stays m t t' a b jump front w w' h jump k v i

  made_same : (v : ℕ) → IsDefined t v → IsKept (definition_of t v) → definition_of t' v ≡ definition_of t v
  made_same v is l = let x = maker_is t v is in go x.0 x.2 (subst IsKept x.1 l) ∙ sym x.1
    where
      go : (d : Def) → IsMadeBy t v (Some d) → IsKept (Some d) → definition_of t' v ≡ Some d
      go (Result k i) e l = w'.joined.results k i v (ap (λ z. slice_get z.results i) (h.rows k (is_not jump k l)) ∙ e)
      go (Argument c i) e l = w'.joined.arguments c i v (ap (λ z. slice_get z i) (h.arguments c (is_not b c l)) ∙ e)

  old_operand : (k v : ℕ) → In v (operands_of t' k) → In v (operands_of t k)
  old_operand k v i = subst (In v) (h.operands k (user_not k v i)) i

  old_target : (k c : ℕ) → In c (successors_of t' k) → In c (successors_of t k)
  old_target k c i = subst (In c) (h.successors k (jumper_not k c i)) i

  last_forth : (k c : ℕ) → k ≢ jump → last_of None (body_of t c) ≡ Some k → last_of None (body_of t' (into c)) ≡ Some k
  last_forth k c ne e = elim (cases_eq c b) [
    | inl s ↦
        ap (λ z. last_of None (body_of t' z)) (ap into s ∙ into_b) ∙ ap (last_of None) h.joined ∙ last_of-append None front (body_of t b)
        ∙ last_any (last_of None front) (body_of t b) k (ap (λ z. last_of None (body_of t z)) (sym s) ∙ e)
    | inr nb ↦ elim (cases_eq c a) [
      | inl s ↦ absurd (ne (some_is (sym e ∙ ap (λ z. last_of None (body_of t z)) s ∙ jump_last)))
      | inr na ↦ ap (λ z. last_of None (body_of t' z)) (into_other c nb) ∙ ap (last_of None) (h.bodies c na nb) ∙ e
    ]
  ]

  -- lists of blocks
  in_expand : (c : ℕ) (xs : List ℕ) → (In b xs → ⊥) → In c (expand a b xs) → In (into c) xs
  in_expand c [] free i = absurd i
  in_expand c (x ∷ xs) free i = go (nat_eq a x) refl i (λ j. in_expand c xs (λ z. free (inr z)) j)
    where
      is_a : nat_eq a x ≡ true → x ≡ a
      is_a e = ⊎_elim (λ s. s) (λ ne. absurd (true≢false (sym e ∙ not_is a x ne))) (cases_eq x a)

      self : c ≡ x → In (into c) (x ∷ xs)
      self e = inl (into_other c (λ f. free (inl (sym f ∙ e))) ∙ e)

      go : (z : Bool) → nat_eq a x ≡ z → In c (grow b z x (expand a b xs)) → (In c (expand a b xs) → In (into c) xs) → In (into c) (x ∷ xs)
      go true q (inl e) more = inl (ap into e ∙ into_b ∙ sym (is_a q))
      go true q (inr (inl e)) more = self e
      go true q (inr (inr j)) more = inr (more j)
      go false q (inl e) more = self e
      go false q (inr j) more = inr (more j)

  path_free : (entry x region : ℕ) (before : List ℕ) → block_parent_of t' x ≡ Some region → Path t' entry x before → In b before → ⊥
  path_free entry x region [] e p i = i
  path_free entry x region (c ∷ cs) e p (inl f) = block_not c region (sym p.0.same_region ∙ e) (sym f)
  path_free entry x region (c ∷ cs) e p (inr i) = path_free entry c region cs (sym p.0.same_region ∙ e) p.1 i

  module _ (root : ℕ) (f : IsFit m t root) (left : root ≢ jump) where
    within_not : (k : ℕ) → IsWithin t' root k → k ≢ jump
    within_not k (inl e) = λ s. left (sym e ∙ s)
    within_not k (inr i) = inside_not root k i

    back : (k : ℕ) → IsInside t' root k → IsInside t root k
    back k i = inside_back root k i

    leads_jump : Leads t a b
    leads_jump = record { successor = subst (λ o. In b (succs_from t o)) (sym jump_last) (subst (In b) (sym h.goes) (inl refl)); same_region = h.beside }

    -- paths after are paths before that go on from a to b
    module _ (region holder : ℕ) (held : region_parent_of t region ≡ Some holder) (inner : IsWithin t root holder) where
      -- an edge after is one before, from b in the place of a
      edge_back : (c x : ℕ) → block_parent_of t' x ≡ Some region → Leads t' c x → (d : ℕ) × Leads t d x × (into d ≡ c) × (d ≢ a)
      edge_back c x e y = go (last_of None (body_of t' c)) refl y.successor
        where
          nx : x ≢ b
          nx = block_not x region e

          nc : c ≢ b
          nc = block_not c region (sym y.same_region ∙ e)

          own : HoldsBlock t root x
          own = (holder, ap (λ o. up_from o (λ r. region_parent_of t r)) (sym (h.block_parents x nx) ∙ e) ∙ held, inner)

          go : (o : Option ℕ) → last_of None (body_of t' c) ≡ o → In x (succs_from t' o) → (d : ℕ) × Leads t d x × (into d ≡ c) × (d ≢ a)
          go None q i = absurd i
          go (Some k) q i = (d.0, record { successor = subst (λ o. In x (succs_from t o)) (sym last) (old_target k x i); same_region = same }, d.2, not_a)
            where
              d : (d : ℕ) × (parent_of t k ≡ Some d) × (into d ≡ c)
              d = parent_back k c (w'.bodies.owned k c (last_of-In k (body_of t' c) q))

              ends : EndsBlock t k
              ends = f.linked.edges k x (old_target k x i) (inr own)

              last : last_of None (body_of t d.0) ≡ Some k
              last = ap (λ z. last_of None (body_of t z)) (some_is (sym d.1 ∙ ends.in_block)) ∙ ends.last

              not_a : d.0 ≢ a
              not_a s = jumper_not k x i (some_is (sym last ∙ ap (λ z. last_of None (body_of t z)) s ∙ jump_last))

              same : block_parent_of t x ≡ block_parent_of t d.0
              same = sym (h.block_parents x nx) ∙ y.same_region ∙ ap (block_parent_of t') (sym d.2) ∙ region_into d.0

      path_back : (entry x : ℕ) (before : List ℕ) → block_parent_of t' x ≡ Some region → Path t' entry x before → Path t entry x (expand a b before)
      path_back entry x [] e p = p
      path_back entry x (c ∷ cs) e p = step (nat_eq a c) refl (path_back entry c cs (sym p.0.same_region ∙ e) p.1)
        where
          y : (d : ℕ) × Leads t d x × (into d ≡ c) × (d ≢ a)
          y = edge_back c x e p.0

          step : (z : Bool) → nat_eq a c ≡ z → Path t entry c (expand a b cs) → Path t entry x (grow b z c (expand a b cs))
          step true q r = elim (cases_eq y.0 b) [
            | inl s ↦ (subst (λ z. Leads t z x) s y.1, (subst (λ z. Leads t z b) (sym is_a) leads_jump, r))
            | inr nb ↦ absurd (y.3 (sym (into_other y.0 nb) ∙ y.2 ∙ is_a))
          ]
            where
              is_a : c ≡ a
              is_a = ⊎_elim (λ s. s) (λ ne. absurd (true≢false (sym q ∙ not_is a c ne))) (cases_eq c a)
          step false q r = elim (cases_eq y.0 b) [
            | inl s ↦ absurd (is_not a c q (sym y.2 ∙ ap into s ∙ into_b))
            | inr nb ↦ (subst (λ z. Leads t z x) (sym (into_other y.0 nb) ∙ y.2) y.1, r)
          ]

    home_forth : (region : ℕ) (d : Option Def) → IsKept d → up_from (defining_block t d) (λ c. block_parent_of t c) ≡ Some region → up_from (defining_block t' d) (λ c. block_parent_of t' c) ≡ Some region
    home_forth region None l e = e
    home_forth region (Some (Argument c j)) l e = h.block_parents c (is_not b c l) ∙ e
    home_forth region (Some (Result k j)) l e = go (parent_of t k) refl e
      where
        go : (o : Option ℕ) → parent_of t k ≡ o → up_from o (λ c. block_parent_of t c) ≡ Some region → up_from (parent_of t' k) (λ c. block_parent_of t' c) ≡ Some region
        go None q e = grind arith
        go (Some c) q e = ap (λ o. up_from o (λ z. block_parent_of t' z)) (parent_forth k c (is_not jump k l) q) ∙ region_into c ∙ e

    -- what was passed before is passed after
    passed_in_b : (d : Option Def) → IsKept d → (before done : List ℕ) → (In b before → ⊥) → HasPassed t d (a ∷ expand a b before) b done → HasPassed t' d before a (front ++ done)
    passed_in_b None l before done free p = p
    passed_in_b (Some (Argument c j)) l before done free (inl e) = absurd (is_not b c l e)
    passed_in_b (Some (Argument c j)) l before done free (inr (inl e)) = inl e
    passed_in_b (Some (Argument c j)) l before done free (inr (inr i)) = inr (subst (λ z. In z before) (into_other c (is_not b c l)) (in_expand c before free i))
    passed_in_b (Some (Result k j)) l before done free (inl i) = inl (In-right k front done i)
    passed_in_b (Some (Result k j)) l before done free (inr x) = ⊎_elim
        (λ s. inl (In-left k front done (⊎_elim (λ i. i) (λ i. ⊎_elim (λ q. absurd (is_not jump k l q)) (λ z. absurd z) i) (In-cases k front (jump ∷ []) (subst (In k) (ap (body_of t) s ∙ h.split) (w.bodies.listed k x.0 x.1))))))
        (λ i. inr (into x.0, parent_forth k x.0 (is_not jump k l) x.1, in_expand x.0 before free i))
        x.2

    passed_else : (d : Option Def) → IsKept d → (before : List ℕ) (x : ℕ) (done : List ℕ) → (In b before → ⊥) → HasPassed t d (expand a b before) x done → HasPassed t' d before x done
    passed_else None l before x done free p = p
    passed_else (Some (Argument c j)) l before x done free (inl e) = inl e
    passed_else (Some (Argument c j)) l before x done free (inr i) = inr (subst (λ z. In z before) (into_other c (is_not b c l)) (in_expand c before free i))
    passed_else (Some (Result k j)) l before x done free (inl i) = inl i
    passed_else (Some (Result k j)) l before x done free (inr y) = inr (into y.0, parent_forth k y.0 (is_not jump k l) y.1, in_expand y.0 before free y.2)

    dominated : (user v : ℕ) → In v (operands_of t' user) → IsDefiningOperationInside t' root (definition_of t' v) → IsDominated t' user v
    dominated user v i made = record {
      around = d.around;
      holds = at.0;
      block = into d.block;
      region = d.region;
      in_block = parent_forth d.around d.block at.1 d.in_block;
      in_region = in_region;
      defined = subst (λ x. up_from (defining_block t' x) (λ c. block_parent_of t' c) ≡ Some d.region) (sym def) (home_forth d.region (definition_of t v) lm d.defined);
      passes = λ entry before done rest fe pe be. subst (λ x. HasPassed t' x before (into d.block) done) (sym def) (passing entry before done rest fe pe be);
    }
      where
        j : In v (operands_of t user)
        j = old_operand user v i

        lm : IsKept (definition_of t v)
        lm = kept user v j

        def : definition_of t' v ≡ definition_of t v
        def = made_same v (w.joined.operands user v j) lm

        was : IsDefiningOperationInside t root (definition_of t v)
        was = made_back root (definition_of t v) (subst (IsDefiningOperationInside t' root) def made)

        d : IsDominated t user v
        d = f.defined.dominated user v j was

        at : IsWithin t' d.around user × (d.around ≢ jump)
        at = within_forth d.around user (user_not user v i) d.holds

        in_region : block_parent_of t' (into d.block) ≡ Some d.region
        in_region = region_into d.block ∙ d.in_region

        up : (y : ℕ) × (block_parent_operation_of t d.block ≡ Some y)
        up = parent_holder t d.around d.block w.joined d.in_block

        q : HasBlockPlace t d.block up.0
        q = block_place_of t w d.block up.0 up.1

        held : region_parent_of t d.region ≡ Some up.0
        held = ap (region_parent_of t) (some_is (sym d.in_region ∙ q.in_region)) ∙ ap op_of_slot q.slot

        inner : IsWithin t root up.0
        inner = made_within t root d.region up.0 (definition_of t v) held d.defined was

        first_back : (entry : ℕ) → first_of (layout_of t' d.region) None ≡ Some entry → first_of (layout_of t d.region) None ≡ Some entry
        first_back entry e = sym (ap (λ xs. first_of xs None) (h.layouts d.region) ∙ first_kept m t t' a b jump front w w' h root (layout_of t d.region) (h.no_entry d.region)) ∙ e

        passing : (entry : ℕ) (before done rest : List ℕ) → first_of (layout_of t' d.region) None ≡ Some entry → Path t' entry (into d.block) before → body_of t' (into d.block) ≡ done ++ d.around ∷ rest → HasPassed t' (definition_of t v) before (into d.block) done
        passing entry before done rest fe pe be = elim (cases_eq d.block b) [ inl s ↦ in_b s | inr nb ↦ other nb ]
          where
            free : In b before → ⊥
            free = path_free entry (into d.block) d.region before in_region pe

            on : Path t entry (into d.block) (expand a b before)
            on = path_back d.region up.0 held inner entry (into d.block) before in_region pe

            in_b : d.block ≡ b → HasPassed t' (definition_of t v) before (into d.block) done
            in_b s = ⊎_elim (λ r. absurd (wrong r.0 r.1)) (λ r. right r.0 r.1 r.2) (split_append d.around rest front (body_of t b) done (sym h.joined ∙ ap (body_of t') (sym at_a) ∙ be))
              where
                at_a : into d.block ≡ a
                at_a = ap into s ∙ into_b

                wrong : (r : List ℕ) → front ≡ done ++ d.around ∷ r → ⊥
                wrong r e =
                    let i : In d.around front = subst (In d.around) (sym e) (In-right d.around done (d.around ∷ r) (inl refl)) in
                    let at_front : parent_of t d.around ≡ Some a = w.bodies.owned d.around a (subst (In d.around) (sym h.split) (In-left d.around front (jump ∷ []) i)) in
                    h.apart (some_is (sym at_front ∙ d.in_block) ∙ s)

                right : (k : List ℕ) → done ≡ front ++ k → body_of t b ≡ k ++ d.around ∷ rest → HasPassed t' (definition_of t v) before (into d.block) done
                right k e g =
                    let old = d.passes entry (a ∷ expand a b before) k rest (first_back entry fe) (subst (λ z. Leads t a z) (sym s) leads_jump, subst (λ z. Path t entry z (expand a b before)) at_a on) (ap (body_of t) s ∙ g) in
                    subst (λ z. HasPassed t' (definition_of t v) before z done) (sym at_a) (subst (HasPassed t' (definition_of t v) before a) (sym e) (passed_in_b (definition_of t v) lm before k free (subst (λ z. HasPassed t (definition_of t v) (a ∷ expand a b before) z k) s old)))

            other : d.block ≢ b → HasPassed t' (definition_of t v) before (into d.block) done
            other nb =
                let o = into_other d.block nb in
                let r = split nb in
                subst (λ z. HasPassed t' (definition_of t v) before z done) (sym o) (passed_else (definition_of t v) lm before d.block done free (d.passes entry (expand a b before) done r.0 (first_back entry fe) (subst (λ z. Path t entry z (expand a b before)) o on) r.1))
              where
                split : d.block ≢ b → (r : List ℕ) × (body_of t d.block ≡ done ++ d.around ∷ r)
                split nb = elim (cases_eq d.block a) [
                  | inl s ↦ ⊎_elim
                      (λ r. (r.0 ++ jump ∷ [], ap (body_of t) s ∙ h.split ∙ ap (λ z. z ++ jump ∷ []) r.1 ∙ append_assoc done (d.around ∷ r.0) (jump ∷ [])))
                      (λ r.
                      let i : In d.around (body_of t b) = subst (In d.around) (sym r.2) (In-right d.around r.0 (d.around ∷ rest) (inl refl)) in
                      absurd (nb (some_is (sym d.in_block ∙ w.bodies.owned d.around b i))))
                      (split_append d.around rest front (body_of t b) done (sym h.joined ∙ ap (body_of t') (sym s ∙ sym (into_other d.block nb)) ∙ be))
                  | inr na ↦ (rest, sym (h.bodies d.block na nb) ∙ ap (body_of t') (sym (into_other d.block nb)) ∙ be)
                ]

    defined : WellDefined m t' root
    defined = record {
      no_successors = h.successors root left ∙ f.defined.no_successors;
      own_values = λ k v i j.
          let j0 = old_operand k v j in
          let lm = kept k v j0 in
          subst (IsDefiningOperationInside t' root) (sym (made_same v (w.joined.operands k v j0) lm)) (made_forth root (definition_of t v) lm (f.defined.own_values k v (back k i) j0));
      dominance = λ k r i j. ssa k r i j;
      forwards = λ k i c o ins e br s. forwards k i c o ins e br s;
      terminators = λ k c x i e tr p.
          let ne = within_not k (inr i) in
          let d = parent_back k c p in
          ap (λ z. last_of None (body_of t' z)) (sym d.2) ∙ last_forth k d.0 ne (f.defined.terminators k d.0 x (back k i) (sym (ap (λ z. z.head) (h.rows k ne)) ∙ e) tr d.1);
      unused = λ k v user i ne j u.
          let nk = within_not k (inr i) in
          f.defined.unused k v user (back k i) (λ e. ne (h.successors k nk ∙ e)) (subst (In v) (ap (λ z. z.results) (h.rows k nk)) j) (old_operand user v u);
      dominated = dominated;
    }
      where
        ssa : (k r : ℕ) → IsWithin t' root k → In r (regions_of t' k) → IsTrue (has_ssa t' r)
        ssa k r i j =
            let ne = within_not k i in
            let rows = h.rows k ne in
            let j0 : In r (regions_of t k) = subst (In r) (ap (λ z. z.regions) rows) j in
            let x = slice_in (regions_of t k) r j0 in
            let y = slice_in (regions_of t' k) r j in
            let here : region_parent_of t r ≡ Some k = ap op_of_slot (w.joined.regions k x.0 r x.1) in
            let there : region_parent_of t' r ≡ Some k = ap op_of_slot (w'.joined.regions k y.0 r y.1) in
            let old : IsTrue (has_ssa_at t (Some k)) = subst (λ o. IsTrue (has_ssa_at t o)) here (f.defined.dominance k r (within_back root k i) j0) in
            subst (λ o. IsTrue (has_ssa_at t' o)) (sym there) (subst (λ z. IsTrue (ssa_in z)) (sym (ap (λ z. z.head) rows)) old)

        forwards : (k i c : ℕ) (o : Operation) → IsInside t' root k → op_at t' k ≡ Some o → IsTrue (m.is_branch o.head) → slice_get o.successors i ≡ Some c → length (m.forwarded (shape_of m t' o) i) ≡ length (arguments_of t' c)
        forwards k i c o ins e br s =
            let ne = within_not k (inr ins) in
            let s' = op_shows t' k o e in
            let hd : head_of t k ≡ Some o.head = sym (ap (λ z. z.head) (h.rows k ne)) ∙ s'.head in
            let oe = make_op t k o.head hd in
            let c0 : slice_get (successors_of t k) i ≡ Some c = ap (λ z. slice_get z i) (sym (h.successors k ne) ∙ s'.successors) ∙ s in
            ap (λ z. length (m.forwarded z i)) (sym (shapes m t t' a b jump front w w' h root k (operation_of t k o.head) o ne oe e)) ∙ f.defined.forwards k i c (operation_of t k o.head) (back k ins) oe br c0 ∙ ap length (sym (h.arguments c (target_kept m t t' a b jump front w w' h root k c ne (in_slice (successors_of t k) i c c0))))

    linked : IsWellLinked m t' root
    linked = record {
      edges = λ k s i held. edge k s i held;
      admitted = λ k i.
          let ne = within_not k i in
          admitted_same m t t' k (ap (λ z. z.head) (h.rows k ne)) (ap length (h.operands k ne)) (ap (λ z. length z.results) (h.rows k ne)) (ap length (h.successors k ne)) (ap (λ z. length z.regions) (h.rows k ne)) (f.linked.admitted k (within_back root k i));
    }
      where
        held_back : (k s : ℕ) → IsInside t' root k ⊎ HoldsBlock t' root s → IsInside t root k ⊎ HoldsBlock t root s
        held_back k s (inl i) = inl (back k i)
        held_back k s (inr x) = inr (x.0, (block_back s x.0 x.1).0, within_back root x.0 x.2)

        edge : (k s : ℕ) → In s (successors_of t' k) → IsInside t' root k ⊎ HoldsBlock t' root s → EndsBlock t' k
        edge k s i held =
            let ne = jumper_not k s i in
            let ends = f.linked.edges k s (old_target k s i) (held_back k s held) in
            record {
              block = into ends.block;
              in_block = parent_forth k ends.block ne ends.in_block;
              last = last_forth k ends.block ne ends.last;
              own_region = λ z j. let j0 = old_target k z j in h.block_parents z (target_kept m t t' a b jump front w w' h root k z ne j0) ∙ ends.own_region z j0 ∙ sym (region_into ends.block);
            }

    pub spliced_fit : IsFit m t' root
    spliced_fit = record { live = subst (λ z. IsSome z.head) (sym (h.rows root left)) f.live; chosen = λ x e. f.chosen x (sym (ap (λ z. z.head) (h.rows root left)) ∙ e); defined = defined; linked = linked }

pub spliced_keeps : (m : Meaning) (t t' : Tree) (a b jump : ℕ) (front : List ℕ) → IsTree t → IsTree t' → IsSpliced t t' a b jump front → length t.operations ≤ length t'.operations → ((root : ℕ) → IsFit m t root → IsInside t root jump → JumpsNow m t jump b) → KeepsRuns m t t'
spliced_keeps m t t' a b jump front w w' h longer jumps = record {
  agrees = λ root f l. spliced_agree m t t' a b jump front w w' h root f.linked.edges f.defined (jumps root f) (not_jump root l) f.live;
  heads = λ root f l. ap (λ z. z.head) (h.rows root (not_jump root l));
  stays = λ root f l. spliced_fit m t t' a b jump front w w' h root f (not_jump root l);
  grows = longer;
  fewer = λ root lt l. subst (λ z. IsSome z.head) (h.rows root (not_jump root l)) l;
}
  where
    not_jump : (root : ℕ) → IsLive t' root → root ≢ jump
    not_jump root l e = true≢false (sym l ∙ ap (λ z. is_some (head_of t' z)) e ∙ ap is_some h.deleted)
