-- A root that is fit to run stays so with another branch in the place of a branch.
use Rattle.std.proofs.Common.{◌≡◌, ◌≢◌, ◌⊎◌, inl, inr, ⊎_elim, ℕ, ◌<◌, ◌≤◌, List, [], ◌∷◌, ◌++◌, length, Option, Some, None, IsSome, IsTrue, slice_get, refl, sym, ap, ◌∙◌, subst, arith, append_assoc, append-nil}
use Rattle.std.proofs.lemmas.Bool.{cases_eq}
use Rattle.pliron_core.specs.declared.context.Def.{Def}
use Rattle.pliron_core.specs.declared.context.Def.TheVariants.{Result, Argument}
use Rattle.pliron_core.specs.Changes.{IsDefiningOperationInside}
use Rattle.pliron_core.specs.Tree.{Tree, In, first_of, last_of, IsLive, IsMadeBy, IsInside, IsInside.Directly, IsInside.Deeper, IsWithin, HoldsBlock, head_of, operands_of, successors_of, results_of, regions_of, parent_of, body_of, arguments_of, block_parent_of, region_parent_of, block_parent_operation_of, parent_operation_of, definition_of, up_from, op_of_slot}
use Rattle.pliron_core.specs.Invariant.{IsTree}
use Rattle.pliron_core.specs.Edges.{succs_of, succs_from}
use Rattle.pliron_core.specs.Reads.{has_ssa, has_ssa_at, ssa_in}
use Rattle.pliron_core.proofs.ListLemmas.{In-left, In-right}
use Rattle.pliron_core.proofs.HoldingLemmas.{some_is, in_slice, slice_in, maker_is, result_live, holder_is, holder_by}
use Rattle.pliron_core.proofs.NeighbourLemmas.{last_of-In}
use Rattle.pliron_core.proofs.RowLemmas.{last_of-append}
use Rattle.pliron_laws.specs.Datum.{Head, Meaning}
use Rattle.pliron_laws.specs.Tree.{Operation, op_at, shape_of}
use Rattle.pliron_laws.specs.Paths.{Path, Leads}
use Rattle.pliron_laws.specs.Root.{defining_block, HasPassed, IsDominated, WellDefined}
use Rattle.pliron_laws.specs.Linked.{EndsBlock, IsAdmitted, IsWellLinked}
use Rattle.pliron_theory.specs.Keeps.{IsFit, KeepsRuns}
use Rattle.pliron_theory.specs.Rebranching.{IsRebranched, ActsInPlace, FitsInPlace}
use Rattle.pliron_laws.proofs.Records.{op_shows, operation_of, make_op}
use Rattle.pliron_theory.proofs.SweptParts.{block_place_of, block_held_at}
use Rattle.pliron_theory.proofs.SweptStays.{admitted_same}
use Rattle.pliron_theory.proofs.Keys.{split_append}
use Rattle.pliron_theory.proofs.RebranchedAgree.{exchanged, exchanged_first, exchanged_second, exchanged_other, op_in, new_in, apart, live_old, live_new, shapes, rebranched_agree}

module _ (m : Meaning) (t t' : Tree) (a op new : ℕ) (front : List ℕ) (w : IsTree t) (w' : IsTree t') (h : IsRebranched t t' a op new front) where
  abbrev other : ℕ → ℕ
  other k = exchanged op new k

  ne_new : new ≢ op
  ne_new = apart m t t' a op new front w w' h

  op_at_a : parent_of t op ≡ Some a
  op_at_a = op_in m t t' a op new front w w' h

  new_at_a : parent_of t' new ≡ Some a
  new_at_a = new_in m t t' a op new front w w' h

  old_op : (k : ℕ) → IsLive t k → k ≢ new
  old_op k l = live_old m t t' a op new front w w' h k l

  now_op : (k : ℕ) → IsLive t' k → k ≢ op
  now_op k l = live_new m t t' a op new front w w' h k l

  is_new : other new ≡ op
  is_new = exchanged_second op new ne_new

  is_op : other op ≡ new
  is_op = exchanged_first op new

  is_else : (k : ℕ) → k ≢ op → k ≢ new → other k ≡ k
  is_else k np nq = exchanged_other op new k np nq

  twice : (k : ℕ) → other (other k) ≡ k
  twice k = elim (cases_eq k op) [
    | inl s ↦ ap (λ z. other (other z)) s ∙ ap other is_op ∙ is_new ∙ sym s
    | inr np ↦ elim (cases_eq k new) [
      | inl s ↦ ap (λ z. other (other z)) s ∙ ap other is_new ∙ is_op ∙ sym s
      | inr nq ↦ ap other (is_else k np nq) ∙ is_else k np nq
    ]
  ]

  op_last : last_of None (body_of t a) ≡ Some op
  op_last = ap (last_of None) h.split ∙ last_of-append None front (op ∷ [])

  new_last : last_of None (body_of t' a) ≡ Some new
  new_last = ap (last_of None) h.put ∙ last_of-append None front (new ∷ [])

  -- what an operation is and names, under its key before
  now_held : (k c : ℕ) → parent_of t' k ≡ Some c → k ≢ op
  now_held k c e = now_op k (w'.joined.all_in_place k c e).0

  user_back : (k v : ℕ) → In v (operands_of t' k) → In v (operands_of t (other k))
  user_back k v i = elim (cases_eq k op) [
    | inl s ↦ absurd (subst (In v) (ap (operands_of t') s ∙ (w'.joined.erased op h.deleted).0) i)
    | inr np ↦ elim (cases_eq k new) [
      | inl s ↦ subst (λ z. In v (operands_of t z)) (sym (ap other s ∙ is_new)) (h.new_operands v (subst (λ z. In v (operands_of t' z)) s i))
      | inr nq ↦ subst (λ z. In v (operands_of t z)) (sym (is_else k np nq)) (subst (In v) (h.operands k np nq) i)
    ]
  ]

  target_back : (k c : ℕ) → In c (successors_of t' k) → In c (successors_of t (other k))
  target_back k c i = elim (cases_eq k op) [
    | inl s ↦ absurd (subst (In c) (ap (successors_of t') s ∙ (w'.joined.erased op h.deleted).1) i)
    | inr np ↦ elim (cases_eq k new) [
      | inl s ↦ subst (λ z. In c (successors_of t z)) (sym (ap other s ∙ is_new)) (h.new_successors c (subst (λ z. In c (successors_of t' z)) s i))
      | inr nq ↦ subst (λ z. In c (successors_of t z)) (sym (is_else k np nq)) (subst (In c) (h.successors k np nq) i)
    ]
  ]

  parent_other : (k : ℕ) → k ≢ op → parent_of t' k ≡ parent_of t (other k)
  parent_other k np = elim (cases_eq k new) [
    | inl s ↦ ap (parent_of t') s ∙ new_at_a ∙ sym op_at_a ∙ ap (parent_of t) (sym (ap other s ∙ is_new))
    | inr nq ↦ h.parents k np nq ∙ ap (parent_of t) (sym (is_else k np nq))
  ]

  holder_not_op : (k r : ℕ) → In r (regions_of t' k) → k ≢ op
  holder_not_op k r i e = subst (In r) (ap (regions_of t') e ∙ ap (λ z. z.regions) (w'.joined.erased op h.deleted).2) i

  block_back : (c p : ℕ) → block_parent_operation_of t' c ≡ Some p → (block_parent_operation_of t c ≡ Some p) × (p ≢ op) × (p ≢ new)
  block_back c p e =
      let q = block_place_of t' w' c p e in
      let i = in_slice (regions_of t' p) q.index q.region q.listed in
      let np = holder_not_op p q.region i in
      let nq : p ≢ new = λ s. subst (In q.region) (ap (regions_of t') s ∙ h.new_childless) i in
      let f = ap (λ z. slice_get z.regions q.index) (sym (h.rows p np nq)) ∙ q.listed in
      (block_held_at t c p (record { region = q.region; index = q.index; in_region = sym (h.block_parents c) ∙ q.in_region; slot = w.joined.regions p q.index q.region f; listed = f }), np, nq)

  block_forth : (c p : ℕ) → block_parent_operation_of t c ≡ Some p → (block_parent_operation_of t' c ≡ Some p) × (p ≢ op) × (p ≢ new)
  block_forth c p e =
      let q = block_place_of t w c p e in
      let i = in_slice (regions_of t p) q.index q.region q.listed in
      let np : p ≢ op = λ s. subst (In q.region) (ap (regions_of t) s ∙ h.childless) i in
      let nq : p ≢ new = λ s. subst (In q.region) (ap (regions_of t) s ∙ ap (λ z. z.regions) (w.joined.erased new h.fresh).2) i in
      let f = ap (λ z. slice_get z.regions q.index) (h.rows p np nq) ∙ q.listed in
      (block_held_at t' c p (record { region = q.region; index = q.index; in_region = h.block_parents c ∙ q.in_region; slot = w'.joined.regions p q.index q.region f; listed = f }), np, nq)

  place_back : (x p : ℕ) → parent_operation_of t' x ≡ Some p → (parent_operation_of t (other x) ≡ Some p) × (other p ≡ p) × (x ≢ op)
  place_back x p e =
      let q = holder_is t' x p e in
      let nx = now_held x q.0 q.1 in
      let b = block_back q.0 p q.2 in
      (holder_by t (other x) q.0 p (sym (parent_other x nx) ∙ q.1) b.0, is_else p b.1 b.2, nx)

  place_forth : (x p : ℕ) → x ≢ op → parent_operation_of t (other x) ≡ Some p → (parent_operation_of t' x ≡ Some p) × (other p ≡ p) × (p ≢ op)
  place_forth x p nx e =
      let q = holder_is t (other x) p e in
      let b = block_forth q.0 p q.2 in
      (holder_by t' x q.0 p (parent_other x nx ∙ q.1) b.0, is_else p b.1 b.2, b.1)

  inside_back : (z x : ℕ) → IsInside t' z x → IsInside t z (other x)
  inside_back z x (Directly e) = Directly (place_back x z e).0
  inside_back z x (Deeper p e i) = let q = place_back x p e in Deeper p q.0 (subst (IsInside t z) q.1 (inside_back z p i))

  inside_not : (z x : ℕ) → IsInside t' z x → (x ≢ op) × (other z ≡ z)
  inside_not z x (Directly e) = let q = place_back x z e in (q.2, q.1)
  inside_not z x (Deeper p e i) = ((place_back x p e).2, (inside_not z p i).1)

  within_back : (z x : ℕ) → other z ≡ z → IsWithin t' z x → IsWithin t z (other x)
  within_back z x s (inl e) = inl (ap other e ∙ s)
  within_back z x s (inr i) = inr (inside_back z x i)

  inside_at : (z x y : ℕ) → x ≢ op → y ≡ other x → IsInside t z y → IsInside t' z x
  inside_at z x y nx s (Directly e) = Directly (place_forth x z nx (ap (parent_operation_of t) (sym s) ∙ e)).0
  inside_at z x y nx s (Deeper p e i) = let q = place_forth x p nx (ap (parent_operation_of t) (sym s) ∙ e) in Deeper p q.0 (inside_at z p p q.2 (sym q.1) i)

  inside_forth : (z x : ℕ) → x ≢ op → IsInside t z (other x) → IsInside t' z x
  inside_forth z x nx i = inside_at z x (other x) nx refl i

  within_forth : (z x : ℕ) → x ≢ op → IsWithin t z (other x) → IsWithin t' (other z) x
  within_forth z x nx (inl e) = inl (sym (twice x) ∙ ap other e)
  within_forth z x nx (inr i) = subst (λ y. IsWithin t' y x) (sym (holder_same z (other x) i)) (inr (inside_forth z x nx i))
    where
      holder_same : (z y : ℕ) → IsInside t z y → other z ≡ z
      holder_same z y (Directly e) = let q = holder_is t y z e in let b = block_forth q.0 z q.2 in is_else z b.1 b.2
      holder_same z y (Deeper p e i) = holder_same z p i

  -- what makes a used value is as before
  abbrev IsPlain : Option Def → Type 0
  IsPlain None = Unit {0}
  IsPlain (Some (Argument c j)) = Unit {0}
  IsPlain (Some (Result k j)) = (k ≢ op) × (k ≢ new)

  -- where a tree is well linked it is so afterwards
  module _ (root : ℕ) (links : IsWellLinked m t root) (live : IsLive t root) (left : root ≢ op) (fits : IsInside t root op → IsAdmitted m t' new) where
    pub rebranched_linked : IsWellLinked m t' root
    rebranched_linked = record { edges = λ k s i held. edge k s i held; admitted = λ k i. admitted k i }
      where
        held_back : (k s : ℕ) → IsInside t' root k ⊎ HoldsBlock t' root s → IsInside t root (other k) ⊎ HoldsBlock t root s
        held_back k s (inl i) = inl (inside_back root k i)
        held_back k s (inr x) = let b = block_back s x.0 x.1 in inr (x.0, b.0, subst (IsWithin t root) (is_else x.0 b.1 b.2) (within_back root x.0 (is_else root left (old_op root live)) x.2))

        edge : (k s : ℕ) → In s (successors_of t' k) → IsInside t' root k ⊎ HoldsBlock t' root s → EndsBlock t' k
        edge k s i held =
            let ends = links.edges (other k) s (target_back k s i) (held_back k s held) in
            let np : k ≢ op = λ q. subst (In s) (ap (successors_of t') q ∙ (w'.joined.erased op h.deleted).1) i in
            record {
              block = ends.block;
              in_block = parent_other k np ∙ ends.in_block;
              last = ended k np ends;
              own_region = λ z j. h.block_parents z ∙ ends.own_region z (target_back k z j) ∙ sym (h.block_parents ends.block);
            }
          where
            ended : (k : ℕ) → k ≢ op → (ends : EndsBlock t (other k)) → last_of None (body_of t' ends.block) ≡ Some k
            ended k np ends = elim (cases_eq ends.block a) [
              | inl s ↦
                  let e : other k ≡ op = some_is (sym ends.last ∙ ap (λ z. last_of None (body_of t z)) s ∙ op_last) in
                  ap (λ z. last_of None (body_of t' z)) s ∙ new_last ∙ ap Some (sym is_op ∙ ap other (sym e) ∙ twice k)
              | inr ne ↦ elim (cases_eq k new) [
                | inl q ↦ absurd (ne (some_is (sym ends.in_block ∙ ap (parent_of t) (ap other q ∙ is_new) ∙ op_at_a)))
                | inr nq ↦ ap (last_of None) (h.bodies ends.block ne) ∙ ends.last ∙ ap Some (is_else k np nq)
              ]
            ]

        stays : (k : ℕ) → k ≢ op → k ≢ new → IsWithin t root k → IsAdmitted m t' k
        stays k np nq i = admitted_same m t t' k (ap (λ z. z.head) (h.rows k np nq)) (ap length (h.operands k np nq)) (ap (λ z. length z.results) (h.rows k np nq)) (ap length (h.successors k np nq)) (ap (λ z. length z.regions) (h.rows k np nq)) (links.admitted k i)

        admitted : (k : ℕ) → IsWithin t' root k → IsAdmitted m t' k
        admitted k (inl e) = stays k (λ s. left (sym e ∙ s)) (λ s. old_op root live (sym e ∙ s)) (inl e)
        admitted k (inr i) = elim (cases_eq k new) [
          | inl q ↦ subst (IsAdmitted m t') (sym q) (fits (subst (IsInside t root) is_new (inside_back root new (subst (IsInside t' root) q i))))
          | inr nq ↦
              stays k (inside_not root k i).0 nq (inr (subst (IsInside t root) (is_else k (inside_not root k i).0 nq) (inside_back root k i)))
        ]

  module _ (root : ℕ) (f : IsFit m t root) (left : root ≢ op) (fits : IsInside t root op → FitsInPlace m t' new) where
    root_same : other root ≡ root
    root_same = is_else root left (old_op root f.live)

    inner : (k : ℕ) → IsInside t' root k → IsInside t root (other k)
    inner k i = inside_back root k i

    inner_old : (k : ℕ) → k ≢ new → IsInside t' root k → IsInside t root k
    inner_old k nq i = subst (IsInside t root) (is_else k (inside_not root k i).0 nq) (inside_back root k i)

    new_fits : IsInside t' root new → FitsInPlace m t' new
    new_fits i = fits (subst (IsInside t root) is_new (inside_back root new i))

    plain_maker : (k v : ℕ) → In v (operands_of t k) → IsPlain (definition_of t v) × (definition_of t' v ≡ definition_of t v)
    plain_maker k v i = let x = maker_is t v (w.joined.operands k v i) in let y = go x.0 x.2 in (subst IsPlain (sym x.1) y.0, y.1 ∙ sym x.1)
      where
        go : (d : Def) → IsMadeBy t v (Some d) → IsPlain (Some d) × (definition_of t' v ≡ Some d)
        go (Argument c j) e = (tt, w'.joined.arguments c j v (ap (λ z. slice_get z j) (h.arguments c) ∙ e))
        go (Result q j) e =
            let np : q ≢ op = λ s. subst (In v) (ap (results_of t) s ∙ h.no_results) (in_slice (results_of t q) j v e) in
            let nq = old_op q (result_live t w.joined q j v e) in
            ((np, nq), w'.joined.results q j v (ap (λ z. slice_get z.results j) (h.rows q np nq) ∙ e))

    made_forth : (d : Option Def) → IsPlain d → IsDefiningOperationInside t root d → IsDefiningOperationInside t' root d
    made_forth None l i = i
    made_forth (Some (Argument c j)) l i =
        let b = block_forth c i.0 i.1 in
        (i.0, b.0, subst (λ z. IsWithin t' z i.0) root_same (within_forth root i.0 b.1 (subst (IsWithin t root) (sym (is_else i.0 b.1 b.2)) i.2)))
    made_forth (Some (Result k j)) l i = inside_forth root k l.0 (subst (IsInside t root) (sym (is_else k l.0 l.1)) i)

    made_back : (d : Option Def) → IsPlain d → IsDefiningOperationInside t' root d → IsDefiningOperationInside t root d
    made_back None l i = i
    made_back (Some (Argument c j)) l i =
        let b = block_back c i.0 i.1 in
        (i.0, b.0, subst (IsWithin t root) (is_else i.0 b.1 b.2) (within_back root i.0 root_same i.2))
    made_back (Some (Result k j)) l i = subst (IsInside t root) (is_else k l.0 l.1) (inside_back root k i)

    leads_back : (c x : ℕ) → Leads t' c x → Leads t c x
    leads_back c x y = record { successor = go (last_of None (body_of t' c)) refl y.successor; same_region = sym (h.block_parents x) ∙ y.same_region ∙ h.block_parents c }
      where
        go : (o : Option ℕ) → last_of None (body_of t' c) ≡ o → In x (succs_from t' o) → In x (succs_of t c)
        go None q i = absurd i
        go (Some k) q i = elim (cases_eq c a) [
          | inl s ↦
              let e : k ≡ new = some_is (sym q ∙ ap (λ z. last_of None (body_of t' z)) s ∙ new_last) in
              subst (λ o. In x (succs_from t o)) (sym (ap (λ z. last_of None (body_of t z)) s ∙ op_last)) (h.new_successors x (subst (λ z. In x (successors_of t' z)) e i))
          | inr ne ↦
              let last : last_of None (body_of t c) ≡ Some k = ap (last_of None) (sym (h.bodies c ne)) ∙ q in
              let at : parent_of t k ≡ Some c = w.bodies.owned k c (last_of-In k (body_of t c) last) in
              let np : k ≢ op = λ s. ne (some_is (sym at ∙ ap (parent_of t) s ∙ op_at_a)) in
              let nq = old_op k (w.joined.all_in_place k c at).0 in
              subst (λ o. In x (succs_from t o)) (sym last) (subst (In x) (h.successors k np nq) i)
        ]

    path_back : (entry x : ℕ) (before : List ℕ) → Path t' entry x before → Path t entry x before
    path_back entry x [] p = p
    path_back entry x (c ∷ cs) p = (leads_back c x p.0, path_back entry c cs p.1)

    home_forth : (region : ℕ) (d : Option Def) → IsPlain d → up_from (defining_block t d) (λ c. block_parent_of t c) ≡ Some region → up_from (defining_block t' d) (λ c. block_parent_of t' c) ≡ Some region
    home_forth region None l e = e
    home_forth region (Some (Argument c j)) l e = h.block_parents c ∙ e
    home_forth region (Some (Result k j)) l e = ap (λ o. up_from o (λ c. block_parent_of t' c)) (h.parents k l.0 l.1) ∙ go (parent_of t k) ∙ e
      where
        go : (o : Option ℕ) → up_from o (λ c. block_parent_of t' c) ≡ up_from o (λ c. block_parent_of t c)
        go None = refl
        go (Some c) = h.block_parents c

    passed_forth : (d : Option Def) → IsPlain d → (before : List ℕ) (x : ℕ) (done : List ℕ) → HasPassed t d before x done → HasPassed t' d before x done
    passed_forth None l before x done p = p
    passed_forth (Some (Argument c j)) l before x done p = p
    passed_forth (Some (Result k j)) l before x done (inl i) = inl i
    passed_forth (Some (Result k j)) l before x done (inr y) = inr (y.0, h.parents k l.0 l.1 ∙ y.1, y.2)

    -- a place in a block after is one before
    split_back : (x c : ℕ) (done rest : List ℕ) → parent_of t x ≡ Some c → body_of t' c ≡ done ++ other x ∷ rest → (r : List ℕ) × (body_of t c ≡ done ++ x ∷ r)
    split_back x c done rest at e = elim (cases_eq c a) [
      | inl s ↦ elim (cases_eq x op) [
        | inl p ↦ branch s p
        | inr np ↦ plain s np
      ]
      | inr ne ↦
          let np : x ≢ op = λ p. ne (some_is (sym at ∙ ap (parent_of t) p ∙ op_at_a)) in
          (rest, sym (h.bodies c ne) ∙ e ∙ ap (λ z. done ++ z ∷ rest) (is_else x np nq))
    ]
      where
        nq : x ≢ new
        nq = old_op x (w.joined.all_in_place x c at).0

        in_front : (k : ℕ) (xs : List ℕ) → front ≡ xs → In k xs → In k (body_of t a)
        in_front k xs q i = subst (In k) (sym h.split) (In-left k front (op ∷ []) (subst (In k) (sym q) i))

        branch : c ≡ a → x ≡ op → (r : List ℕ) × (body_of t c ≡ done ++ x ∷ r)
        branch s p = ⊎_elim
            (λ r. absurd (old_op new (w.joined.all_in_place new a (w.bodies.owned new a (in_front new _ r.1 (In-right new done (new ∷ r.0) (inl refl))))).0 refl))
            (λ r. ([], ap (body_of t) s ∙ h.split ∙ ap (λ z. front ++ z ∷ []) (sym p) ∙ ap (λ z. z ++ x ∷ []) (sym (r.1 ∙ ap (λ z. front ++ z) (only r.0 r.2) ∙ append-nil front))))
            (split_append new rest front (new ∷ []) done (sym h.put ∙ ap (body_of t') (sym s) ∙ e ∙ ap (λ z. done ++ z ∷ rest) (ap other p ∙ is_op)))
          where
            only : (d : List ℕ) → new ∷ [] ≡ d ++ new ∷ rest → d ≡ []
            only [] g = refl
            only (z ∷ zs) g = let k : [] ≡ zs ++ new ∷ rest = cc in absurd (nothing zs k)
              where
                nothing : (zs : List ℕ) → [] ≡ zs ++ new ∷ rest → ⊥
                nothing [] g = grind arith
                nothing (y ∷ ys) g = grind arith

        plain : c ≡ a → x ≢ op → (r : List ℕ) × (body_of t c ≡ done ++ x ∷ r)
        plain s np = ⊎_elim
            (λ r. (r.0 ++ op ∷ [], ap (body_of t) s ∙ h.split ∙ ap (λ z. z ++ op ∷ []) r.1 ∙ append_assoc done (x ∷ r.0) (op ∷ [])))
            (λ r. absurd (⊎_elim nq (λ z. z) (subst (In x) (sym r.2) (In-right x r.0 (x ∷ rest) (inl refl)))))
            (split_append x rest front (new ∷ []) done (sym h.put ∙ ap (body_of t') (sym s) ∙ e ∙ ap (λ z. done ++ z ∷ rest) (is_else x np nq)))

    dominated : (user v : ℕ) → In v (operands_of t' user) → IsDefiningOperationInside t' root (definition_of t' v) → IsDominated t' user v
    dominated user v i made = record {
      around = other d.around;
      holds = within_forth d.around user nu d.holds;
      block = d.block;
      region = d.region;
      in_block = parent_other (other d.around) na ∙ ap (parent_of t) (twice d.around) ∙ d.in_block;
      in_region = h.block_parents d.block ∙ d.in_region;
      defined = subst (λ x. up_from (defining_block t' x) (λ c. block_parent_of t' c) ≡ Some d.region) (sym x.1) (home_forth d.region (definition_of t v) x.0 d.defined);
      passes = λ entry before done rest fe pe be.
          let s = split_back d.around d.block done rest d.in_block be in
          subst (λ z. HasPassed t' z before d.block done) (sym x.1) (passed_forth (definition_of t v) x.0 before d.block done (d.passes entry before done s.0 (ap (λ xs. first_of xs None) (sym (h.layouts d.region)) ∙ fe) (path_back entry d.block before pe) s.1));
    }
      where
        j : In v (operands_of t (other user))
        j = user_back user v i

        x : IsPlain (definition_of t v) × (definition_of t' v ≡ definition_of t v)
        x = plain_maker (other user) v j

        d : IsDominated t (other user) v
        d = f.defined.dominated (other user) v j (made_back (definition_of t v) x.0 (subst (IsDefiningOperationInside t' root) x.1 made))

        nu : user ≢ op
        nu s = subst (In v) (ap (operands_of t') s ∙ (w'.joined.erased op h.deleted).0) i

        na : other d.around ≢ op
        na s = old_op d.around (w.joined.all_in_place d.around d.block d.in_block).0 (sym (twice d.around) ∙ ap other s ∙ is_op)

    defined : WellDefined m t' root
    defined = record {
      no_successors = h.successors root left (old_op root f.live) ∙ f.defined.no_successors;
      own_values = λ k v i j.
          let j0 = user_back k v j in
          let x = plain_maker (other k) v j0 in
          subst (IsDefiningOperationInside t' root) (sym x.1) (made_forth (definition_of t v) x.0 (f.defined.own_values (other k) v (inner k i) j0));
      dominance = λ k r i j. ssa k r i j;
      forwards = λ k i c o ins e br s. forwards k i c o ins e br s;
      terminators = λ k c x i e tr p. last k c x i e tr p;
      unused = λ k v user i ne j u. elim (cases_eq k new) [
        | inl s ↦ subst (In v) (ap (results_of t') s ∙ h.new_no_results) j
        | inr nq ↦
            let np = (inside_not root k i).0 in
            f.defined.unused k v (other user) (inner_old k nq i) (λ e. ne (h.successors k np nq ∙ e)) (subst (In v) (ap (λ z. z.results) (h.rows k np nq)) j) (user_back user v u)
      ];
      dominated = dominated;
    }
      where
        ssa : (k r : ℕ) → IsWithin t' root k → In r (regions_of t' k) → IsTrue (has_ssa t' r)
        ssa k r i j =
            let nq : k ≢ new = λ s. subst (In r) (ap (regions_of t') s ∙ h.new_childless) j in
            let np = holder_not_op k r j in
            let rows = h.rows k np nq in
            let j0 : In r (regions_of t k) = subst (In r) (ap (λ z. z.regions) rows) j in
            let x = slice_in (regions_of t k) r j0 in
            let y = slice_in (regions_of t' k) r j in
            let here : region_parent_of t r ≡ Some k = ap op_of_slot (w.joined.regions k x.0 r x.1) in
            let there : region_parent_of t' r ≡ Some k = ap op_of_slot (w'.joined.regions k y.0 r y.1) in
            let old : IsTrue (has_ssa_at t (Some k)) = subst (λ o. IsTrue (has_ssa_at t o)) here (f.defined.dominance k r (subst (IsWithin t root) (is_else k np nq) (within_back root k root_same i)) j0) in
            subst (λ o. IsTrue (has_ssa_at t' o)) (sym there) (subst (λ z. IsTrue (ssa_in z)) (sym (ap (λ z. z.head) rows)) old)

        forwards : (k i c : ℕ) (o : Operation) → IsInside t' root k → op_at t' k ≡ Some o → IsTrue (m.is_branch o.head) → slice_get o.successors i ≡ Some c → length (m.forwarded (shape_of m t' o) i) ≡ length (arguments_of t' c)
        forwards k i c o ins e br s = elim (cases_eq k new) [
          | inl q ↦ (new_fits (subst (IsInside t' root) q ins)).forwards o i c (ap (op_at t') (sym q) ∙ e) br s
          | inr nq ↦
              let np = (inside_not root k ins).0 in
              let s' = op_shows t' k o e in
              let oe = make_op t k o.head (sym (ap (λ z. z.head) (h.rows k np nq)) ∙ s'.head) in
              let c0 : slice_get (successors_of t k) i ≡ Some c = ap (λ z. slice_get z i) (sym (h.successors k np nq) ∙ s'.successors) ∙ s in
              ap (λ z. length (m.forwarded z i)) (sym (shapes m t t' a op new front w w' h k (operation_of t k o.head) o np nq oe e)) ∙ f.defined.forwards k i c (operation_of t k o.head) (inner_old k nq ins) oe br c0 ∙ ap length (sym (h.arguments c))
        ]

        last : (k c : ℕ) (x : Head) → IsInside t' root k → head_of t' k ≡ Some x → IsTrue (m.is_terminator x) → parent_of t' k ≡ Some c → last_of None (body_of t' c) ≡ Some k
        last k c x i e tr p = elim (cases_eq k new) [
          | inl q ↦ ap (λ z. last_of None (body_of t' z)) (some_is (sym p ∙ ap (parent_of t') q ∙ new_at_a)) ∙ new_last ∙ ap Some (sym q)
          | inr nq ↦
              let np = (inside_not root k i).0 in
              let old = f.defined.terminators k c x (inner_old k nq i) (sym (ap (λ z. z.head) (h.rows k np nq)) ∙ e) tr (sym (h.parents k np nq) ∙ p) in
              elim (cases_eq c a) [
                | inl s ↦ absurd (np (some_is (sym old ∙ ap (λ z. last_of None (body_of t z)) s ∙ op_last)))
                | inr ne ↦ ap (last_of None) (h.bodies c ne) ∙ old
              ]
        ]

    linked : IsWellLinked m t' root
    linked = rebranched_linked root f.linked f.live left (λ i. (fits i).admitted)

    pub rebranched_fit : IsFit m t' root
    rebranched_fit = record { live = subst (λ z. IsSome z.head) (sym (h.rows root left (old_op root f.live))) f.live; chosen = λ x e. f.chosen x (sym (ap (λ z. z.head) (h.rows root left (old_op root f.live))) ∙ e); defined = defined; linked = linked }

pub rebranched_keeps : (m : Meaning) (t t' : Tree) (a op new : ℕ) (front : List ℕ) → IsTree t → IsTree t' → IsRebranched t t' a op new front → length t.operations ≤ length t'.operations → length t.operations ≤ new → ((root : ℕ) → IsFit m t root → IsInside t root op → FitsInPlace m t' new) → ((root : ℕ) → IsFit m t root → ActsInPlace m t t' root op new) → KeepsRuns m t t'
rebranched_keeps m t t' a op new front w w' h longer made fits alike = record {
  agrees = λ root f l. rebranched_agree m t t' a op new front w w' h root f (alike root f) (live_new m t t' a op new front w w' h root l);
  heads = λ root f l. ap (λ z. z.head) (h.rows root (live_new m t t' a op new front w w' h root l) (live_old m t t' a op new front w w' h root f.live));
  stays = λ root f l. rebranched_fit m t t' a op new front w w' h root f (live_new m t t' a op new front w w' h root l) (fits root f);
  grows = longer;
  fewer = λ root lt l. subst (λ z. IsSome z.head) (h.rows root (live_new m t t' a op new front w w' h root l) (λ s. not_made root s lt)) l;
}
  where
    not_made : (root : ℕ) → root ≡ new → root < length t.operations → ⊥
    not_made root s lt = let le : length t.operations ≤ root = subst (λ z. length t.operations ≤ z) (sym s) made in absurd (omega (arith, lt, le))
