-- A root that is fit to run stays so without operations and blocks that nothing names.
use Rattle.std.proofs.Common.{◌≡◌, ◌⊎◌, inl, inr, ℕ, Bool, false, List, [], ◌∷◌, ◌++◌, length, Option, Some, None, IsSome, IsTrue, refl, sym, ap, ◌∙◌, subst, arith}
use Rattle.pliron_core.specs.declared.context.Def.{Def}
use Rattle.pliron_core.specs.declared.context.Def.TheVariants.{Result, Argument}
use Rattle.pliron_core.specs.Changes.{IsDefiningOperationInside}
use Rattle.pliron_core.specs.Tree.{Tree, In, first_of, last_of, IsInside, IsWithin, HoldsBlock, head_of, operands_of, successors_of, results_of, regions_of, parent_of, body_of, block_parent_of, layout_of, region_parent_of, block_parent_operation_of, definition_of, up_from, op_of_slot}
use Rattle.pliron_core.specs.Invariant.{IsTree}
use Rattle.pliron_core.specs.Edges.{succs_from}
use Rattle.pliron_core.specs.Reads.{has_ssa, has_ssa_at, ssa_in}
use Rattle.pliron_core.proofs.HoldingLemmas.{some_is, slice_in, in_slice}
use Rattle.pliron_core.proofs.WithinLemmas.{parent_holder}
use Rattle.pliron_core.proofs.NeighbourLemmas.{last_of-In}
use Rattle.pliron_laws.specs.Datum.{Meaning}
use Rattle.pliron_laws.specs.Paths.{Path, Leads}
use Rattle.pliron_laws.specs.Root.{defining_block, HasPassed, IsDominated, WellDefined}
use Rattle.pliron_laws.specs.Linked.{EndsBlock, IsAdmitted, IsWellLinked}
use Rattle.pliron_theory.specs.Keeps.{IsFit}
use Rattle.pliron_theory.specs.Sweeping.{swept, is_maker_dead, IsSwept, AreAway}
use Rattle.pliron_theory.proofs.Bound.{made_within}
use Rattle.pliron_laws.proofs.Records.{op_shows}
use Rattle.pliron_theory.proofs.SweptLists.{in_swept, cut, last_swept, first_swept}
use Rattle.pliron_theory.proofs.SweptParts.{HasBlockPlace, block_place_of, block_place_back, within_forth, made_forth, made_same, block_lives, user_lives, jumper_lives, inside_back, inside_lives, within_back, made_back}
use Rattle.pliron_theory.proofs.SweptRecords.{op_same, shape_swept}

-- what the dialect admits reads the row of an operation and how much it uses
pub admitted_same : (m : Meaning) (t t' : Tree) (k : ℕ) → head_of t' k ≡ head_of t k → length (operands_of t' k) ≡ length (operands_of t k) → length (results_of t' k) ≡ length (results_of t k) → length (successors_of t' k) ≡ length (successors_of t k) → length (regions_of t' k) ≡ length (regions_of t k) → IsAdmitted m t k → IsAdmitted m t' k
admitted_same m t t' k head operands results successors regions a x e =
    let i : IsTrue (m.admits x (length (operands_of t k)) (length (results_of t k)) (length (successors_of t k)) (length (regions_of t k))) = a x (sym head ∙ e) in
    subst (λ n. IsTrue (m.admits x n (length (results_of t' k)) (length (successors_of t' k)) (length (regions_of t' k)))) (sym operands)
    (subst (λ n. IsTrue (m.admits x (length (operands_of t k)) n (length (successors_of t' k)) (length (regions_of t' k)))) (sym results)
    (subst (λ n. IsTrue (m.admits x (length (operands_of t k)) (length (results_of t k)) n (length (regions_of t' k)))) (sym successors)
    (subst (λ n. IsTrue (m.admits x (length (operands_of t k)) (length (results_of t k)) (length (successors_of t k)) n)) (sym regions) i)))

module _ (m : Meaning) (t t' : Tree) (dead dead_block : ℕ → Bool) (w : IsTree t) (w' : IsTree t') (h : IsSwept t t' dead dead_block) (g : AreAway t' dead dead_block) (root : ℕ) (f : IsFit m t root) (left : dead root ≡ false) where
  within_lives : (k : ℕ) → IsWithin t' root k → dead k ≡ false
  within_lives k (inl e) = ap dead e ∙ left
  within_lives k (inr i) = inside_lives t t' dead dead_block w w' h g root k i

  old_operand : (k v : ℕ) → In v (operands_of t' k) → In v (operands_of t k)
  old_operand k v i = subst (In v) (h.operands k (user_lives t t' dead dead_block w w' h g k v i)) i

  old_target : (k b : ℕ) → In b (successors_of t' k) → In b (successors_of t k)
  old_target k b i = subst (In b) (h.successors k (jumper_lives t t' dead dead_block w w' h g k b i)) i

  back : (k : ℕ) → IsInside t' root k → IsInside t root k
  back k i = inside_back t t' dead dead_block w w' h g root k i

  -- a region that makes a value inside the root
  module _ (region holder : ℕ) (held : region_parent_of t region ≡ Some holder) (inner : IsWithin t root holder) where
    leads_back : (b c : ℕ) → block_parent_of t' c ≡ Some region → Leads t' b c → Leads t b c
    leads_back b c e x = go (last_of None (body_of t' b)) refl x.successor
      where
        lc : dead_block c ≡ false
        lc = block_lives t t' dead dead_block w w' h g c region e

        lb : dead_block b ≡ false
        lb = block_lives t t' dead dead_block w w' h g b region (sym x.same_region ∙ e)

        own : HoldsBlock t root c
        own = (holder, ap (λ o. up_from o (λ r. region_parent_of t r)) (sym (h.block_parents c lc) ∙ e) ∙ held, inner)

        go : (o : Option ℕ) → last_of None (body_of t' b) ≡ o → In c (succs_from t' o) → Leads t b c
        go None q i = absurd i
        go (Some k) q i = record { successor = subst (λ o. In c (succs_from t o)) (sym last) (old_target k c i); same_region = sym (h.block_parents c lc) ∙ x.same_region ∙ h.block_parents b lb }
          where
            lk : dead k ≡ false
            lk = jumper_lives t t' dead dead_block w w' h g k c i

            at : parent_of t k ≡ Some b
            at = sym (h.parents k lk) ∙ w'.bodies.owned k b (last_of-In k (body_of t' b) q)

            ends : EndsBlock t k
            ends = f.linked.edges k c (old_target k c i) (inr own)

            last : last_of None (body_of t b) ≡ Some k
            last = ap (λ z. last_of None (body_of t z)) (some_is (sym at ∙ ends.in_block)) ∙ ends.last

    path_back : (a b : ℕ) (before : List ℕ) → block_parent_of t' b ≡ Some region → Path t' a b before → Path t a b before
    path_back a b [] e p = p
    path_back a b (c ∷ before) e p = (leads_back c b e p.0, path_back a c before (sym p.0.same_region ∙ e) p.1)

  home_forth : (region : ℕ) (d : Option Def) → is_maker_dead dead dead_block d ≡ false → up_from (defining_block t d) (λ b. block_parent_of t b) ≡ Some region → up_from (defining_block t' d) (λ b. block_parent_of t' b) ≡ Some region
  home_forth region None l e = e
  home_forth region (Some (Argument b j)) l e = h.block_parents b l ∙ e
  home_forth region (Some (Result k j)) l e = ap (λ o. up_from o (λ b. block_parent_of t' b)) (h.parents k l) ∙ go (parent_of t k) refl e
    where
      go : (o : Option ℕ) → parent_of t k ≡ o → up_from o (λ b. block_parent_of t b) ≡ Some region → up_from o (λ b. block_parent_of t' b) ≡ Some region
      go None q e = e
      go (Some b) q e = h.block_parents b (h.holders k b q l) ∙ e

  passed_forth : (d : Option Def) → is_maker_dead dead dead_block d ≡ false → (before : List ℕ) (b : ℕ) (done : List ℕ) → HasPassed t d before b done → HasPassed t' d before b (swept dead done)
  passed_forth None l before b done p = p
  passed_forth (Some (Argument c j)) l before b done p = p
  passed_forth (Some (Result k j)) l before b done (inl i) = inl (in_swept dead k l done i)
  passed_forth (Some (Result k j)) l before b done (inr x) = inr (x.0, h.parents k l ∙ x.1, x.2)

  first_back : (region holder entry : ℕ) → dead holder ≡ false → In region (regions_of t holder) → first_of (layout_of t' region) None ≡ Some entry → first_of (layout_of t region) None ≡ Some entry
  first_back region holder entry l i e = go (first_of (layout_of t region) None) refl
    where
      there : first_of (swept dead_block (layout_of t region)) None ≡ Some entry
      there = ap (λ xs. first_of xs None) (sym (h.layouts holder region l i)) ∙ e

      none : (xs : List ℕ) → first_of xs None ≡ None → first_of (swept dead_block xs) None ≡ None
      none [] q = q
      none (x ∷ xs) q = grind arith

      go : (o : Option ℕ) → first_of (layout_of t region) None ≡ o → o ≡ Some entry
      go None q = sym (none (layout_of t region) q) ∙ there
      go (Some a) q = sym (first_swept dead_block a (layout_of t region) (h.entries holder region a l i q) q) ∙ there

  dominated : (user v : ℕ) → In v (operands_of t' user) → IsDefiningOperationInside t' root (definition_of t' v) → IsDominated t' user v
  dominated user v i made = record {
    around = d.around;
    holds = a.0;
    block = d.block;
    region = d.region;
    in_block = h.parents d.around a.1 ∙ d.in_block;
    in_region = in_region;
    defined = subst (λ x. up_from (defining_block t' x) (λ b. block_parent_of t' b) ≡ Some d.region) (sym def) (home_forth d.region (definition_of t v) lm d.defined);
    passes = passing;
  }
    where
      lu : dead user ≡ false
      lu = user_lives t t' dead dead_block w w' h g user v i

      j : In v (operands_of t user)
      j = old_operand user v i

      lm : is_maker_dead dead dead_block (definition_of t v) ≡ false
      lm = h.values user v lu j

      def : definition_of t' v ≡ definition_of t v
      def = made_same t t' dead dead_block w w' h v (w.joined.operands user v j) lm

      was : IsDefiningOperationInside t root (definition_of t v)
      was = made_back t t' dead dead_block w w' h g root (definition_of t v) (subst (IsDefiningOperationInside t' root) def made)

      d : IsDominated t user v
      d = f.defined.dominated user v j was

      a : IsWithin t' d.around user × (dead d.around ≡ false)
      a = within_forth t t' dead dead_block w w' h d.around user lu d.holds

      lb : dead_block d.block ≡ false
      lb = h.holders d.around d.block d.in_block a.1

      in_region : block_parent_of t' d.block ≡ Some d.region
      in_region = h.block_parents d.block lb ∙ d.in_region

      up : (y : ℕ) × (block_parent_operation_of t d.block ≡ Some y)
      up = parent_holder t d.around d.block w.joined d.in_block

      p : HasBlockPlace t d.block up.0
      p = block_place_of t w d.block up.0 up.1

      same : p.region ≡ d.region
      same = some_is (sym p.in_region ∙ d.in_region)

      held : region_parent_of t d.region ≡ Some up.0
      held = ap (region_parent_of t) (sym same) ∙ ap op_of_slot p.slot

      listed : In d.region (regions_of t up.0)
      listed = subst (λ r. In r (regions_of t up.0)) same (in_slice (regions_of t up.0) p.index p.region p.listed)

      passing : (entry : ℕ) (before done rest : List ℕ) → first_of (layout_of t' d.region) None ≡ Some entry → Path t' entry d.block before → body_of t' d.block ≡ done ++ d.around ∷ rest → HasPassed t' (definition_of t' v) before d.block done
      passing entry before done rest fe pe be =
          let c = cut dead d.around rest (body_of t d.block) done (sym (h.bodies d.block lb) ∙ be) in
          let old = d.passes entry before c.0 c.1 (first_back d.region up.0 entry (h.block_holders d.block up.0 up.1 lb) listed fe) (path_back d.region up.0 held (made_within t root d.region up.0 (definition_of t v) held d.defined was) entry d.block before in_region pe) c.2 in
          subst (λ x. HasPassed t' x before d.block done) (sym def) (subst (HasPassed t' (definition_of t v) before d.block) c.3 (passed_forth (definition_of t v) lm before d.block c.0 old))

  defined : WellDefined m t' root
  defined = record {
    no_successors = h.successors root (within_lives root (inl refl)) ∙ f.defined.no_successors;
    own_values = λ k v i j.
        let lk = within_lives k (inr i) in
        let j0 = old_operand k v j in
        let lm = h.values k v lk j0 in
        subst (IsDefiningOperationInside t' root) (sym (made_same t t' dead dead_block w w' h v (w.joined.operands k v j0) lm)) (made_forth t t' dead dead_block w w' h root (definition_of t v) lm (f.defined.own_values k v (back k i) j0));
    dominance = λ k r i j. ssa k r i j;
    forwards = λ k i b o ins e br s.
        let lk = within_lives k (inr ins) in
        let oe = sym (op_same t t' dead dead_block w w' h k lk) ∙ e in
        let target = h.targets k b lk (subst (In b) (sym (op_shows t k o oe).successors) (in_slice o.successors i b s)) in
        ap (λ z. length (m.forwarded z i)) (sym (shape_swept t t' dead dead_block w w' h m k o lk oe)) ∙ f.defined.forwards k i b o (back k ins) oe br s ∙ ap length (sym (h.arguments b target));
    terminators = λ k b x i e tr p.
        let lk = within_lives k (inr i) in
        let p0 = sym (h.parents k lk) ∙ p in
        ap (last_of None) (h.bodies b (h.holders k b p0 lk)) ∙ last_swept dead k (body_of t b) lk (f.defined.terminators k b x (back k i) (sym (ap (λ z. z.head) (h.rows k lk)) ∙ e) tr p0);
    unused = λ k v user i ne j u.
        let lk = within_lives k (inr i) in
        f.defined.unused k v user (back k i) (λ e. ne (h.successors k lk ∙ e)) (subst (In v) (ap (λ z. z.results) (h.rows k lk)) j) (old_operand user v u);
    dominated = dominated;
  }
    where
      ssa : (k r : ℕ) → IsWithin t' root k → In r (regions_of t' k) → IsTrue (has_ssa t' r)
      ssa k r i j =
          let lk = within_lives k i in
          let rows = h.rows k lk in
          let j0 : In r (regions_of t k) = subst (In r) (ap (λ z. z.regions) rows) j in
          let x = slice_in (regions_of t k) r j0 in
          let y = slice_in (regions_of t' k) r j in
          let here : region_parent_of t r ≡ Some k = ap op_of_slot (w.joined.regions k x.0 r x.1) in
          let there : region_parent_of t' r ≡ Some k = ap op_of_slot (w'.joined.regions k y.0 r y.1) in
          let old : IsTrue (has_ssa_at t (Some k)) = subst (λ o. IsTrue (has_ssa_at t o)) here (f.defined.dominance k r (within_back t t' dead dead_block w w' h g root k i) j0) in
          subst (λ o. IsTrue (has_ssa_at t' o)) (sym there) (subst (λ z. IsTrue (ssa_in z)) (sym (ap (λ z. z.head) rows)) old)

  linked : IsWellLinked m t' root
  linked = record {
    edges = λ k s i held. edge k s i held;
    admitted = λ k i.
        let lk = within_lives k i in
        admitted_same m t t' k (ap (λ z. z.head) (h.rows k lk)) (ap length (h.operands k lk)) (ap (λ z. length z.results) (h.rows k lk)) (ap length (h.successors k lk)) (ap (λ z. length z.regions) (h.rows k lk)) (f.linked.admitted k (within_back t t' dead dead_block w w' h g root k i));
  }
    where
      held_back : (k s : ℕ) → IsInside t' root k ⊎ HoldsBlock t' root s → IsInside t root k ⊎ HoldsBlock t root s
      held_back k s (inl i) = inl (back k i)
      held_back k s (inr x) = inr (x.0, (block_place_back t t' dead dead_block w w' h g s x.0 x.1).0, within_back t t' dead dead_block w w' h g root x.0 x.2)

      edge : (k s : ℕ) → In s (successors_of t' k) → IsInside t' root k ⊎ HoldsBlock t' root s → EndsBlock t' k
      edge k s i held =
          let lk = jumper_lives t t' dead dead_block w w' h g k s i in
          let ends = f.linked.edges k s (old_target k s i) (held_back k s held) in
          let lb = h.holders k ends.block ends.in_block lk in
          record {
            block = ends.block;
            in_block = h.parents k lk ∙ ends.in_block;
            last = ap (last_of None) (h.bodies ends.block lb) ∙ last_swept dead k (body_of t ends.block) lk ends.last;
            own_region = λ z j. let j0 = old_target k z j in h.block_parents z (h.targets k z lk j0) ∙ ends.own_region z j0 ∙ sym (h.block_parents ends.block lb);
          }

  pub swept_fit : IsFit m t' root
  swept_fit = record { live = subst (λ z. IsSome z.head) (sym (h.rows root left)) f.live; chosen = λ x e. f.chosen x (sym (ap (λ z. z.head) (h.rows root left)) ∙ e); defined = defined; linked = linked }
