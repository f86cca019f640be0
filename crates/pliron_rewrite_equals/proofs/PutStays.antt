-- A root that is fit to run stays so when operations are put into its blocks that use what they may use.
use Rattle.std.proofs.Common.{◌≡◌, ◌⊎◌, inl, inr, ℕ, Bool, true, false, true≢false, List, [], ◌∷◌, ◌++◌, length, Option, Some, None, IsSome, IsTrue, slice_get, refl, sym, ap, ◌∙◌, subst}
use Rattle.pliron_core.specs.declared.context.Def.{Def}
use Rattle.pliron_core.specs.declared.context.Def.TheVariants.{Result, Argument}
use Rattle.pliron_core.specs.Changes.{IsDefiningOperationInside}
use Rattle.pliron_core.specs.Tree.{Tree, In, first_of, last_of, IsInside, IsWithin, HoldsBlock, operands_of, successors_of, regions_of, parent_of, body_of, arguments_of, block_parent_of, layout_of, region_parent_of, block_parent_operation_of, definition_of, up_from, op_of_slot}
use Rattle.pliron_core.specs.Invariant.{IsTree}
use Rattle.pliron_core.specs.Edges.{succs_from}
use Rattle.pliron_core.specs.Reads.{has_ssa, has_ssa_at, ssa_in}
use Rattle.pliron_core.proofs.HoldingLemmas.{some_is, slice_in, in_slice}
use Rattle.pliron_core.proofs.WithinLemmas.{parent_holder}
use Rattle.pliron_core.proofs.LastLemmas.{last_none}
use Rattle.pliron_laws.specs.Datum.{Meaning}
use Rattle.pliron_laws.specs.Tree.{Operation, op_at, shape_of}
use Rattle.pliron_laws.specs.Paths.{Path, Leads}
use Rattle.pliron_laws.specs.Root.{defining_block, HasPassed, IsDominated, WellDefined}
use Rattle.pliron_laws.specs.Linked.{EndsBlock, IsAdmitted, IsWellLinked}
use Rattle.pliron_theory.specs.Keeps.{IsFit}
use Rattle.pliron_theory.specs.Sweeping.{swept, is_maker_dead, IsSwept, AreAway}
use Rattle.pliron_rewrite_equals.specs.Putting.{AreInserted}
use Rattle.pliron_laws.proofs.Records.{op_shows}
use Rattle.pliron_theory.proofs.SweptLists.{from_swept, swept_split, swept_all, last_swept}
use Rattle.pliron_theory.proofs.SweptParts.{HasBlockPlace, block_place_of, block_place_forth, inside_forth, within_forth, made_forth, made_same, held_lives, within_back, made_back}
use Rattle.pliron_theory.proofs.SweptRecords.{op_same, shape_swept}
use Rattle.pliron_theory.proofs.SweptStays.{admitted_same}

abbrev pub no_block_dead : ℕ → Bool
no_block_dead b = false

module _ (m : Meaning) (t t' : Tree) (dead : ℕ → Bool) (w : IsTree t) (w' : IsTree t') (h : IsSwept t t' dead no_block_dead) (g : AreAway t' dead no_block_dead) (p : AreInserted m t t' dead) (root : ℕ) (f : IsFit m t' root) (left : dead root ≡ false) where
  reported : (k : ℕ) → (dead k ≡ true → ⊥) → dead k ≡ false
  reported k never = go (dead k) refl
    where
      go : (b : Bool) → dead k ≡ b → dead k ≡ false
      go true d = absurd (never d)
      go false d = d

  -- new, or not
  by_age : {A : Type 0} (k : ℕ) → (dead k ≡ true → A) → (dead k ≡ false → A) → A
  by_age {A} k new old = go (dead k) refl
    where
      go : (b : Bool) → dead k ≡ b → A
      go true d = new d
      go false d = old d

  jumper_old : (k b : ℕ) → In b (successors_of t k) → dead k ≡ false
  jumper_old k b i = reported k (λ d. subst (In b) (p.successors k d) i)

  holder_old : (k r : ℕ) → In r (regions_of t k) → dead k ≡ false
  holder_old k r i = reported k (λ d. subst (In r) (p.regions k d) i)

  old_operand : (k v : ℕ) → dead k ≡ false → In v (operands_of t k) → In v (operands_of t' k)
  old_operand k v l i = subst (In v) (sym (h.operands k l)) i

  old_target : (k b : ℕ) → In b (successors_of t k) → In b (successors_of t' k)
  old_target k b i = subst (In b) (sym (h.successors k (jumper_old k b i))) i

  forth : (k : ℕ) → dead k ≡ false → IsInside t root k → IsInside t' root k
  forth k l i = (inside_forth t t' dead no_block_dead w w' h root k l i).0

  -- an operation that stood last stands last
  last_put : (b k : ℕ) → last_of None (body_of t' b) ≡ Some k → last_of None (body_of t b) ≡ Some k
  last_put b k e = go (last_of None (body_of t b)) refl
    where
      swept_last : last_of None (swept dead (body_of t b)) ≡ Some k
      swept_last = ap (last_of None) (sym (h.bodies b refl)) ∙ e

      go : (o : Option ℕ) → last_of None (body_of t b) ≡ o → o ≡ Some k
      go None q = ap (λ xs. last_of None (swept dead xs)) (sym (last_none (body_of t b) q)) ∙ swept_last
      go (Some j) q = old (dead j) refl
        where
          old : (x : Bool) → dead j ≡ x → Some j ≡ Some k
          old true d = let n : None ≡ Some k = ap (last_of None) (sym (p.last b j d q)) ∙ e in absurd (cc)
          old false d = sym (last_swept dead j (body_of t b) d q) ∙ swept_last

  leads_forth : (b c : ℕ) → Leads t b c → Leads t' b c
  leads_forth b c x = go (last_of None (body_of t b)) refl x.successor
    where
      go : (o : Option ℕ) → last_of None (body_of t b) ≡ o → In c (succs_from t o) → Leads t' b c
      go None q i = absurd i
      go (Some k) q i = record {
        successor = subst (λ o. In c (succs_from t' o)) (sym (ap (last_of None) (h.bodies b refl) ∙ last_swept dead k (body_of t b) (jumper_old k c i) q)) (old_target k c i);
        same_region = h.block_parents c refl ∙ x.same_region ∙ sym (h.block_parents b refl);
      }

  path_forth : (a b : ℕ) (before : List ℕ) → Path t a b before → Path t' a b before
  path_forth a b [] q = q
  path_forth a b (c ∷ before) q = (leads_forth c b q.0, path_forth a c before q.1)

  home_back : (region : ℕ) (d : Option Def) → is_maker_dead dead no_block_dead d ≡ false → up_from (defining_block t' d) (λ b. block_parent_of t' b) ≡ Some region → up_from (defining_block t d) (λ b. block_parent_of t b) ≡ Some region
  home_back region None l e = e
  home_back region (Some (Argument b j)) l e = sym (h.block_parents b refl) ∙ e
  home_back region (Some (Result k j)) l e = go (parent_of t k) (ap (λ o. up_from o (λ b. block_parent_of t' b)) (sym (h.parents k l)) ∙ e)
    where
      go : (o : Option ℕ) → up_from o (λ b. block_parent_of t' b) ≡ Some region → up_from o (λ b. block_parent_of t b) ≡ Some region
      go None e = e
      go (Some b) e = sym (h.block_parents b refl) ∙ e

  passed_back : (d : Option Def) → is_maker_dead dead no_block_dead d ≡ false → (before : List ℕ) (b : ℕ) (done : List ℕ) → HasPassed t' d before b (swept dead done) → HasPassed t d before b done
  passed_back None l before b done q = q
  passed_back (Some (Argument c j)) l before b done q = q
  passed_back (Some (Result k j)) l before b done (inl i) = inl (from_swept dead k done i).0
  passed_back (Some (Result k j)) l before b done (inr x) = inr (x.0, sym (h.parents k l) ∙ x.1, x.2)

  dominated : (user v : ℕ) → dead user ≡ false → In v (operands_of t user) → IsDefiningOperationInside t root (definition_of t v) → IsDominated t user v
  dominated user v l i made = record {
    around = d.around;
    holds = within_back t t' dead no_block_dead w w' h g d.around user d.holds;
    block = d.block;
    region = d.region;
    in_block = sym (h.parents d.around la) ∙ d.in_block;
    in_region = in_region;
    defined = home_back d.region (definition_of t v) lm (subst (λ x. up_from (defining_block t' x) (λ b. block_parent_of t' b) ≡ Some d.region) def d.defined);
    passes = passing;
  }
    where
      lm : is_maker_dead dead no_block_dead (definition_of t v) ≡ false
      lm = h.values user v l i

      def : definition_of t' v ≡ definition_of t v
      def = made_same t t' dead no_block_dead w w' h v (w.joined.operands user v i) lm

      d : IsDominated t' user v
      d = f.defined.dominated user v (old_operand user v l i) (subst (IsDefiningOperationInside t' root) (sym def) (made_forth t t' dead no_block_dead w w' h root (definition_of t v) lm made))

      la : dead d.around ≡ false
      la = held_lives t t' dead no_block_dead w w' h g d.around d.block d.in_block

      in_region : block_parent_of t d.block ≡ Some d.region
      in_region = sym (h.block_parents d.block refl) ∙ d.in_region

      up : (y : ℕ) × (block_parent_operation_of t d.block ≡ Some y)
      up = parent_holder t d.around d.block w.joined (sym (h.parents d.around la) ∙ d.in_block)

      q : HasBlockPlace t d.block up.0
      q = block_place_of t w d.block up.0 up.1

      listed : In d.region (regions_of t up.0)
      listed = subst (λ r. In r (regions_of t up.0)) (some_is (sym q.in_region ∙ in_region)) (in_slice (regions_of t up.0) q.index q.region q.listed)

      layout : layout_of t' d.region ≡ layout_of t d.region
      layout = h.layouts up.0 d.region (holder_old up.0 d.region listed) listed ∙ swept_all no_block_dead (layout_of t d.region) (λ b j. refl)

      passing : (entry : ℕ) (before done rest : List ℕ) → first_of (layout_of t d.region) None ≡ Some entry → Path t entry d.block before → body_of t d.block ≡ done ++ d.around ∷ rest → HasPassed t (definition_of t v) before d.block done
      passing entry before done rest fe pe be =
          let there : body_of t' d.block ≡ swept dead done ++ d.around ∷ swept dead rest = h.bodies d.block refl ∙ ap (swept dead) be ∙ swept_split dead d.around rest done la in
          passed_back (definition_of t v) lm before d.block done (subst (λ x. HasPassed t' x before d.block (swept dead done)) def (d.passes entry before (swept dead done) (swept dead rest) (ap (λ xs. first_of xs None) layout ∙ fe) (path_forth entry d.block before pe) there))

  defined : WellDefined m t root
  defined = record {
    no_successors = sym (h.successors root left) ∙ f.defined.no_successors;
    own_values = λ k v i j. by_age k (λ d. (p.uses root f k v d j).own i) (λ lk.
        let lm = h.values k v lk j in
        let def = made_same t t' dead no_block_dead w w' h v (w.joined.operands k v j) lm in
        made_back t t' dead no_block_dead w w' h g root (definition_of t v) (subst (IsDefiningOperationInside t' root) def (f.defined.own_values k v (forth k lk i) (old_operand k v lk j))));
    dominance = λ k r i j. ssa k r i j;
    forwards = λ k i b o ins e br s. forwards k i b o ins e br s;
    terminators = λ k b x i e tr q.
        let lk = reported k (λ d. true≢false (sym tr ∙ p.plain k x d e)) in
        last_put b k (f.defined.terminators k b x (forth k lk i) (ap (λ z. z.head) (h.rows k lk) ∙ e) tr (h.parents k lk ∙ q));
    unused = λ k v user i ne j u.
        let lk = reported k (λ d. ne (p.successors k d)) in
        by_age user (λ d. (p.uses root f user v d u).no_jumper k i ne j) (λ lu.
        f.defined.unused k v user (forth k lk i) (λ e. ne (sym (h.successors k lk) ∙ e)) (subst (In v) (sym (ap (λ z. z.results) (h.rows k lk))) j) (old_operand user v lu u));
    dominated = λ user v i made. by_age user (λ d. (p.uses root f user v d i).dominated made) (λ l. dominated user v l i made);
  }
    where
      ssa : (k r : ℕ) → IsWithin t root k → In r (regions_of t k) → IsTrue (has_ssa t r)
      ssa k r i j =
          let lk = holder_old k r j in
          let rows = h.rows k lk in
          let j' : In r (regions_of t' k) = subst (In r) (sym (ap (λ z. z.regions) rows)) j in
          let x = slice_in (regions_of t k) r j in
          let y = slice_in (regions_of t' k) r j' in
          let here : region_parent_of t r ≡ Some k = ap op_of_slot (w.joined.regions k x.0 r x.1) in
          let there : region_parent_of t' r ≡ Some k = ap op_of_slot (w'.joined.regions k y.0 r y.1) in
          let old : IsTrue (has_ssa_at t' (Some k)) = subst (λ o. IsTrue (has_ssa_at t' o)) there (f.defined.dominance k r (within_forth t t' dead no_block_dead w w' h root k lk i).0 j') in
          subst (λ o. IsTrue (has_ssa_at t o)) (sym here) (subst (λ z. IsTrue (ssa_in z)) (ap (λ z. z.head) rows) old)

      forwards : (k i b : ℕ) (o : Operation) → IsInside t root k → op_at t k ≡ Some o → IsTrue (m.is_branch o.head) → slice_get o.successors i ≡ Some b → length (m.forwarded (shape_of m t o) i) ≡ length (arguments_of t b)
      forwards k i b o ins e br s =
          let lk = jumper_old k b (subst (In b) (sym (op_shows t k o e).successors) (in_slice o.successors i b s)) in
          ap (λ z. length (m.forwarded z i)) (shape_swept t t' dead no_block_dead w w' h m k o lk e) ∙ f.defined.forwards k i b o (forth k lk ins) (op_same t t' dead no_block_dead w w' h k lk ∙ e) br s ∙ ap length (h.arguments b refl)

  linked : IsWellLinked m t root
  linked = record {
    edges = λ k s i held. edge k s i held;
    admitted = λ k i. admit k i (dead k) refl;
  }
    where
      held_forth : (k s : ℕ) → dead k ≡ false → IsInside t root k ⊎ HoldsBlock t root s → IsInside t' root k ⊎ HoldsBlock t' root s
      held_forth k s l (inl i) = inl (forth k l i)
      held_forth k s l (inr x) = let y = block_place_forth t t' dead no_block_dead w w' h s x.0 refl x.1 in inr (x.0, y.0, (within_forth t t' dead no_block_dead w w' h root x.0 y.1 x.2).0)

      edge : (k s : ℕ) → In s (successors_of t k) → IsInside t root k ⊎ HoldsBlock t root s → EndsBlock t k
      edge k s i held =
          let lk = jumper_old k s i in
          let ends = f.linked.edges k s (old_target k s i) (held_forth k s lk held) in
          record {
            block = ends.block;
            in_block = sym (h.parents k lk) ∙ ends.in_block;
            last = last_put ends.block k ends.last;
            own_region = λ z j. sym (h.block_parents z refl) ∙ ends.own_region z (old_target k z j) ∙ h.block_parents ends.block refl;
          }

      admit : (k : ℕ) → IsWithin t root k → (b : Bool) → dead k ≡ b → IsAdmitted m t k
      admit k i true d = p.admitted k d
      admit k i false lk = admitted_same m t' t k (sym (ap (λ z. z.head) (h.rows k lk))) (sym (ap length (h.operands k lk))) (sym (ap (λ z. length z.results) (h.rows k lk))) (sym (ap length (h.successors k lk))) (sym (ap (λ z. length z.regions) (h.rows k lk))) (f.linked.admitted k (within_forth t t' dead no_block_dead w w' h root k lk i).0)

  pub put_fit : IsFit m t root
  put_fit = record { live = subst (λ z. IsSome z.head) (h.rows root left) f.live; chosen = λ x e. f.chosen x (ap (λ z. z.head) (h.rows root left) ∙ e); defined = defined; linked = linked }
