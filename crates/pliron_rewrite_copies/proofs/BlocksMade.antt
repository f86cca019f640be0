-- Runs are kept where blocks are made that nothing leads to.
use Rattle.std.proofs.Common.{◌≡◌, ◌≢◌, ◌⊎◌, inl, inr, ⊎_elim, ℕ, ◌<◌, Bool, true, false, true≢false, List, [], ◌∷◌, ◌++◌, length, Option, Some, None, IsSome, IsTrue, slice_get, refl, sym, ap, ◌∙◌, subst, arith}
use Rattle.pliron_core.specs.declared.context.Def.{Def}
use Rattle.pliron_core.specs.declared.context.Def.TheVariants.{Result, Argument}
use Rattle.pliron_core.specs.Changes.{IsDefinedInside, IsDefiningOperationInside}
use Rattle.pliron_core.specs.Edges.{succs_from}
use Rattle.pliron_core.specs.Reads.{has_ssa, has_ssa_at, ssa_in}
use Rattle.pliron_core.specs.Tree.{Tree, In, first_of, last_of, IsLive, IsInside, IsWithin, HoldsBlock, head_of, operands_of, successors_of, results_of, regions_of, parent_of, body_of, arguments_of, block_parent_of, layout_of, region_parent_of, block_parent_operation_of, definition_of, up_from, op_of_slot}
use Rattle.pliron_core.specs.Invariant.{IsTree}
use Rattle.pliron_core.proofs.HoldingLemmas.{some_is, not_none, some_of, in_slice, slice_in, block_held, past_live}
use Rattle.pliron_core.proofs.NeighbourLemmas.{last_of-In}
use Rattle.pliron_laws.specs.Datum.{Head, Meaning}
use Rattle.pliron_laws.specs.Tree.{Operation, op_at, shape_of}
use Rattle.pliron_laws.specs.Agree.{Agree}
use Rattle.pliron_laws.specs.Paths.{Path, Leads}
use Rattle.pliron_laws.specs.Root.{defining_block, HasPassed, IsDominated, WellDefined}
use Rattle.pliron_laws.specs.Linked.{EndsBlock, IsAdmitted, IsWellLinked}
use Rattle.pliron_theory.specs.Keeps.{IsFit}
use Rattle.pliron_theory.specs.Sweeping.{swept, is_maker_dead, IsSwept, AreNotLive, AreAway}
use Rattle.pliron_laws.proofs.Records.{op_shows}
use Rattle.pliron_theory.proofs.Simulation.{agree_sym}
use Rattle.pliron_theory.proofs.SweptLists.{swept_all, first_swept}
use Rattle.pliron_theory.proofs.SweptParts.{HasBlockPlace, block_place_of, block_place_forth, inside_forth, within_forth, made_forth, made_same, held_lives, within_back, made_back, gone_away, lives}
use Rattle.pliron_theory.proofs.SweptRecords.{op_same, shape_swept}
use Rattle.pliron_theory.proofs.SweptAgree.{swept_agree}
use Rattle.pliron_theory.proofs.SweptStays.{admitted_same}
use Rattle.pliron_rewrite_copies.specs.Copies.{IsUsedBeside}
use Rattle.pliron_rewrite_copies.specs.Making.{AreMadeAnew, IsMadeWell, MakingBlocks}

module _ (t u : Tree) (new new_block : ℕ → Bool) (w : IsTree t) (w' : IsTree u) (h : AreMadeAnew t u new new_block) where
  away : AreAway t new new_block
  away = gone_away t new new_block w h.absent

  -- what is in a block that was there was there
  old_in : (k b : ℕ) → parent_of u k ≡ Some b → new_block b ≡ false → new k ≡ false
  old_in k b e l = go (new k) refl
    where
      go : (x : Bool) → new k ≡ x → new k ≡ false
      go true q = absurd (true≢false (sym (h.in_blocks k b e q) ∙ l))
      go false q = q

  body_same : (b : ℕ) → new_block b ≡ false → body_of t b ≡ body_of u b
  body_same b l = h.swept.bodies b l ∙ swept_all new (body_of u b) (λ k i. old_in k b (w'.bodies.owned k b i) l)

  -- a path from a block that was there is one before
  way_forth : (a b : ℕ) (before : List ℕ) → new_block a ≡ false → Path u a b before → (new_block b ≡ false) × Path t a b before
  way_forth a b [] l p = (ap new_block (sym p) ∙ l, p)
  way_forth a b (c ∷ before) l p =
      let r = way_forth a c before l p.1 in
      let s = go r.0 (last_of None (body_of u c)) refl p.0.successor in
      (s.0, (record { successor = s.1; same_region = h.swept.block_parents b s.0 ∙ p.0.same_region ∙ sym (h.swept.block_parents c r.0) }, r.1))
    where
      go : new_block c ≡ false → (z : Option ℕ) → last_of None (body_of u c) ≡ z → In b (succs_from u z) → (new_block b ≡ false) × In b (succs_from t (last_of None (body_of t c)))
      go lc None q i = absurd i
      go lc (Some k) q i =
          let lk = old_in k c (w'.bodies.owned k c (last_of-In k (body_of u c) q)) lc in
          (h.swept.targets k b lk i, subst (λ z. In b (succs_from t z)) (sym (ap (last_of None) (body_same c lc) ∙ q)) (subst (In b) (sym (h.swept.successors k lk)) i))

  -- the region of a block, and the operation that holds it
  pub record Stands (b region : ℕ) : Type 0 where
    pub holder : ℕ
    pub held : block_parent_operation_of u b ≡ Some holder
    pub listed : In region (regions_of u holder)

  stands : (b region : ℕ) → block_parent_of u b ≡ Some region → Stands b region
  stands b region e =
      let q = block_held u b w'.joined (subst IsSome (sym e) refl) in
      let p = block_place_of u w' b q.1 q.5 in
      record { holder = q.1; held = q.5; listed = subst (λ r. In r (regions_of u q.1)) (some_is (sym p.in_region ∙ e)) (in_slice (regions_of u q.1) p.index p.region p.listed) }

  -- an entry to a region of what was there was there
  entry_old : (b region entry : ℕ) → block_parent_of u b ≡ Some region → new_block b ≡ false → first_of (layout_of u region) None ≡ Some entry → new_block entry ≡ false
  entry_old b region entry e l q = let s = stands b region e in h.swept.entries s.holder region entry (h.swept.block_holders b s.holder s.held l) s.listed q

  entry_forth : (b region entry : ℕ) → block_parent_of u b ≡ Some region → new_block b ≡ false → first_of (layout_of u region) None ≡ Some entry → first_of (layout_of t region) None ≡ Some entry
  entry_forth b region entry e l q =
      let s = stands b region e in
      ap (λ xs. first_of xs None) (h.swept.layouts s.holder region (h.swept.block_holders b s.holder s.held l) s.listed) ∙ first_swept new_block entry (layout_of u region) (entry_old b region entry e l q) q

  module _ (m : Meaning) (root : ℕ) (f : IsFit m t root) (well : (k : ℕ) → new k ≡ true → IsMadeWell m u root k) where
    left : new root ≡ false
    left = lives t new new_block w h.absent root f.live

    forth : (k : ℕ) → new k ≡ false → IsInside u root k → IsInside t root k
    forth k l i = (inside_forth u t new new_block w' w h.swept root k l i).0

    old_operand : (k v : ℕ) → new k ≡ false → In v (operands_of u k) → In v (operands_of t k)
    old_operand k v l i = subst (In v) (sym (h.swept.operands k l)) i

    made_before : (k v : ℕ) (l : new k ≡ false) (i : In v (operands_of u k)) → definition_of t v ≡ definition_of u v
    made_before k v l i = made_same u t new new_block w' w h.swept v (w'.joined.operands k v i) (h.swept.values k v l i)

    own_values : (k v : ℕ) (x : Bool) → new k ≡ x → IsInside u root k → In v (operands_of u k) → IsDefinedInside u root v
    own_values k v true q i j = (well k q).own_values v i j
    own_values k v false l i j = made_back u t new new_block w' w h.swept away root (definition_of u v) (subst (IsDefiningOperationInside t root) (made_before k v l j) (f.defined.own_values k v (forth k l i) (old_operand k v l j)))

    home_back : (region : ℕ) (d : Option Def) → is_maker_dead new new_block d ≡ false → up_from (defining_block t d) (λ b. block_parent_of t b) ≡ Some region → up_from (defining_block u d) (λ b. block_parent_of u b) ≡ Some region
    home_back region None l e = e
    home_back region (Some (Argument b j)) l e = sym (h.swept.block_parents b l) ∙ e
    home_back region (Some (Result k j)) l e = go (parent_of u k) refl (ap (λ z. up_from z (λ b. block_parent_of t b)) (sym (h.swept.parents k l)) ∙ e)
      where
        go : (z : Option ℕ) → parent_of u k ≡ z → up_from z (λ b. block_parent_of t b) ≡ Some region → up_from z (λ b. block_parent_of u b) ≡ Some region
        go None q e = e
        go (Some b) q e = sym (h.swept.block_parents b (h.swept.holders k b q l)) ∙ e

    passed_back : (d : Option Def) → is_maker_dead new new_block d ≡ false → (before : List ℕ) (b : ℕ) (done : List ℕ) → HasPassed t d before b done → HasPassed u d before b done
    passed_back None l before b done q = q
    passed_back (Some (Argument c j)) l before b done q = q
    passed_back (Some (Result k j)) l before b done (inl i) = inl i
    passed_back (Some (Result k j)) l before b done (inr x) = inr (x.0, sym (h.swept.parents k l) ∙ x.1, x.2)

    dominated_old : (user v : ℕ) → new user ≡ false → In v (operands_of u user) → IsDefinedInside u root v → IsDominated u user v
    dominated_old user v l i made = record {
      around = d.around;
      holds = within_back u t new new_block w' w h.swept away d.around user d.holds;
      block = d.block;
      region = d.region;
      in_block = in_block;
      in_region = in_region;
      defined = home_back d.region (definition_of u v) lm (subst (λ z. up_from (defining_block t z) (λ b. block_parent_of t b) ≡ Some d.region) same d.defined);
      passes = λ entry before done rest fe pe be.
          let there = way_forth entry d.block before (entry_old d.block d.region entry in_region lb fe) pe in
          passed_back (definition_of u v) lm before d.block done (subst (λ z. HasPassed t z before d.block done) same (d.passes entry before done rest (entry_forth d.block d.region entry in_region lb fe) there.1 (body_same d.block lb ∙ be)));
    }
      where
        lm : is_maker_dead new new_block (definition_of u v) ≡ false
        lm = h.swept.values user v l i

        same : definition_of t v ≡ definition_of u v
        same = made_before user v l i

        d : IsDominated t user v
        d = f.defined.dominated user v (old_operand user v l i) (subst (IsDefiningOperationInside t root) (sym same) (made_forth u t new new_block w' w h.swept root (definition_of u v) lm made))

        la : new d.around ≡ false
        la = held_lives u t new new_block w' w h.swept away d.around d.block d.in_block

        in_block : parent_of u d.around ≡ Some d.block
        in_block = sym (h.swept.parents d.around la) ∙ d.in_block

        lb : new_block d.block ≡ false
        lb = h.swept.holders d.around d.block in_block la

        in_region : block_parent_of u d.block ≡ Some d.region
        in_region = sym (h.swept.block_parents d.block lb) ∙ d.in_region

    dominated : (user v : ℕ) (x : Bool) → new user ≡ x → In v (operands_of u user) → IsDefinedInside u root v → IsDominated u user v
    dominated user v true q i made = (well user q).dominated v i made
    dominated user v false l i made = dominated_old user v l i made

    -- an old operation ends its block where it did
    last_old : (k b : ℕ) → new k ≡ false → parent_of u k ≡ Some b → last_of None (body_of t b) ≡ Some k → last_of None (body_of u b) ≡ Some k
    last_old k b l e q = ap (last_of None) (sym (body_same b (h.swept.holders k b e l))) ∙ q

    terminators : (k b : ℕ) (x : Head) (z : Bool) → new k ≡ z → IsInside u root k → head_of u k ≡ Some x → IsTrue (m.is_terminator x) → parent_of u k ≡ Some b → last_of None (body_of u b) ≡ Some k
    terminators k b x true q i e tr p = (well k q).terminator b x i e tr p
    terminators k b x false l i e tr p = last_old k b l p (f.defined.terminators k b x (forth k l i) (ap (λ z. z.head) (h.swept.rows k l) ∙ e) tr (h.swept.parents k l ∙ p))

    forwards : (k i b : ℕ) (x : Operation) (z : Bool) → new k ≡ z → IsInside u root k → op_at u k ≡ Some x → IsTrue (m.is_branch x.head) → slice_get x.successors i ≡ Some b → length (m.forwarded (shape_of m u x) i) ≡ length (arguments_of u b)
    forwards k i b x true q ins e br s = ((well k q).fits ins).forwards x i b e br s
    forwards k i b x false l ins e br s =
        let target = h.swept.targets k b l (subst (In b) (sym (op_shows u k x e).successors) (in_slice x.successors i b s)) in
        ap (λ z. length (m.forwarded z i)) (shape_swept u t new new_block w' w h.swept m k x l e) ∙ f.defined.forwards k i b x (forth k l ins) (op_same u t new new_block w' w h.swept k l ∙ e) br s ∙ ap length (h.swept.arguments b target)

    ssa : (k r : ℕ) (z : Bool) → new k ≡ z → IsWithin u root k → In r (regions_of u k) → IsTrue (has_ssa u r)
    ssa k r true q (inl e) j = absurd (true≢false (sym q ∙ ap new e ∙ left))
    ssa k r true q (inr i) j = (well k q).dominance r i j
    ssa k r false l i j =
        let rows = h.swept.rows k l in
        let j' : In r (regions_of t k) = subst (In r) (sym (ap (λ z. z.regions) rows)) j in
        let x = slice_in (regions_of u k) r j in
        let y = slice_in (regions_of t k) r j' in
        let here : region_parent_of u r ≡ Some k = ap op_of_slot (w'.joined.regions k x.0 r x.1) in
        let there : region_parent_of t r ≡ Some k = ap op_of_slot (w.joined.regions k y.0 r y.1) in
        let old : IsTrue (has_ssa_at t (Some k)) = subst (λ z. IsTrue (has_ssa_at t z)) there (f.defined.dominance k r (within_forth u t new new_block w' w h.swept root k l i).0 j') in
        subst (λ z. IsTrue (has_ssa_at u z)) (sym here) (subst (λ z. IsTrue (ssa_in z)) (ap (λ z. z.head) rows) old)

    unused : (k v user : ℕ) (x z : Bool) → new k ≡ x → new user ≡ z → IsInside u root k → successors_of u k ≢ [] → In v (results_of u k) → In v (operands_of u user) → ⊥
    unused k v user x true q lu i ne j y = (well user lu).no_jumper v k y i ne j
    unused k v user true false q lu i ne j y =
        let n = slice_in (results_of u k) v j in
        true≢false (sym q ∙ ap (is_maker_dead new new_block) (sym (w'.joined.results k n.0 v n.1)) ∙ h.swept.values user v lu y)
    unused k v user false false l lu i ne j y = f.defined.unused k v user (forth k l i) (λ e. ne (sym (h.swept.successors k l) ∙ e)) (subst (In v) (sym (ap (λ z. z.results) (h.swept.rows k l))) j) (old_operand user v lu y)

    defined : WellDefined m u root
    defined = record {
      no_successors = sym (h.swept.successors root left) ∙ f.defined.no_successors;
      own_values = λ k v i j. own_values k v (new k) refl i j;
      dominance = λ k r i j. ssa k r (new k) refl i j;
      forwards = λ k i b x ins e br s. forwards k i b x (new k) refl ins e br s;
      terminators = λ k b x i e tr p. terminators k b x (new k) refl i e tr p;
      unused = λ k v user i ne j y. unused k v user (new k) (new user) refl refl i ne j y;
      dominated = λ user v i made. dominated user v (new user) refl i made;
    }

    held_forth : (k s : ℕ) → new k ≡ false → In s (successors_of u k) → IsInside u root k ⊎ HoldsBlock u root s → IsInside t root k ⊎ HoldsBlock t root s
    held_forth k s l i (inl x) = inl (forth k l x)
    held_forth k s l i (inr x) =
        let y = block_place_forth u t new new_block w' w h.swept s x.0 (h.swept.targets k s l i) x.1 in
        inr (x.0, y.0, (within_forth u t new new_block w' w h.swept root x.0 y.1 x.2).0)

    edges : (k s : ℕ) (z : Bool) → new k ≡ z → In s (successors_of u k) → IsInside u root k ⊎ HoldsBlock u root s → EndsBlock u k
    edges k s true q i held = (well k q).edges s i held
    edges k s false l i held =
        let ends = f.linked.edges k s (subst (In s) (sym (h.swept.successors k l)) i) (held_forth k s l i held) in
        let here : parent_of u k ≡ Some ends.block = sym (h.swept.parents k l) ∙ ends.in_block in
        record {
          block = ends.block;
          in_block = here;
          last = last_old k ends.block l here ends.last;
          own_region = λ z j. sym (h.swept.block_parents z (h.swept.targets k z l j)) ∙ ends.own_region z (subst (In z) (sym (h.swept.successors k l)) j) ∙ h.swept.block_parents ends.block (h.swept.holders k ends.block here l);
        }

    admitted : (k : ℕ) (z : Bool) → new k ≡ z → IsWithin u root k → IsAdmitted m u k
    admitted k true q (inl e) = absurd (true≢false (sym q ∙ ap new e ∙ left))
    admitted k true q (inr i) = ((well k q).fits i).admitted
    admitted k false l i = admitted_same m t u k (sym (ap (λ z. z.head) (h.swept.rows k l))) (sym (ap length (h.swept.operands k l))) (sym (ap (λ z. length z.results) (h.swept.rows k l))) (sym (ap length (h.swept.successors k l))) (sym (ap (λ z. length z.regions) (h.swept.rows k l))) (f.linked.admitted k (within_forth u t new new_block w' w h.swept root k l i).0)

    linked : IsWellLinked m u root
    linked = record { edges = λ k s i held. edges k s (new k) refl i held; admitted = λ k i. admitted k (new k) refl i }

    pub made_fit : IsFit m u root
    made_fit = record { live = subst (λ z. IsSome z.head) (h.swept.rows root left) f.live; chosen = λ x e. f.chosen x (ap (λ z. z.head) (h.swept.rows root left) ∙ e); defined = defined; linked = linked }

    pub made_agree : Agree m t u root
    made_agree = agree_sym (swept_agree m u t new new_block w' w h.swept root linked.edges defined (λ k b i q e l. absurd (true≢false (sym (h.in_blocks k b e q) ∙ l))) left made_fit.live)

    pub made_head : head_of u root ≡ head_of t root
    made_head = ap (λ z. z.head) (sym (h.swept.rows root left))

  -- no path comes to a block that was made in a region that was there
  pub unreached : (user v : ℕ) → (x : IsUsedBeside u (λ b. 0) user v) → new_block x.block ≡ true → ((k : ℕ) → block_parent_operation_of u x.block ≡ Some k → new k ≡ false) → IsDominated u user v
  unreached user v x q old = record {
    around = x.around;
    holds = x.holds;
    block = x.block;
    region = r.0;
    in_block = x.in_block;
    in_region = r.1;
    defined = ap (λ z. up_from z (λ b. block_parent_of u b)) x.defined ∙ sym x.beside ∙ r.1;
    passes = λ entry before done rest fe pe be. absurd (true≢false (sym q ∙ never entry before fe pe));
  }
    where
      r : (r : ℕ) × (block_parent_of u x.block ≡ Some r)
      r = some_of (block_parent_of u x.block) (w'.joined.all_in_place x.around x.block x.in_block).1

      never : (entry : ℕ) (before : List ℕ) → first_of (layout_of u r.0) None ≡ Some entry → Path u entry x.block before → new_block x.block ≡ false
      never entry before fe pe =
          let s = stands x.block r.0 r.1 in
          (way_forth entry x.block before (h.swept.entries s.holder r.0 entry (old s.holder s.held) s.listed fe) pe).0

pub blocks_made : MakingBlocks
blocks_made = record {
  made = λ m t u new new_block w w' h longer well. record {
    agrees = λ root f l. made_agree t u new new_block w w' h m root f (well root f);
    heads = λ root f l. made_head t u new new_block w w' h m root f (well root f);
    stays = λ root f l. made_fit t u new new_block w w' h m root f (well root f);
    grows = longer;
    fewer = λ root lt l. before t u new new_block h root lt l (new root) refl;
  };
  dominated = λ t u new new_block user v w w' h x q old. unreached t u new new_block w w' h user v x q old;
}
  where
    before : (t u : Tree) (new new_block : ℕ → Bool) → AreMadeAnew t u new new_block → (root : ℕ) → root < length t.operations → IsLive u root → (z : Bool) → new root ≡ z → IsLive t root
    before t u new new_block h root lt l true q = let le = h.fresh root q in absurd (omega (arith, lt, le))
    before t u new new_block h root lt l false q = subst (λ z. IsSome z.head) (sym (h.swept.rows root q)) l
