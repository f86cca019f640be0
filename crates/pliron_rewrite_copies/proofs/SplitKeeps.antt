-- Runs are kept where a block is split.
use Rattle.std.proofs.Common.{◌≡◌, ◌≢◌, ◌⊎◌, inl, inr, ⊎_elim, ℕ, ◌<◌, ◌≤◌, true≢false, List, [], ◌∷◌, ◌++◌, length, Option, Some, None, IsSome, is_some, IsTrue, slice_get, refl, sym, ap, ◌∙◌, subst, arith, append_assoc}
use Rattle.std.proofs.lemmas.Bool.{cases_eq}
use Rattle.pliron_core.specs.declared.context.Def.{Def}
use Rattle.pliron_core.specs.declared.context.Def.TheVariants.{Result, Argument}
use Rattle.pliron_core.specs.Changes.{IsDefinedInside, IsDefiningOperationInside}
use Rattle.pliron_core.specs.Edges.{succs_from}
use Rattle.pliron_core.specs.Reads.{has_ssa, has_ssa_at, ssa_in}
use Rattle.pliron_core.specs.Tree.{Tree, In, first_of, last_of, IsLive, IsMadeBy, IsInside, IsInside.Directly, IsInside.Deeper, IsWithin, HoldsBlock, head_of, operands_of, successors_of, results_of, regions_of, parent_of, body_of, arguments_of, block_parent_of, layout_of, region_parent_of, block_parent_operation_of, parent_operation_of, definition_of, up_from, op_of_slot, without}
use Rattle.pliron_core.specs.Invariant.{IsTree}
use Rattle.pliron_core.proofs.HoldingLemmas.{some_is, not_none, in_slice, slice_in, maker_is, holder_is, holder_by}
use Rattle.pliron_core.proofs.ListLemmas.{In-left, In-right, In-cases}
use Rattle.pliron_core.proofs.NeighbourLemmas.{last_of-In, first_of-In}
use Rattle.pliron_core.proofs.RowLemmas.{last_of-append}
use Rattle.pliron_laws.specs.Datum.{Head, Meaning}
use Rattle.pliron_laws.specs.Tree.{Operation, op_at, shape_of}
use Rattle.pliron_laws.specs.Agree.{Agree}
use Rattle.pliron_laws.specs.Paths.{Path, Leads}
use Rattle.pliron_laws.specs.Root.{defining_block, HasPassed, IsDominated, WellDefined}
use Rattle.pliron_laws.specs.Linked.{EndsBlock, IsAdmitted, IsWellLinked}
use Rattle.pliron_theory.specs.Keeps.{IsFit}
use Rattle.pliron_theory.specs.Splicing.{IsSpliced}
use Rattle.pliron_laws.proofs.Records.{op_shows}
use Rattle.pliron_theory.proofs.Keys.{split_append}
use Rattle.pliron_theory.proofs.Simulation.{agree_sym}
use Rattle.pliron_theory.proofs.SweptParts.{HasBlockPlace, block_place_of, block_held_at}
use Rattle.pliron_theory.proofs.SweptStays.{admitted_same}
use Rattle.pliron_theory.proofs.SplicedAgree.{op_same, shapes, first_kept, spliced_agree}
use Rattle.pliron_rewrite_copies.specs.Splitting.{JumpsWell, SplittingLaw}
use Rattle.pliron_rewrite_copies.proofs.SplitPlaces.{not_jump, in_t, jump_at, jump_last, stands, block_forth, inside_forth, inside_back, within_back, within_forth, holder_not_jump, to_b, way, made_same, made_forth, made_back, home_back, passed_in_b, passed_elsewhere, split_forth, last_forth, StandsAt, StandsAt.Moved, StandsAt.Same}

module _ (m : Meaning) (t u : Tree) (a b jump : ℕ) (front : List ℕ) (w : IsTree t) (w' : IsTree u) (h : IsSpliced u t a b jump front) (some : body_of u b ≢ []) (root : ℕ) (f : IsFit m t root) (jumps : JumpsWell m u root jump b) where
  root_stays : root ≢ jump
  root_stays = not_jump m t u a b jump front w w' h some root f.live

  old_operand : (k v : ℕ) → k ≢ jump → In v (operands_of u k) → In v (operands_of t k)
  old_operand k v ne i = subst (In v) (sym (h.operands k ne)) i

  dominated_old : (user v : ℕ) → user ≢ jump → In v (operands_of u user) → IsDefinedInside u root v → IsDominated u user v
  dominated_old user v ne i made = at_place (stands m t u a b jump front w w' h some d.around d.block d.in_block)
    where
      d : IsDominated t user v
      d = f.defined.dominated user v (old_operand user v ne i) (made_forth m t u a b jump front w w' h some root user v i made)

      same : definition_of t v ≡ definition_of u v
      same = made_same m t u a b jump front w w' h some user v i

      home : up_from (defining_block u (definition_of u v)) (λ c. block_parent_of u c) ≡ Some d.region
      home = home_back m t u a b jump front w w' h some d.region (definition_of u v) (subst (λ z. up_from (defining_block t z) (λ c. block_parent_of t c) ≡ Some d.region) same d.defined)

      inner : (entry : ℕ) → first_of (layout_of u d.region) None ≡ Some entry → entry ≢ b
      inner entry e s = h.no_entry d.region (e ∙ ap Some s)

      first : (entry : ℕ) → first_of (layout_of u d.region) None ≡ Some entry → first_of (layout_of t d.region) None ≡ Some entry
      first entry e = ap (λ xs. first_of xs None) (h.layouts d.region) ∙ first_kept m u t a b jump front w' w h root (layout_of u d.region) (h.no_entry d.region) ∙ e

      passed_b : d.block ≡ a → (entry : ℕ) (before done rest : List ℕ) → first_of (layout_of u d.region) None ≡ Some entry → Path u entry b before → body_of u b ≡ done ++ d.around ∷ rest → HasPassed u (definition_of u v) before b done
      passed_b z entry [] done rest fe pe be = absurd (inner entry fe pe)
      passed_b z entry (c ∷ cs) done rest fe pe be =
          let s : c ≡ a = to_b m t u a b jump front w w' h some c pe.0 in
          let r = way m t u a b jump front w w' h some entry a cs (inner entry fe) h.apart (subst (λ q. Path u entry q cs) s pe.1) in
          let there = d.passes entry r.blocks (front ++ done) rest (first entry fe) (subst (λ q. Path t entry q r.blocks) (sym z) r.path) (ap (body_of t) z ∙ h.joined ∙ ap (λ l. front ++ l) be ∙ sym (append_assoc front done (d.around ∷ rest))) in
          subst (λ q. HasPassed u (definition_of u v) (q ∷ cs) b done) (sym s) (passed_in_b m t u a b jump front w w' h some (definition_of u v) r.blocks cs done r.same r.ends (subst (λ q. HasPassed t (definition_of u v) r.blocks q (front ++ done)) z (subst (λ q. HasPassed t q r.blocks d.block (front ++ done)) same there)))

      at_place : StandsAt m t u a b jump front w w' h some d.around d.block → IsDominated u user v
      at_place (Moved s z) = record {
        around = d.around;
        holds = within_back m t u a b jump front w w' h some d.around user d.holds;
        block = b;
        region = d.region;
        in_block = s;
        in_region = h.beside ∙ sym (h.block_parents a h.apart) ∙ ap (block_parent_of t) (sym z) ∙ d.in_region;
        defined = home;
        passes = λ entry before done rest fe pe be. passed_b z entry before done rest fe pe be;
      }
      at_place (Same s nb) = record {
        around = d.around;
        holds = within_back m t u a b jump front w w' h some d.around user d.holds;
        block = d.block;
        region = d.region;
        in_block = s;
        in_region = sym (h.block_parents d.block nb) ∙ d.in_region;
        defined = home;
        passes = λ entry before done rest fe pe be.
            let r = way m t u a b jump front w w' h some entry d.block before (inner entry fe) nb pe in
            let p = split_forth m t u a b jump front w w' h some d.around d.block done rest (in_t m t u a b jump front w w' h some d.around d.block d.in_block) nb be in
            passed_elsewhere m t u a b jump front w w' h some (definition_of u v) d.block r.blocks before done r.same r.ends (subst (λ q. HasPassed t q r.blocks d.block done) same (d.passes entry r.blocks done p.0 (first entry fe) r.path p.1));
      }

  defined : WellDefined m u root
  defined = record {
    no_successors = sym (h.successors root root_stays) ∙ f.defined.no_successors;
    own_values = own_values;
    dominance = ssa;
    forwards = forwards;
    terminators = terminators;
    unused = unused;
    dominated = λ user v i made. ⊎_elim (λ s. subst (λ z. IsDominated u z v) (sym s) ((jumps.names v (subst (λ z. In v (operands_of u z)) s i)).dominated made)) (λ ne. dominated_old user v ne i made) (cases_eq user jump);
  }
    where
      own_values : (k v : ℕ) → IsInside u root k → In v (operands_of u k) → IsDefinedInside u root v
      own_values k v i j = ⊎_elim
          (λ s. (jumps.names v (subst (λ z. In v (operands_of u z)) s j)).own (subst (IsInside u root) s i))
          (λ ne. subst (IsDefiningOperationInside u root) (made_same m t u a b jump front w w' h some k v j) (made_back m t u a b jump front w w' h some root (definition_of t v) (f.defined.own_values k v (inside_forth m t u a b jump front w w' h some root k ne i) (old_operand k v ne j))))
          (cases_eq k jump)

      ssa : (k r : ℕ) → IsWithin u root k → In r (regions_of u k) → IsTrue (has_ssa u r)
      ssa k r i j =
          let ne : k ≢ jump = λ s. subst (In r) (ap (regions_of u) s ∙ h.childless) j in
          let rows = h.rows k ne in
          let j' : In r (regions_of t k) = subst (In r) (sym (ap (λ z. z.regions) rows)) j in
          let x = slice_in (regions_of u k) r j in
          let y = slice_in (regions_of t k) r j' in
          let here : region_parent_of u r ≡ Some k = ap op_of_slot (w'.joined.regions k x.0 r x.1) in
          let there : region_parent_of t r ≡ Some k = ap op_of_slot (w.joined.regions k y.0 r y.1) in
          let old : IsTrue (has_ssa_at t (Some k)) = subst (λ z. IsTrue (has_ssa_at t z)) there (f.defined.dominance k r (within_forth m t u a b jump front w w' h some root k ne i) j') in
          subst (λ z. IsTrue (has_ssa_at u z)) (sym here) (subst (λ z. IsTrue (ssa_in z)) (ap (λ z. z.head) rows) old)

      forwards : (k i c : ℕ) (x : Operation) → IsInside u root k → op_at u k ≡ Some x → IsTrue (m.is_branch x.head) → slice_get x.successors i ≡ Some c → length (m.forwarded (shape_of m u x) i) ≡ length (arguments_of u c)
      forwards k i c x ins e br s = ⊎_elim
          (λ q. (jumps.fits (subst (IsInside u root) q ins)).forwards x i c (ap (op_at u) (sym q) ∙ e) br s)
          (λ ne. old ne (op_same m u t a b jump front w' w h root k ne x e))
          (cases_eq k jump)
        where
          old : k ≢ jump → (y : Operation) × (op_at t k ≡ Some y) × (y.head ≡ x.head) × (y.operands ≡ x.operands) × (y.results ≡ x.results) × (y.successors ≡ x.successors) × (y.regions ≡ x.regions) → length (m.forwarded (shape_of m u x) i) ≡ length (arguments_of u c)
          old ne y =
              let nc : c ≢ b = λ q. ne (h.only k (subst (λ z. In z (successors_of u k)) q (subst (In c) (sym (op_shows u k x e).successors) (in_slice x.successors i c s)))) in
              ap (λ z. length (m.forwarded z i)) (shapes m u t a b jump front w' w h root k x y.0 ne e y.1) ∙ f.defined.forwards k i c y.0 (inside_forth m t u a b jump front w w' h some root k ne ins) y.1 (subst (λ z. IsTrue (m.is_branch z)) (sym y.2) br) (ap (λ l. slice_get l i) y.5 ∙ s) ∙ ap length (h.arguments c nc)

      terminators : (k c : ℕ) (x : Head) → IsInside u root k → head_of u k ≡ Some x → IsTrue (m.is_terminator x) → parent_of u k ≡ Some c → last_of None (body_of u c) ≡ Some k
      terminators k c x i e tr p = ⊎_elim
          (λ s. ap (λ z. last_of None (body_of u z)) (some_is (sym p ∙ ap (parent_of u) s ∙ jump_at m t u a b jump front w w' h some)) ∙ jump_last m t u a b jump front w w' h some ∙ ap Some (sym s))
          (λ ne. old ne (parent_of t k) refl)
          (cases_eq k jump)
        where
          old : k ≢ jump → (z : Option ℕ) → parent_of t k ≡ z → last_of None (body_of u c) ≡ Some k
          old ne None q = absurd (none ne)
            where
              none : k ≢ jump → ⊥
              none ne = ⊎_elim (λ s. not_none (sym q ∙ h.moved k (p ∙ ap Some s))) (λ nb. not_none (sym q ∙ h.parents k ne (λ z. nb (some_is (sym p ∙ z))) ∙ p)) (cases_eq c b)
          old ne (Some d) q =
              let y = last_forth m t u a b jump front w w' h some k d (stands m t u a b jump front w w' h some k d q) (f.defined.terminators k d x (inside_forth m t u a b jump front w w' h some root k ne i) (ap (λ z. z.head) (h.rows k ne) ∙ e) tr q) in
              ap (λ z. last_of None (body_of u z)) (some_is (sym p ∙ y.1)) ∙ y.2

      unused : (k v user : ℕ) → IsInside u root k → successors_of u k ≢ [] → In v (results_of u k) → In v (operands_of u user) → ⊥
      unused k v user i out j y = ⊎_elim
          (λ s. (jumps.names v (subst (λ z. In v (operands_of u z)) s y)).no_jumper k i out j)
          (λ ne. ⊎_elim
          (λ s. subst (In v) (ap (results_of u) s ∙ h.no_results) j)
          (λ nk. f.defined.unused k v user (inside_forth m t u a b jump front w w' h some root k nk i) (λ z. out (sym (h.successors k nk) ∙ z)) (subst (In v) (sym (ap (λ z. z.results) (h.rows k nk))) j) (old_operand user v ne y))
          (cases_eq k jump))
          (cases_eq user jump)

  linked : IsWellLinked m u root
  linked = record { edges = edges; admitted = admitted }
    where
      edges : (k s : ℕ) → In s (successors_of u k) → IsInside u root k ⊎ HoldsBlock u root s → EndsBlock u k
      edges k s i held = ⊎_elim
          (λ q. record {
            block = a;
            in_block = ap (parent_of u) q ∙ jump_at m t u a b jump front w w' h some;
            last = jump_last m t u a b jump front w w' h some ∙ ap Some (sym q);
            own_region = λ z j. ap (block_parent_of u) (only z (subst (λ y. In z (successors_of u y)) q j)) ∙ h.beside;
          })
          (λ ne. ended ne (f.linked.edges k s (subst (In s) (sym (h.successors k ne)) i) (held_forth ne held)))
          (cases_eq k jump)
        where
          only : (z : ℕ) → In z (successors_of u jump) → z ≡ b
          only z j = ⊎_elim (λ e. e) (λ n. absurd n) (subst (In z) h.goes j)

          not_b : k ≢ jump → (z : ℕ) → In z (successors_of u k) → z ≢ b
          not_b ne z j e = ne (h.only k (subst (λ y. In y (successors_of u k)) e j))

          held_forth : k ≢ jump → IsInside u root k ⊎ HoldsBlock u root s → IsInside t root k ⊎ HoldsBlock t root s
          held_forth ne (inl x) = inl (inside_forth m t u a b jump front w w' h some root k ne x)
          held_forth ne (inr x) = inr (x.0, block_forth m t u a b jump front w w' h some s x.0 (not_b ne s i) x.1, within_forth m t u a b jump front w w' h some root x.0 (holder_not_jump m t u a b jump front w w' h some s x.0 x.1) x.2)

          ended : k ≢ jump → EndsBlock t k → EndsBlock u k
          ended ne ends =
              let y = last_forth m t u a b jump front w w' h some k ends.block (stands m t u a b jump front w w' h some k ends.block ends.in_block) ends.last in
              record {
                block = y.0;
                in_block = y.1;
                last = y.2;
                own_region = λ z j. sym (h.block_parents z (not_b ne z j)) ∙ ends.own_region z (subst (In z) (sym (h.successors k ne)) j) ∙ sym y.3;
              }

      admitted : (k : ℕ) → IsWithin u root k → IsAdmitted m u k
      admitted k i = ⊎_elim
          (λ s. subst (IsAdmitted m u) (sym s) (at_jump (subst (IsWithin u root) s i)))
          (λ ne. admitted_same m t u k (sym (ap (λ z. z.head) (h.rows k ne))) (sym (ap length (h.operands k ne))) (sym (ap (λ z. length z.results) (h.rows k ne))) (sym (ap length (h.successors k ne))) (sym (ap (λ z. length z.regions) (h.rows k ne))) (f.linked.admitted k (within_forth m t u a b jump front w w' h some root k ne i)))
          (cases_eq k jump)
        where
          at_jump : IsWithin u root jump → IsAdmitted m u jump
          at_jump (inl e) = absurd (root_stays (sym e))
          at_jump (inr j) = (jumps.fits j).admitted

  pub split_fit : IsFit m u root
  split_fit = record { live = subst (λ z. IsSome z.head) (h.rows root root_stays) f.live; chosen = λ x e. f.chosen x (ap (λ z. z.head) (h.rows root root_stays) ∙ e); defined = defined; linked = linked }

  pub split_agree : Agree m t u root
  split_agree = agree_sym (spliced_agree m u t a b jump front w' w h root linked.edges defined jumps.goes root_stays split_fit.live)

  pub split_head : head_of u root ≡ head_of t root
  split_head = ap (λ z. z.head) (sym (h.rows root root_stays))

pub split_keeps : SplittingLaw
split_keeps m t u a b jump front w w' h some longer fresh jumps = record {
  agrees = λ root f l. split_agree m t u a b jump front w w' h some root f (jumps root f);
  heads = λ root f l. split_head m t u a b jump front w w' h some root f (jumps root f);
  stays = λ root f l. split_fit m t u a b jump front w w' h some root f (jumps root f);
  grows = longer;
  fewer = λ root lt l. subst (λ z. IsSome z.head) (sym (h.rows root (λ s. old root s lt))) l;
}
  where
    old : (root : ℕ) → root ≡ jump → root < length t.operations → ⊥
    old root s lt = let le : length t.operations ≤ root = subst (λ z. length t.operations ≤ z) (sym s) fresh in absurd (omega (arith, lt, le))
