-- Runs are kept where renamed operands become what they were.
use Rattle.std.proofs.Common.{◌≡◌, ◌≢◌, ◌⊎◌, inl, inr, ⊎_elim, ℕ, List, [], ◌∷◌, map, length, Option, Some, None, IsSome, IsTrue, slice_get, refl, sym, ap, ◌∙◌, subst, arith}
use Rattle.std.proofs.lemmas.Bool.{cases_eq}
use Rattle.std.proofs.lemmas.List.{length-map}
use Rattle.pliron_core.specs.declared.context.Def.{Def}
use Rattle.pliron_core.specs.declared.context.Def.TheVariants.{Result, Argument}
use Rattle.pliron_core.specs.Changes.{IsDefiningOperationInside}
use Rattle.pliron_core.specs.Edges.{succs_of, succs_from}
use Rattle.pliron_core.specs.Reads.{has_ssa, has_ssa_at, ssa_in}
use Rattle.pliron_core.specs.Tree.{Tree, In, first_of, last_of, IsLive, IsInside, IsWithin, HoldsBlock, head_of, operands_of, successors_of, results_of, regions_of, parent_of, body_of, arguments_of, block_parent_of, layout_of, region_parent_of, definition_of, up_from, op_of_slot}
use Rattle.pliron_laws.specs.Datum.{Head, Meaning}
use Rattle.pliron_laws.specs.Tree.{Operation, op_at, shape_of}
use Rattle.pliron_laws.specs.Paths.{Path}
use Rattle.pliron_laws.specs.Root.{defining_block, HasPassed, IsDominated, WellDefined}
use Rattle.pliron_laws.specs.Linked.{EndsBlock, IsWellLinked}
use Rattle.pliron_theory.specs.Keeps.{IsFit, KeepsRuns}
use Rattle.pliron_theory.specs.Renaming.{IsRenamed, MayUse}
use Rattle.pliron_theory.proofs.KeptPlaces.{KeepsPlaces, same_block_holder, inside_forth, inside_back, within_forth, within_back}
use Rattle.pliron_theory.proofs.Renamed.{op_renamed, shape_renamed}
use Rattle.pliron_theory.proofs.Simulation.{agree_sym}
use Rattle.pliron_theory.proofs.SweptStays.{admitted_same}
use Rattle.pliron_rewrite_copies.specs.Adding.{RenamingBackLaw}
use Rattle.pliron_rewrite_copies.proofs.Maps.{in_map}

module _ (m : Meaning) (t u : Tree) (rename : ℕ → ℕ) (h : IsRenamed u t rename) where
  places : KeepsPlaces u t
  places = record { parents = h.parents; block_parents = h.block_parents; slots = h.slots }

  succs_same : (b : ℕ) → succs_of t b ≡ succs_of u b
  succs_same b = ap (λ xs. succs_from t (last_of None xs)) (h.bodies b) ∙ go (last_of None (body_of u b))
    where
      go : (z : Option ℕ) → succs_from t z ≡ succs_from u z
      go None = refl
      go (Some k) = h.successors k

  path_back : (a b : ℕ) (before : List ℕ) → Path u a b before → Path t a b before
  path_back a b [] p = p
  path_back a b (c ∷ before) p = (record { successor = subst (In b) (sym (succs_same c)) p.0.successor; same_region = h.block_parents b ∙ p.0.same_region ∙ sym (h.block_parents c) }, path_back a c before p.1)

  passed_back : (d : Option Def) (before : List ℕ) (b : ℕ) (done : List ℕ) → HasPassed t d before b done → HasPassed u d before b done
  passed_back None before b done p = p
  passed_back (Some (Argument c j)) before b done p = p
  passed_back (Some (Result k j)) before b done (inl i) = inl i
  passed_back (Some (Result k j)) before b done (inr x) = inr (x.0, sym (h.parents k) ∙ x.1, x.2)

  home_back : (region : ℕ) (d : Option Def) → up_from (defining_block t d) (λ b. block_parent_of t b) ≡ Some region → up_from (defining_block u d) (λ b. block_parent_of u b) ≡ Some region
  home_back region None e = e
  home_back region (Some (Argument b j)) e = sym (h.block_parents b) ∙ e
  home_back region (Some (Result k j)) e = go (parent_of u k) (ap (λ z. up_from z (λ b. block_parent_of t b)) (sym (h.parents k)) ∙ e)
    where
      go : (z : Option ℕ) → up_from z (λ b. block_parent_of t b) ≡ Some region → up_from z (λ b. block_parent_of u b) ≡ Some region
      go None e = e
      go (Some b) e = sym (h.block_parents b) ∙ e

  made_back : (root : ℕ) (d : Option Def) → IsDefiningOperationInside t root d → IsDefiningOperationInside u root d
  made_back root None i = i
  made_back root (Some (Result k j)) i = inside_back places root k i
  made_back root (Some (Argument b j)) i = (i.0, sym (same_block_holder places b) ∙ i.1, within_back places root i.0 i.2)

  made_forth : (root : ℕ) (d : Option Def) → IsDefiningOperationInside u root d → IsDefiningOperationInside t root d
  made_forth root None i = i
  made_forth root (Some (Result k j)) i = inside_forth places root k i
  made_forth root (Some (Argument b j)) i = (i.0, same_block_holder places b ∙ i.1, within_forth places root i.0 i.2)

  dominated_back : (user v : ℕ) → IsDominated t user v → IsDominated u user v
  dominated_back user v d = record {
    around = d.around;
    holds = within_back places d.around user d.holds;
    block = d.block;
    region = d.region;
    in_block = sym (h.parents d.around) ∙ d.in_block;
    in_region = sym (h.block_parents d.block) ∙ d.in_region;
    defined = home_back d.region (definition_of u v) (subst (λ x. up_from (defining_block t x) (λ b. block_parent_of t b) ≡ Some d.region) (h.definitions v) d.defined);
    passes = λ entry before done rest fe pe be. passed_back (definition_of u v) before d.block done (subst (λ x. HasPassed t x before d.block done) (h.definitions v) (d.passes entry before done rest (ap (λ xs. first_of xs None) (h.layouts d.region) ∙ fe) (path_back entry d.block before pe) (h.bodies d.block ∙ be)));
  }

  module _ (root : ℕ) (f : IsFit m t root) (uses : (k x : ℕ) → In x (operands_of u k) → rename x ≢ x → MayUse u root k x) where
    inside_before : (k : ℕ) → IsInside u root k → IsInside t root k
    inside_before k i = inside_forth places root k i

    within_before : (k : ℕ) → IsWithin u root k → IsWithin t root k
    within_before k i = within_forth places root k i

    -- an operand that was not renamed is one before
    may_use : (k x : ℕ) → In x (operands_of u k) → MayUse u root k x
    may_use k x i = ⊎_elim same (λ ne. uses k x i ne) (cases_eq (rename x) x)
      where
        same : rename x ≡ x → MayUse u root k x
        same e =
            let old : In x (operands_of t k) = subst (In x) (sym (h.operands k)) (subst (λ z. In z (map rename (operands_of u k))) e (in_map rename (operands_of u k) x i)) in
            record {
              own = λ j. made_back root (definition_of u x) (subst (IsDefiningOperationInside t root) (h.definitions x) (f.defined.own_values k x (inside_before k j) old));
              no_jumper = λ j j_in ne r. f.defined.unused j x k (inside_before j j_in) (λ z. ne (sym (h.successors j) ∙ z)) (subst (In x) (sym (ap (λ z. z.results) (h.rows j))) r) old;
              dominated = λ made. dominated_back k x (f.defined.dominated k x old (subst (IsDefiningOperationInside t root) (sym (h.definitions x)) (made_forth root (definition_of u x) made)));
            }

    defined : WellDefined m u root
    defined = record {
      no_successors = sym (h.successors root) ∙ f.defined.no_successors;
      own_values = λ k x i j. (may_use k x j).own i;
      dominance = ssa;
      forwards = forwards;
      terminators = λ k b x i e tr p. ap (last_of None) (sym (h.bodies b)) ∙ f.defined.terminators k b x (inside_before k i) (ap (λ z. z.head) (h.rows k) ∙ e) tr (h.parents k ∙ p);
      unused = λ k x user i ne j y. (may_use user x y).no_jumper k i ne j;
      dominated = λ user x i made. (may_use user x i).dominated made;
    }
      where
        ssa : (k r : ℕ) → IsWithin u root k → In r (regions_of u k) → IsTrue (has_ssa u r)
        ssa k r i j =
            let old = f.defined.dominance k r (within_before k i) (subst (In r) (sym (ap (λ z. z.regions) (h.rows k))) j) in
            at (region_parent_of u r) (subst (λ z. IsTrue (has_ssa_at t z)) (ap op_of_slot (h.slots r)) old)
          where
            at : (z : Option ℕ) → IsTrue (has_ssa_at t z) → IsTrue (has_ssa_at u z)
            at None e = e
            at (Some a) e = subst (λ z. IsTrue (ssa_in z.head)) (h.rows a) e

        forwards : (k i b : ℕ) (x : Operation) → IsInside u root k → op_at u k ≡ Some x → IsTrue (m.is_branch x.head) → slice_get x.successors i ≡ Some b → length (m.forwarded (shape_of m u x) i) ≡ length (arguments_of u b)
        forwards k i b x ins e br s = ap (λ z. length (m.forwarded z i)) (shape_renamed u t rename h m x) ∙ f.defined.forwards k i b (record x { operands = map rename x.operands }) (inside_before k ins) (op_renamed u t rename h k x e) br s ∙ ap length (h.arguments b)

    linked : IsWellLinked m u root
    linked = record {
      edges = λ k s i held. edge (f.linked.edges k s (subst (In s) (sym (h.successors k)) i) (held_forth k s held));
      admitted = λ k i. admitted_same m t u k (sym (ap (λ z. z.head) (h.rows k))) (sym (ap length (h.operands k) ∙ length-map (operands_of u k) rename)) (sym (ap (λ z. length z.results) (h.rows k))) (sym (ap length (h.successors k))) (sym (ap (λ z. length z.regions) (h.rows k))) (f.linked.admitted k (within_before k i));
    }
      where
        held_forth : (k s : ℕ) → IsInside u root k ⊎ HoldsBlock u root s → IsInside t root k ⊎ HoldsBlock t root s
        held_forth k s (inl i) = inl (inside_before k i)
        held_forth k s (inr x) = inr (x.0, same_block_holder places s ∙ x.1, within_before x.0 x.2)

        edge : {k : ℕ} → EndsBlock t k → EndsBlock u k
        edge {k} ends = record {
          block = ends.block;
          in_block = sym (h.parents k) ∙ ends.in_block;
          last = ap (last_of None) (sym (h.bodies ends.block)) ∙ ends.last;
          own_region = λ z j. sym (h.block_parents z) ∙ ends.own_region z (subst (In z) (sym (h.successors k)) j) ∙ h.block_parents ends.block;
        }

    pub fit_back : IsFit m u root
    fit_back = record { live = subst (λ z. IsSome z.head) (h.rows root) f.live; chosen = λ x e. f.chosen x (ap (λ z. z.head) (h.rows root) ∙ e); defined = defined; linked = linked }

pub renamed_back : RenamingBackLaw
renamed_back m t u rename h long kept uses = record {
  agrees = λ root f l. agree_sym (kept.agrees root (fit_back m t u rename h root f (uses root f)) f.live);
  heads = λ root f l. ap (λ z. z.head) (sym (h.rows root));
  stays = λ root f l. fit_back m t u rename h root f (uses root f);
  grows = omega (arith, long);
  fewer = λ root lt l. subst (λ z. IsSome z.head) (sym (h.rows root)) l;
}
