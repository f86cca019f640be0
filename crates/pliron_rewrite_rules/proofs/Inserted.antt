-- What an operation that is put just before another one may use, and that this keeps runs, links, edges and what is
-- outside.
use Rattle.std.proofs.Common.{◌≡◌, ◌≢◌, ◌⊎◌, inl, inr, ⊎_elim, ℕ, ◌<◌, ◌≤◌, Bool, true, false, true≢false, nat_eq, if◌then◌else◌, List, [], ◌∷◌, ◌++◌, length, filter, map, Option, Some, None, IsSome, IsTrue, refl, sym, ap, ◌∙◌, subst, arith, cond, length-append}
use Rattle.std.proofs.lemmas.Bool.{cases_eq, eq-eqb}
use Rattle.std.proofs.lemmas.Bool.Decides.{eqb_tells}
use Rattle.pliron_core.specs.declared.attrs.Head.{Head}
use Rattle.pliron_core.specs.declared.context.Def.{Def}
use Rattle.pliron_core.specs.declared.context.Def.TheVariants.{Result, Argument}
use Rattle.pliron_core.specs.Changes.{IsDefiningOperationInside, IsInsideChange}
use Rattle.pliron_core.specs.Edges.{succs_of, succs_from}
use Rattle.pliron_core.specs.Invariant.{IsTree}
use Rattle.pliron_core.specs.Lists.{In, put_before, last_of, first_of}
use Rattle.pliron_core.specs.Tree.{Tree, IsInside, IsWithin, HoldsBlock, IsDefined, IsMadeBy, row_of, head_of, operands_of, successors_of, results_of, regions_of, parent_of, body_of, block_parent_of, layout_of, definition_of, up_from}
use Rattle.pliron_core.specs.Writes.{after_placing, put_next_to}
use Rattle.pliron_core.proofs.BesideLemmas.{beside_placed}
use Rattle.pliron_core.proofs.GrownLemmas.{get_grown}
use Rattle.pliron_core.proofs.HoldingLemmas.{some_is, maker_is, block_inside, inside_block}
use Rattle.pliron_core.proofs.ListLemmas.{In-left}
use Rattle.pliron_core.proofs.NeighbourLemmas.{last_of-In}
use Rattle.pliron_core.proofs.EditLemmas.{put_before-first, put_before-other}
use Rattle.pliron_laws.specs.Datum.{Datum, Empty, Shape, Move, Give, Visit, Goto, Leave, Emit, Trap, Meaning}
use Rattle.pliron_laws.specs.Acting.{Begins}
use Rattle.pliron_laws.specs.Laws.{KeepsCounts, CountsFit, IsGive}
use Rattle.pliron_laws.specs.Linked.{EndsBlock, IsAdmitted, IsWellLinked}
use Rattle.pliron_laws.specs.Paths.{Path, Leads}
use Rattle.pliron_laws.specs.Root.{defining_block, HasPassed, IsDominated}
use Rattle.pliron_laws.specs.Tree.{Operation, op_at, block_at, entry_block, count_arguments, unless, shape_of}
use Rattle.pliron_laws.proofs.ConstantLemmas.{new_row, some_block}
use Rattle.pliron_laws.proofs.Records.{op_shows}
use Rattle.pliron_theory.specs.Edges.{EdgesAlike, has_regions, has_entries}
use Rattle.pliron_theory.specs.Keeps.{IsFit, KeepsRuns, with_roots}
use Rattle.pliron_theory.specs.Renaming.{MayUse}
use Rattle.pliron_theory.specs.Sweeping.{swept, is_maker_dead, IsSwept, AreAway, GivesNow}
use Rattle.pliron_theory.proofs.MadeKeeps.{it_is, it_is_not, not_it, put_not_last}
use Rattle.pliron_theory.proofs.SweptLists.{from_swept, swept_split, swept_all, last_swept}
use Rattle.pliron_theory.proofs.SweptParts.{inside_forth, within_forth, made_forth, made_same, held_lives, inside_back, made_back, block_place_forth}
use Rattle.pliron_theory.proofs.SweptStays.{admitted_same}
use Rattle.pliron_rewrite_equals.specs.Putting.{AreInserted}
use Rattle.pliron_rewrite_equals.proofs.PutKeeps.{inserting}
use Rattle.pliron_rewrite_equals.proofs.Redundancy.{chosen_counts}
use Rattle.pliron_rewrite_rules.specs.Insertions.{after_making, with_operation, pure_shape, IsInsertable, IsInsertion, InsertedLaws}
use Rattle.pliron_rewrite_rules.specs.Replacements.{IsAvailable, AtLeaf, MadeBefore}
use Rattle.pliron_rewrite_rules.proofs.PutBefore.{made_row, made_operands, made_successors, made_beside, absent, old_maker, body_here, body_there, put_parent, old_parent, put_swept, put_away, tree_put}
use Rattle.pliron_rewrite_rules.proofs.Replacements.{available_usable}

-- what is behind the new operation begins with the one that it is put before
put_split : (at n : ℕ) (xs done rest : List ℕ) → (In n xs → ⊥) → put_before at n xs ≡ done ++ n ∷ rest → (more : List ℕ) × (xs ≡ done ++ at ∷ more)
put_split at n [] [] rest out e = absurd (grind arith)
put_split at n [] (d ∷ done) rest out e = absurd (grind arith)
put_split at n (x ∷ xs) [] rest out e = ⊎_elim
    (λ y. (xs, ap (λ z. z ∷ xs) (sym y.1)))
    (λ y. absurd (out (inl (sym (other (ap (λ b. if b then n ∷ x ∷ xs else x ∷ put_before at n xs) (sym y.0) ∙ e))))))
    (eqb_tells at x)
  where
    other : x ∷ put_before at n xs ≡ n ∷ rest → x ≡ n
    other f = cc
put_split at n (x ∷ xs) (d ∷ done) rest out e = ⊎_elim
    (λ y. absurd (out (subst (In n) (sym (first (ap (λ b. if b then n ∷ x ∷ xs else x ∷ put_before at n xs) (sym y.0) ∙ e))) (there done))))
    (λ y.
    let f = ap (λ b. if b then n ∷ x ∷ xs else x ∷ put_before at n xs) (sym y.0) ∙ e in
    let m = put_split at n xs done rest (λ i. out (inr i)) (tail f) in
    (m.0, ap (λ z. z ∷ xs) (head f) ∙ ap (λ zs. d ∷ zs) m.1))
    (eqb_tells at x)
  where
    first : n ∷ x ∷ xs ≡ d ∷ done ++ n ∷ rest → x ∷ xs ≡ done ++ n ∷ rest
    first f = cc

    head : x ∷ put_before at n xs ≡ d ∷ done ++ n ∷ rest → x ≡ d
    head f = cc

    tail : x ∷ put_before at n xs ≡ d ∷ done ++ n ∷ rest → put_before at n xs ≡ done ++ n ∷ rest
    tail f = cc

    there : (ys : List ℕ) → In n (ys ++ n ∷ rest)
    there [] = inl refl
    there (y ∷ ys) = inr (there ys)

last_put : (at n : ℕ) (before : Option ℕ) (ys : List ℕ) → last_of before (put_before at n ys) ≡ last_of before ys
last_put at n before [] = refl
last_put at n before (y ∷ ys) = elim (cases_eq at y) [
  | inl e ↦ ap (last_of before) (put_before-first at n y ys e)
  | inr ne ↦ ap (last_of before) (put_before-other at n y ys ne) ∙ last_put at n (Some y) ys
]

filter_put : (p : ℕ → Bool) (at n : ℕ) (ys : List ℕ) → p n ≡ false → filter p (put_before at n ys) ≡ filter p ys
filter_put p at n [] e = refl
filter_put p at n (y ∷ ys) e = elim (cases_eq at y) [
  | inl h ↦ ap (filter p) (put_before-first at n y ys h) ∙ ap (λ b. cond b (n ∷ filter p (y ∷ ys)) (filter p (y ∷ ys))) e
  | inr ne ↦ ap (filter p) (put_before-other at n y ys ne) ∙ ap (λ zs. cond (p y) (y ∷ zs) zs) (filter_put p at n ys e)
]

-- what gives, and as many as there are places for them
given : (b : Bool) (s : Shape) (x : Move) → CountsFit b s x → IsGive x → (r : List Datum) × (x ≡ Give r) × (length r ≡ s.results)
given b s (Give ds) c g = (ds, refl, c)
given b s (Visit i ds memo) c g = absurd g
given b s (Goto i ds) c g = absurd g
given b s (Leave ds) c g = absurd g
given b s (Emit e memo) c g = absurd g
given b s Trap c g = absurd g

-- an operation without successors and regions and with one result has this shape
pub shape_pure : (m : Meaning) (t : Tree) (o : Operation) (head : Head) → m.is_branch head ≡ false → o.head ≡ head → length o.results ≡ 1 → o.successors ≡ [] → o.regions ≡ [] → shape_of m t o ≡ pure_shape head (length o.operands)
unfolding shape_of
shape_pure m t o head plain same one edgeless childless =
    ap (λ x. record (shape_of m t o) { head = x; target_arguments = unless (m.is_branch x) (map (λ k. count_arguments (block_at t k)) o.successors) }) same
    ∙ ap (λ x. record (shape_of m t o) { head = head; target_arguments = unless x (map (λ k. count_arguments (block_at t k)) o.successors) }) plain
    ∙ ap (λ x. record (shape_of m t o) { head = head; results = x; target_arguments = Some (map (λ k. count_arguments (block_at t k)) o.successors) }) one
    ∙ ap (λ x. record (shape_of m t o) { head = head; results = 1; successors = length x; target_arguments = Some (map (λ k. count_arguments (block_at t k)) x) }) edgeless
    ∙ ap (λ x. record (pure_shape head (length o.operands)) { entry_arguments = map (λ r. count_arguments (entry_block t r)) x }) childless

pub available_defined : (t : Tree) → IsTree t → (at v : ℕ) → IsAvailable t at v → IsDefined t v
available_defined t w at v (AtLeaf old i listed leaf) = w.joined.operands leaf.reader v leaf.reads
available_defined t w at v (MadeBefore b) = subst (IsMadeBy t v) (sym (w.joined.results b.maker b.place v b.makes)) b.makes

-- u is t with the operation n just before `at`
module _ (t : Tree) (at block : ℕ) (head : Head) (operands : List ℕ) (w : IsTree t) (here : parent_of t at ≡ Some block) (w' : IsTree (after_placing (after_making t head operands) (length t.operations) block (put_before at (length t.operations) (body_of t block)))) where
  abbrev n : ℕ
  n = length t.operations

  abbrev dead : ℕ → Bool
  dead = nat_eq (length t.operations)

  abbrev u : Tree
  u = after_placing (after_making t head operands) (length t.operations) block (put_before at (length t.operations) (body_of t block))

  abbrev none : ℕ → Bool
  none b = false

  h : IsSwept u t dead none
  h = put_swept t head operands w at block here w'

  g : AreAway t dead none
  g = put_away t head operands w at block here

  left : (k : ℕ) → k ≢ n → dead k ≡ false
  left k ne = not_it n k ne

  pub at_old : at ≢ length t.operations
  at_old e = absent t head operands w at block here block (subst (λ z. In z (body_of t block)) e (w.bodies.listed at block here))

  new_row_is : row_of u n ≡ new_row t head
  new_row_is = made_row t head operands w

  childless : regions_of u n ≡ []
  childless = ap (λ z. z.regions) new_row_is

  edgeless : successors_of u n ≡ []
  edgeless = made_successors t head operands w

  jumper_old : (k b : ℕ) → In b (successors_of u k) → dead k ≡ false
  jumper_old k b i = left k (λ e. subst (In b) (ap (successors_of u) e ∙ edgeless) i)

  last_same : (b : ℕ) → last_of None (body_of u b) ≡ last_of None (body_of t b)
  last_same b = elim (cases_eq b block) [
    | inl e ↦ ap (λ z. last_of None (body_of u z)) e ∙ ap (last_of None) (body_here t head operands w at block here) ∙ last_put at n None (body_of t block) ∙ ap (λ z. last_of None (body_of t z)) (sym e)
    | inr ne ↦ ap (last_of None) (body_there t head operands w at block here b ne)
  ]

  leads_forth : (b c : ℕ) → Leads u b c → Leads t b c
  leads_forth b c x = go (last_of None (body_of u b)) refl x.successor
    where
      go : (o : Option ℕ) → last_of None (body_of u b) ≡ o → In c (succs_from u o) → Leads t b c
      go None q i = absurd i
      go (Some k) q i = record {
        successor = subst (λ o. In c (succs_from t o)) (sym (sym (last_same b) ∙ q)) (subst (In c) (sym (h.successors k (jumper_old k c i))) i);
        same_region = h.block_parents c refl ∙ x.same_region ∙ sym (h.block_parents b refl);
      }

  path_forth : (a b : ℕ) (before : List ℕ) → Path u a b before → Path t a b before
  path_forth a b [] q = q
  path_forth a b (c ∷ before) q = (leads_forth c b q.0, path_forth a c before q.1)

  home_back : (region : ℕ) (x : Option Def) → is_maker_dead dead none x ≡ false → up_from (defining_block t x) (λ b. block_parent_of t b) ≡ Some region → up_from (defining_block u x) (λ b. block_parent_of u b) ≡ Some region
  home_back region None l e = e
  home_back region (Some (Argument b j)) l e = sym (h.block_parents b refl) ∙ e
  home_back region (Some (Result k j)) l e = go (parent_of u k) (ap (λ o. up_from o (λ b. block_parent_of t b)) (sym (h.parents k l)) ∙ e)
    where
      go : (o : Option ℕ) → up_from o (λ b. block_parent_of t b) ≡ Some region → up_from o (λ b. block_parent_of u b) ≡ Some region
      go None e = e
      go (Some b) e = sym (h.block_parents b refl) ∙ e

  passed_back : (x : Option Def) → is_maker_dead dead none x ≡ false → (before : List ℕ) (b : ℕ) (done : List ℕ) → HasPassed t x before b (swept dead done) → HasPassed u x before b done
  passed_back None l before b done q = q
  passed_back (Some (Argument c j)) l before b done q = q
  passed_back (Some (Result k j)) l before b done (inl i) = inl (from_swept dead k done i).0
  passed_back (Some (Result k j)) l before b done (inr x) = inr (x.0, sym (h.parents k l) ∙ x.1, x.2)

  pub at_inside : (root : ℕ) → IsInside u root (length t.operations) → IsInside t root at
  at_inside root i = (inside_forth u t dead none w' w h root at (left at at_old) (inside_block block (old_parent t head operands w at block here at at_old ∙ here) (block_inside block (put_parent t head operands w at block here) i))).0

  -- what the one may use before which it is put, the new operation may
  module _ (root v : ℕ) (is : IsDefined t v) (may : MayUse t root at v) where
    kept : definition_of u v ≡ definition_of t v
    kept = let x = maker_is t v is in (made_beside t head operands w).definitions v x.0 x.1 ∙ sym x.1

    maker_left : is_maker_dead dead none (definition_of u v) ≡ false
    maker_left = old_maker t head operands w at block here v is

    made_there : IsDefiningOperationInside u root (definition_of u v) → IsDefiningOperationInside t root (definition_of t v)
    made_there made = subst (IsDefiningOperationInside t root) kept (made_forth u t dead none w' w h root (definition_of u v) maker_left made)

    module _ (d : IsDominated t at v) where
      home : up_from (defining_block u (definition_of u v)) (λ b. block_parent_of u b) ≡ Some d.region
      home = home_back d.region (definition_of u v) maker_left (subst (λ x. up_from (defining_block t x) (λ b. block_parent_of t b) ≡ Some d.region) (sym kept) d.defined)

      layout : layout_of t d.region ≡ layout_of u d.region
      layout = sym ((made_beside t head operands w).layouts d.region)

      -- it is beside the one that is dominated
      beside : at ≡ d.around → IsDominated u n v
      beside e = record {
        around = n;
        holds = inl refl;
        block = block;
        region = d.region;
        in_block = put_parent t head operands w at block here;
        in_region = sym (h.block_parents block refl) ∙ ap (block_parent_of t) (sym same) ∙ d.in_region;
        defined = home;
        passes = passing;
      }
        where
          same : d.block ≡ block
          same = some_is (sym d.in_block ∙ ap (parent_of t) (sym e) ∙ here)

          passing : (entry : ℕ) (before done rest : List ℕ) → first_of (layout_of u d.region) None ≡ Some entry → Path u entry block before → body_of u block ≡ done ++ n ∷ rest → HasPassed u (definition_of u v) before block done
          passing entry before done rest fe path split =
              let x = put_split at n (body_of t block) done rest (absent t head operands w at block here block) (sym (body_here t head operands w at block here) ∙ split) in
              let there : HasPassed t (definition_of t v) before d.block done = d.passes entry before done x.0 (ap (λ xs. first_of xs None) layout ∙ fe) (subst (λ b. Path t entry b before) (sym same) (path_forth entry block before path)) (ap (body_of t) same ∙ x.1 ∙ ap (λ z. done ++ z ∷ x.0) e) in
              let all : swept dead done ≡ done = swept_all dead done (λ k i. left k (λ f. absent t head operands w at block here block (subst (λ z. In z (body_of t block)) f (subst (In k) (sym x.1) (In-left k done (at ∷ x.0) i))))) in
              passed_back (definition_of u v) maker_left before block done (subst (HasPassed t (definition_of u v) before block) (sym all) (subst (λ z. HasPassed t z before block done) (sym kept) (subst (λ b. HasPassed t (definition_of t v) before b done) same there)))

      -- or inside it
      deeper : IsInside t d.around at → IsDominated u n v
      deeper i = record {
        around = d.around;
        holds = inr (inside_block block (put_parent t head operands w at block here) (block_inside block (old_parent t head operands w at block here at at_old ∙ here) (inside_back u t dead none w' w h g d.around at i)));
        block = d.block;
        region = d.region;
        in_block = sym (h.parents d.around still) ∙ d.in_block;
        in_region = sym (h.block_parents d.block refl) ∙ d.in_region;
        defined = home;
        passes = λ entry before done rest fe path split.
            let there : body_of t d.block ≡ swept dead done ++ d.around ∷ swept dead rest = h.bodies d.block refl ∙ ap (swept dead) split ∙ swept_split dead d.around rest done still in
            passed_back (definition_of u v) maker_left before d.block done (subst (λ z. HasPassed t z before d.block (swept dead done)) (sym kept) (d.passes entry before (swept dead done) (swept dead rest) (ap (λ xs. first_of xs None) layout ∙ fe) (path_forth entry d.block before path) there));
      }
        where
          still : dead d.around ≡ false
          still = held_lives u t dead none w' w h g d.around d.block d.in_block

      dominated_too : IsDominated u n v
      dominated_too = ⊎_elim beside deeper d.holds

    pub new_may_use : MayUse u root n v
    new_may_use = record {
      own = λ i. made_back u t dead none w' w h g root (definition_of u v) (subst (IsDefiningOperationInside t root) (sym kept) (may.own (at_inside root i)));
      no_jumper = λ k i ne r.
          let old = left k (λ e. ne (ap (successors_of u) e ∙ edgeless)) in
          may.no_jumper k (inside_forth u t dead none w' w h root k old i).0 (λ e. ne (sym (h.successors k old) ∙ e)) (subst (In v) (sym (ap (λ z. z.results) (h.rows k old))) r);
      dominated = λ made. dominated_too (may.dominated (made_there made));
    }

  -- links stay
  module _ (m : Meaning) (ins : IsInsertable m head (length operands)) where
    new_admitted : IsAdmitted m u n
    new_admitted x e =
        let same : x ≡ head = some_is (sym e ∙ ap (λ z. z.head) new_row_is) in
        subst (λ y. IsTrue (m.admits y (length (operands_of u n)) (length (results_of u n)) (length (successors_of u n)) (length (regions_of u n)))) (sym same)
        (subst (λ a. IsTrue (m.admits head (length a) (length (results_of u n)) (length (successors_of u n)) (length (regions_of u n)))) (sym (made_operands t head operands w))
        (subst (λ a. IsTrue (m.admits head (length operands) (length a.results) (length (successors_of u n)) (length a.regions))) (sym new_row_is)
        (subst (λ a. IsTrue (m.admits head (length operands) 1 (length a) 0)) (sym edgeless) ins.admitted)))

    pub links_put : (root : ℕ) → IsWellLinked m t root → IsWellLinked m u root
    links_put root linked = record {
      edges = λ k b i held. edge k b i held;
      admitted = λ k i. ⊎_elim (λ e. subst (IsAdmitted m u) (sym e) new_admitted) (λ ne. admit k i (left k ne)) (cases_eq k n);
    }
      where
        held_forth : (k b : ℕ) → dead k ≡ false → IsInside u root k ⊎ HoldsBlock u root b → IsInside t root k ⊎ HoldsBlock t root b
        held_forth k b l (inl i) = inl (inside_forth u t dead none w' w h root k l i).0
        held_forth k b l (inr x) = let y = block_place_forth u t dead none w' w h b x.0 refl x.1 in inr (x.0, y.0, (within_forth u t dead none w' w h root x.0 y.1 x.2).0)

        edge : (k b : ℕ) → In b (successors_of u k) → IsInside u root k ⊎ HoldsBlock u root b → EndsBlock u k
        edge k b i held =
            let l = jumper_old k b i in
            let target : (z : ℕ) → In z (successors_of u k) → In z (successors_of t k) = λ z j. subst (In z) (sym (h.successors k l)) j in
            let ends = linked.edges k b (target b i) (held_forth k b l held) in
            record {
              block = ends.block;
              in_block = sym (h.parents k l) ∙ ends.in_block;
              last = last_same ends.block ∙ ends.last;
              own_region = λ z j. sym (h.block_parents z refl) ∙ ends.own_region z (target z j) ∙ h.block_parents ends.block refl;
            }

        admit : (k : ℕ) → IsWithin u root k → dead k ≡ false → IsAdmitted m u k
        admit k i l = admitted_same m t u k (sym (ap (λ z. z.head) (h.rows k l))) (sym (ap length (h.operands k l))) (sym (ap (λ z. length z.results) (h.rows k l))) (sym (ap length (h.successors k l))) (sym (ap (λ z. length z.regions) (h.rows k l))) (linked.admitted k (within_forth u t dead none w' w h root k l i).0)

    new_gives : KeepsCounts m → GivesNow m u n
    new_gives counts o e ds long =
        let s = op_shows u n o e in
        let shape = shape_pure m u o head ins.no_branch (some_is (sym s.head ∙ ap (λ z. z.head) new_row_is)) (ap length (sym s.results ∙ ap (λ z. z.results) new_row_is)) (sym s.successors ∙ edgeless) (sym s.regions ∙ childless) in
        let many : length o.operands ≡ length operands = ap length (sym s.operands ∙ made_operands t head operands w) in
        let x = given (m.is_branch head) (pure_shape head (length operands)) (m.act (pure_shape head (length operands)) Empty ds) (counts.moves (pure_shape head (length operands)) ins.admitted ds false Empty ds Begins) (ins.gives ds (long ∙ many)) in
        (x.0, ap (λ z. m.act z Empty ds) (shape ∙ ap (pure_shape head) many) ∙ x.1, x.2 ∙ ap length (sym (ap (λ z. z.results) new_row_is) ∙ s.results))

    -- runs are kept
    module _ (counts : KeepsCounts m) (available : (v : ℕ) → In v operands → IsAvailable t at v) where
      usable : (root k v : ℕ) → IsFit m t root → nat_eq n k ≡ true → In v (operands_of u k) → MayUse u root k v
      usable root k v f e i =
          let same = it_is n k e in
          let used : In v operands = subst (In v) (made_operands t head operands w) (subst (λ z. In v (operands_of u z)) same i) in
          subst (λ z. MayUse u root z v) (sym same) (new_may_use root v (available_defined t w at v (available v used)) (available_usable m t w root f at v (available v used)))

      inserted : AreInserted m u t (nat_eq n)
      inserted = record {
        successors = λ k e. ap (successors_of u) (it_is n k e) ∙ edgeless;
        regions = λ k e. ap (regions_of u) (it_is n k e) ∙ childless;
        admitted = λ k e. subst (IsAdmitted m u) (sym (it_is n k e)) new_admitted;
        plain = λ k x e q. ap m.is_terminator (some_is (sym q ∙ ap (head_of u) (it_is n k e) ∙ ap (λ z. z.head) new_row_is)) ∙ ins.no_terminator;
        last = λ b k e q. absurd (not_last b (sym (last_same b) ∙ q ∙ ap Some (it_is n k e)));
        uses = λ root f k v e i. usable root k v f e i;
      }
        where
          not_last : (b : ℕ) → last_of None (body_of t b) ≡ Some n → ⊥
          not_last b q = absent t head operands w at block here b (last_of-In n (body_of t b) q)

      pub runs_put : KeepsRuns m t u
      runs_put = inserting m t u (nat_eq n) w w' h g inserted longer (λ k e. new_key k (it_is n k e)) (λ k e. subst (GivesNow m u) (sym (it_is n k e)) (new_gives counts))
        where
          longer : length t.operations ≤ length u.operations
          longer = let l = length-append t.operations (new_row t head ∷ []) in omega (arith, l)

          new_key : (k : ℕ) → k ≡ n → length t.operations ≤ k
          new_key k e = omega (arith, e)

  -- edges stay
  regions_same : (k : ℕ) → regions_of u k ≡ regions_of t k
  regions_same k = elim (cases_eq k n) [
    | inl e ↦ ap (regions_of u) e ∙ childless ∙ sym (ap (λ z. z.regions) (made_beside t head operands w).fresh) ∙ ap (regions_of t) (sym e)
    | inr ne ↦ ap (λ z. z.regions) (sym (h.rows k (left k ne)))
  ]

  pub edges_put : EdgesAlike t u
  edges_put = record {
    grows = let l = length-append t.operations (new_row t head ∷ []) in omega (arith, l);
    regions = regions_same;
    layouts = (made_beside t head operands w).layouts;
    successors = λ b. ap (succs_from u) (last_same b) ∙ from_same (last_of None (body_of t b));
    bodies = λ b. elim (cases_eq b block) [
      | inl e ↦ ap (λ z. filter (λ k. has_regions t k) (body_of u z)) e ∙ ap (filter (λ k. has_regions t k)) (body_here t head operands w at block here) ∙ filter_put (λ k. has_regions t k) at n (body_of t block) (ap has_entries (ap (λ z. z.regions) (made_beside t head operands w).fresh)) ∙ ap (λ z. filter (λ k. has_regions t k) (body_of t z)) (sym e)
      | inr ne ↦ ap (filter (λ k. has_regions t k)) (body_there t head operands w at block here b ne)
    ];
  }
    where
      from_same : (o : Option ℕ) → succs_from u o ≡ succs_from t o
      from_same None = refl
      from_same (Some k) = get_grown t.successors [] k

  pub inside_put : (root : ℕ) → IsInside t root at → IsInsideChange t u root
  inside_put root i = beside_placed t (after_making t head operands) n root block (put_before at n (body_of t block)) w (made_beside t head operands w) (block_inside block here i)

chosen_insertable : (m : Meaning) (chosen : Head → Bool) (head : Head) (n : ℕ) → IsInsertable m head n → IsInsertable (with_roots m chosen) head n
chosen_insertable m chosen head n ins = record { admitted = ins.admitted; no_terminator = ins.no_terminator; no_branch = ins.no_branch; gives = ins.gives }

-- the tree, where the block is known
pub put_is : (t : Tree) (at block : ℕ) (head : Head) (operands : List ℕ) → parent_of t at ≡ Some block → with_operation t at head operands ≡ after_placing (after_making t head operands) (length t.operations) block (put_before at (length t.operations) (body_of t block))
put_is t at block head operands here = ap (put_next_to (after_making t head operands) (length t.operations) at) here

tree_is : (m : Meaning) (t : Tree) (at : ℕ) (head : Head) (operands : List ℕ) → IsInsertion m t at head operands → (block : ℕ) → parent_of t at ≡ Some block → IsTree (after_placing (after_making t head operands) (length t.operations) block (put_before at (length t.operations) (body_of t block)))
tree_is m t at head operands x block here = tree_put t head operands x.tree at block here (λ v i. available_defined t x.tree at v (x.available v i))

pub inserted_laws : (m : Meaning) → KeepsCounts m → InsertedLaws m
inserted_laws m counts = record {
  after = λ t at head operands x.
      let b = some_block (parent_of t at) x.placed in
      subst IsTree (sym (put_is t at b.0 head operands b.1)) (tree_is m t at head operands x b.0 b.1);
  runs = λ t at head operands x chosen.
      let b = some_block (parent_of t at) x.placed in
      let is = put_is t at b.0 head operands b.1 in
      subst (KeepsRuns (with_roots m chosen) t) (sym is) (runs_put t at b.0 head operands x.tree b.1 (tree_is m t at head operands x b.0 b.1) (with_roots m chosen) (chosen_insertable m chosen head (length operands) x.insertable) (chosen_counts m chosen counts) x.available);
  links = λ t at head operands root x linked.
      let b = some_block (parent_of t at) x.placed in
      let is = put_is t at b.0 head operands b.1 in
      subst (λ z. IsWellLinked m z root) (sym is) (links_put t at b.0 head operands x.tree b.1 (tree_is m t at head operands x b.0 b.1) m x.insertable root linked);
  inside = λ t at head operands root x i.
      let b = some_block (parent_of t at) x.placed in
      let is = put_is t at b.0 head operands b.1 in
      subst (λ z. IsInsideChange t z root) (sym is) (inside_put t at b.0 head operands x.tree b.1 (tree_is m t at head operands x b.0 b.1) root i);
  edges = λ t at head operands x.
      let b = some_block (parent_of t at) x.placed in
      let is = put_is t at b.0 head operands b.1 in
      subst (EdgesAlike t) (sym is) (edges_put t at b.0 head operands x.tree b.1 (tree_is m t at head operands x b.0 b.1));
}
