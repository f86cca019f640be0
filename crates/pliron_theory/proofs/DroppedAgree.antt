-- A root does the same without an argument of a block and the operands that were forwarded to it.
use Rattle.std.proofs.Common.{◌≡◌, ◌≢◌, ◌⊎◌, inl, inr, ⊎_elim, ℕ, zero, suc, Bool, true, false, true≢false, nat_eq, if◌then◌else◌, List, [], ◌∷◌, length, map, Option, Some, None, IsSome, is_some, slice_get, remove, refl, sym, ap, ap₂, ◌∙◌, subst, arith}
use Rattle.std.proofs.lemmas.Bool.{cases_eq, eq-eqb}
use Rattle.pliron_core.specs.Tree.{Tree, In, IsLive, IsInside, IsWithin, first_of, head_of, operands_of, successors_of, regions_of, body_of, arguments_of, block_parent_of, layout_of, region_parent_of, op_of_slot}
use Rattle.pliron_core.specs.Invariant.{IsTree}
use Rattle.pliron_core.proofs.ListLemmas.{decide_in}
use Rattle.pliron_core.proofs.HoldingLemmas.{some_is, some_of, in_slice, slice_in}
use Rattle.pliron_laws.specs.Datum.{Datum, Empty, Head, Meaning, Shape, Move}
use Rattle.pliron_laws.specs.Tree.{Operation, op_at, block_with, block_at, and_block, entry_block, count_arguments, shape_of}
use Rattle.pliron_laws.specs.States.{Environment, environment_with, bind, prepend_optional, data_of}
use Rattle.pliron_laws.specs.Machine.{entry_in, block_in, step}
use Rattle.pliron_laws.specs.Agree.{Agree}
use Rattle.pliron_laws.specs.Acting.{Act, MovesAlike, ActAlike, PassesSame, JumpsSame, pick}
use Rattle.pliron_theory.specs.Renaming.{RunReaches}
use Rattle.pliron_theory.specs.Keeps.{IsFit}
use Rattle.pliron_theory.specs.Dropping.{IsArgumentDropped, PassesWithout, entry_key, LeadsWithout, HoldsWithout}
use Rattle.pliron_theory.proofs.Simulation.{anything_kept}
use Rattle.pliron_theory.proofs.Lockstep.{EnvsTied}
use Rattle.pliron_theory.proofs.Bound.{IsReady}
use Rattle.pliron_laws.proofs.Records.{op_shows, operation_of, make_op, no_op, region_entry}
use Rattle.pliron_theory.proofs.Alike.{alike_refl, shape_same, SameBut, bound_same, bind_same, data_same, data_long}
use Rattle.pliron_theory.proofs.Substitute.{placed_all, Comparison, Begun, Starts, Enters, Substitutes, FirstAlike, Reads, substituted_agree}
use Rattle.pliron_theory.proofs.Reached.{reached_kept, reached_start}
use Rattle.pliron_theory.proofs.Reading.{ready_when_reached}
use Rattle.pliron_theory.proofs.Keys.{not_is}

-- visits and jumps may be compared by wider relations
moves_more : {V V' : ℕ → List Datum → List Datum → Type 0} {G G' : ℕ → List Datum → ℕ → List Datum → Type 0} (a b : Move) → ((i : ℕ) (ds es : List Datum) → V i ds es → V' i ds es) → ((i : ℕ) (ds : List Datum) (j : ℕ) (es : List Datum) → G i ds j es → G' i ds j es) → MovesAlike V G a b → MovesAlike V' G' a b
moves_more a b v g r = record {
  give = r.give;
  visit = λ i ds memo e. let x = r.visit i ds memo e in (x.0, x.1, v i ds x.0 x.2);
  goto = λ i ds e. let x = r.goto i ds e in (x.0, x.1, x.2, g i ds x.0 x.1 x.3);
  leave = r.leave;
  emit = r.emit;
  traps = r.traps;
}

pub alike_more : (act : Act) (V V' : ℕ → List Datum → List Datum → Type 0) (G G' : ℕ → List Datum → ℕ → List Datum → Type 0) (s s' : Shape) (first first' : List Datum) → ((i : ℕ) (ds es : List Datum) → V i ds es → V' i ds es) → ((i : ℕ) (ds : List Datum) (j : ℕ) (es : List Datum) → G i ds j es → G' i ds j es) → ActAlike act V G s s' first first' → ActAlike act V' G' s s' first first'
alike_more act V V' G G' s s' first first' v g r = record { begin = moves_more _ _ v g r.begin; later = λ memo input comes. moves_more _ _ v g (r.later memo input comes) }

-- a block is entered without the value of one argument
bound_gone : (deleted : ℕ → Bool) (env env' : Environment) (v : ℕ) (d : Datum) → deleted v ≡ true → SameBut deleted env env' → SameBut deleted (environment_with env v d) env'
unfolding environment_with
bound_gone deleted env env' v d g e w l = ap (λ z. if z then Some d else env w) (not_is w v (λ s. true≢false (sym g ∙ ap deleted s ∙ l))) ∙ e w l

bind_without : (deleted : ℕ → Bool) (v : ℕ) → deleted v ≡ true → (vs : List ℕ) (i : ℕ) (env env' : Environment) (ds : List Datum) → slice_get vs i ≡ Some v → length ds ≡ length vs → SameBut deleted env env' → EnvsTied (SameBut deleted) (bind env vs ds) (bind env' (remove vs i) (remove ds i))
bind_without deleted v g [] i env env' ds e l s = grind arith
bind_without deleted v g (w ∷ vs) i env env' [] e l s = grind arith
bind_without deleted v g (w ∷ vs) zero env env' (d ∷ ds) e l s = let same : w ≡ v = some_is e in bind_same deleted vs (environment_with env w d) env' ds (bound_gone deleted env env' w d (ap deleted same ∙ g) s)
bind_without deleted v g (w ∷ vs) (suc i) env env' (d ∷ ds) e l s = bind_without deleted v g vs i (environment_with env w d) (environment_with env' w d) ds e (omega (arith, l)) (bound_same deleted env env' s w d)

-- the data at the places that are kept
pick_data : (env : Environment) (vs : List ℕ) (input : List Datum) → data_of env vs ≡ Some input → (p w : ℕ) → slice_get vs p ≡ Some w → (d : Datum) × (env w ≡ Some d) × (slice_get input p ≡ Some d)
pick_data env [] input e p w q = grind arith
pick_data env (x ∷ vs) input e p w q = go (env x) (data_of env vs) refl e p q (λ ds f i r. pick_data env vs ds f i w r)
  where
    go : (a : Option Datum) (b : Option (List Datum)) → env x ≡ a → prepend_optional a b ≡ Some input → (p : ℕ) → slice_get (x ∷ vs) p ≡ Some w → ((ds : List Datum) → b ≡ Some ds → (i : ℕ) → slice_get vs i ≡ Some w → (d : Datum) × (env w ≡ Some d) × (slice_get ds i ≡ Some d)) → (d : Datum) × (env w ≡ Some d) × (slice_get input p ≡ Some d)
    go None b ea f p r again = grind arith
    go (Some d) None ea f p r again = grind arith
    go (Some d) (Some ds) ea f zero r again = (d, ap env (sym (some_is r)) ∙ ea, ap (λ z. slice_get z zero) (sym (some_is f)))
    go (Some d) (Some ds) ea f (suc p) r again = let y = again ds refl p r in (y.0, y.1, ap (λ z. slice_get z (suc p)) (sym (some_is f)) ∙ y.2)

picked_data : (env : Environment) (vs ws places : List ℕ) (input : List Datum) → data_of env vs ≡ Some input → map Some ws ≡ pick places vs → (first : List Datum) × (data_of env ws ≡ Some first) × (map Some first ≡ pick places input)
picked_data env vs [] [] input e q = ([], refl, refl)
picked_data env vs [] (p ∷ ps) input e q = grind arith
picked_data env vs (w ∷ ws) [] input e q = grind arith
picked_data env vs (w ∷ ws) (p ∷ ps) input e q =
    let here : Some w ≡ slice_get vs p = cc in
    let rest : map Some ws ≡ pick ps vs = cc in
    let x = pick_data env vs input e p w (sym here) in
    let y = picked_data env vs ws ps input e rest in
    (x.0 ∷ y.0, ap₂ prepend_optional x.1 y.1, ap₂ (λ a b. a ∷ b) (sym x.2) y.2)

module _ (m : Meaning) (t t' : Tree) (block index v : ℕ) (kept : ℕ → List ℕ) (w : IsTree t) (w' : IsTree t') (h : IsArgumentDropped t t' block index v kept) where
  abbrev deleted : ℕ → Bool
  deleted x = nat_eq v x

  is_gone : deleted v ≡ true
  is_gone = eq-eqb v v refl

  still : (k x : ℕ) → In x (operands_of t' k) → deleted x ≡ false
  still k x i = not_is v x (λ s. h.unused k (subst (λ z. In z (operands_of t' k)) s i))

  abbrev count : ℕ
  count = length (arguments_of t block)

  abbrev pub comparison : Comparison
  comparison = record {
    places = λ k. None;
    swap = λ k. k;
    Own = λ rest. Unit {0};
    Env = SameBut deleted;
    visits = λ k i ds es. PassesWithout block index count (entry_key t (slice_get (regions_of t k) i)) ds es;
    gotos = λ k i ds j es. (j ≡ i) × PassesWithout block index count (slice_get (successors_of t k) i) ds es;
  }

  placed_same : (ks : List ℕ) → ks ≡ placed_all (λ k. None) (λ k. k) ks
  placed_same [] = refl
  placed_same (k ∷ ks) = ap (λ l. k ∷ l) (placed_same ks)

  -- what stands in both trees
  pub live_forth : (k : ℕ) → IsLive t k → IsLive t' k
  live_forth k l = ⊎_elim (λ i. h.all_in_place k i) (λ n. subst (λ z. IsSome z.head) (sym (h.rows k n)) l) (decide_in block (successors_of t k))

  pub live_back : (k : ℕ) → IsLive t' k → IsLive t k
  live_back k l = ⊎_elim (λ i. leads k i (head_of t k) refl) (λ n. subst (λ z. IsSome z.head) (h.rows k n) l) (decide_in block (successors_of t k))
    where
      leads : (k : ℕ) → In block (successors_of t k) → (x : Option Head) → head_of t k ≡ x → IsLive t k
      leads k i None e = absurd (subst (In block) (w.joined.erased k e).1 i)
      leads k i (Some x) e = ap is_some e

  -- what the record of an operation shows after
  pub record ShowsAfter (o o' : Operation) : Type 0 where
    pub results : o'.results ≡ o.results
    pub successors : o'.successors ≡ o.successors
    pub regions : o'.regions ≡ o.regions

  pub shows_after : (k : ℕ) (o o' : Operation) → op_at t k ≡ Some o → op_at t' k ≡ Some o' → ShowsAfter o o'
  shows_after k o o' e e' =
      let s = op_shows t k o e in
      let s' = op_shows t' k o' e' in
      record {
        results = sym s'.results ∙ h.results k ∙ s.results;
        successors = sym s'.successors ∙ h.successors k ∙ s.successors;
        regions = sym s'.regions ∙ h.regions k ∙ s.regions;
      }

  pub parts_same : (k : ℕ) (o o' : Operation) → (In block (successors_of t k) → ⊥) → op_at t k ≡ Some o → op_at t' k ≡ Some o' → (o'.head ≡ o.head) × (o'.operands ≡ o.operands)
  parts_same k o o' n e e' =
      let s = op_shows t k o e in
      let s' = op_shows t' k o' e' in
      (some_is (sym s'.head ∙ ap (λ z. z.head) (h.rows k n) ∙ s.head), sym s'.operands ∙ h.operands k n ∙ s.operands)

  -- blocks are entered alike
  enters_other : (c : ℕ) → c ≢ block → (ds es : List Datum) → es ≡ ds → Enters m t t' comparison (block_at t c) (block_at t' c) ds es
  unfolding block_at
  enters_other c ne ds es q = subst (λ x. Enters m t t' comparison (block_at t c) (block_with t' c x) ds es) (sym (h.block_parents c)) (go (block_parent_of t c))
    where
      go : (x : Option ℕ) → Enters m t t' comparison (block_with t c x) (block_with t' c x) ds es
      go None = tt
      go (Some r) =
          (h.bodies c ∙ placed_same (body_of t c), tt, λ env env' e. subst (λ vs. EnvsTied (SameBut deleted) (bind env (arguments_of t c) ds) (bind env' vs es)) (sym (h.arguments c ne)) (subst (λ z. EnvsTied (SameBut deleted) (bind env (arguments_of t c) ds) (bind env' (arguments_of t c) z)) (sym q) (bind_same deleted (arguments_of t c) env env' ds e)))

  enters_it : (ds es : List Datum) → length ds ≡ count → es ≡ remove ds index → Enters m t t' comparison (block_at t block) (block_at t' block) ds es
  unfolding block_at
  enters_it ds es l q = subst (λ x. Enters m t t' comparison (block_at t block) (block_with t' block x) ds es) (sym (h.block_parents block)) (go (block_parent_of t block))
    where
      go : (x : Option ℕ) → Enters m t t' comparison (block_with t block x) (block_with t' block x) ds es
      go None = tt
      go (Some r) =
          (h.bodies block ∙ placed_same (body_of t block), tt, λ env env' e. subst (λ vs. EnvsTied (SameBut deleted) (bind env (arguments_of t block) ds) (bind env' vs es)) (sym h.dropped) (subst (λ z. EnvsTied (SameBut deleted) (bind env (arguments_of t block) ds) (bind env' (remove (arguments_of t block) index) z)) (sym q) (bind_without deleted v is_gone (arguments_of t block) index env env' ds h.argument l e)))

  enters : (c : ℕ) (ds es : List Datum) → PassesWithout block index count (Some c) ds es → Enters m t t' comparison (block_at t c) (block_at t' c) ds es
  enters c ds es (inl x) = subst (λ z. Enters m t t' comparison (block_at t z) (block_at t' z) ds es) (sym (some_is x.0)) (enters_it ds es x.1 x.2)
  enters c ds es (inr x) = enters_other c (λ s. x.0 (ap Some s)) ds es x.1

  region_enters : (k i r : ℕ) → slice_get (regions_of t k) i ≡ Some r → (ds es : List Datum) → PassesWithout block index count (first_of (layout_of t r) None) ds es → Enters m t t' comparison (entry_block t r) (entry_block t' r) ds es
  region_enters k i r e ds es p =
      let here : region_parent_of t r ≡ Some k = ap op_of_slot (w.joined.regions k i r e) in
      let there : region_parent_of t' r ≡ Some k = ap op_of_slot (w'.joined.regions k i r (ap (λ z. slice_get z i) (h.regions k) ∙ e)) in
      subst (λ x. Enters m t t' comparison x (entry_block t' r) ds es) (sym (region_entry t r k here)) (subst (λ x. Enters m t t' comparison (and_block t (first_of (layout_of t r) None)) x ds es) (sym (region_entry t' r k there ∙ ap (λ xs. and_block t' (first_of xs None)) (h.layouts r))) (go (first_of (layout_of t r) None) p))
    where
      go : (x : Option ℕ) → PassesWithout block index count x ds es → Enters m t t' comparison (and_block t x) (and_block t' x) ds es
      go None q = tt
      go (Some c) q = enters c ds es q

  substitutes : Substitutes m t t' comparison
  substitutes = record {
    own_rest = λ k rest u. tt;
    absent = λ k l e. no_op t' k (absent k e (head_of t' k) refl);
    other = λ k o l e. let x = some_of (head_of t' k) (live_forth k (subst IsSome (sym (op_shows t k o e).head) refl)) in (operation_of t' k x.0, make_op t' k x.0 x.1);
    results = λ k o o' l e e' env env' ds s. subst (λ vs. EnvsTied (SameBut deleted) (bind env o.results ds) (bind env' vs ds)) (sym (shows_after k o o' e e').results) (bind_same deleted o.results env env' ds s);
    entries = λ k o o' l e e' i ds es p. subst (λ rs. Enters m t t' comparison (entry_in t (slice_get o.regions i)) (entry_in t' (slice_get rs i)) ds es) (sym (shows_after k o o' e e').regions) (subst (λ rs. Enters m t t' comparison (entry_in t (slice_get rs i)) (entry_in t' (slice_get rs i)) ds es) (op_shows t k o e).regions (entry k i ds es (slice_get (regions_of t k) i) refl p));
    targets = λ k o o' l e e' i j ds es p. subst (λ cs. Enters m t t' comparison (block_in t (slice_get o.successors i)) (block_in t' (slice_get cs j)) ds es) (sym (shows_after k o o' e e').successors) (subst (λ cs. Enters m t t' comparison (block_in t (slice_get cs i)) (block_in t' (slice_get cs j)) ds es) (op_shows t k o e).successors (subst (λ n. Enters m t t' comparison (block_in t (slice_get (successors_of t k) i)) (block_in t' (slice_get (successors_of t k) n)) ds es) (sym p.0) (target ds es (slice_get (successors_of t k) i) p.1)));
  }
    where
      absent : (k : ℕ) → op_at t k ≡ None → (x : Option Head) → head_of t' k ≡ x → head_of t' k ≡ None
      absent k e None q = q
      absent k e (Some y) q =
          let x = some_of (head_of t k) (live_back k (ap is_some q)) in
          let n : None ≡ Some (operation_of t k x.0) = sym e ∙ make_op t k x.0 x.1 in absurd (cc)

      entry : (k i : ℕ) (ds es : List Datum) (x : Option ℕ) → slice_get (regions_of t k) i ≡ x → PassesWithout block index count (entry_key t x) ds es → Enters m t t' comparison (entry_in t x) (entry_in t' x) ds es
      entry k i ds es None e p = tt
      entry k i ds es (Some r) e p = region_enters k i r e ds es p

      target : (ds es : List Datum) (x : Option ℕ) → PassesWithout block index count x ds es → Enters m t t' comparison (block_in t x) (block_in t' x) ds es
      target ds es None p = tt
      target ds es (Some c) p = enters c ds es p

  -- acting alike, in the words of this comparison
  abbrev Acts : ℕ → Operation → Operation → List Datum → List Datum → Type 0
  Acts k o o' first first' = ActAlike m.act (comparison.visits k) (comparison.gotos k) (shape_of m t o) (shape_of m t' o') first first'

  -- what has no region whose entry is the block visits it nowhere, and what does not lead to the block
  -- does not go there
  no_visit : (k : ℕ) → ((r : ℕ) → In r (regions_of t k) → first_of (layout_of t r) None ≢ Some block) → (i : ℕ) (ds es : List Datum) → es ≡ ds → comparison.visits k i ds es
  no_visit k n i ds es q = inr (go (slice_get (regions_of t k) i) refl, q)
    where
      go : (x : Option ℕ) → slice_get (regions_of t k) i ≡ x → entry_key t x ≢ Some block
      go None e f = grind arith
      go (Some r) e f = n r (in_slice (regions_of t k) i r e) f

  no_jump : (k : ℕ) → (In block (successors_of t k) → ⊥) → (i : ℕ) (ds : List Datum) (j : ℕ) (es : List Datum) → (j ≡ i) × (es ≡ ds) → comparison.gotos k i ds j es
  no_jump k n i ds j es q = (q.0, inr (λ e. n (in_slice (successors_of t k) i block e), q.1))

  -- whether a region among these has the block as its entry
  abbrev pub HasEntry : List ℕ → Type 0
  HasEntry rs = (r : ℕ) × In r rs × (first_of (layout_of t r) None ≡ Some block)

  is_entry_or : (x : Option ℕ) → (x ≡ Some block) ⊎ (x ≢ Some block)
  is_entry_or None = inr (λ e. grind arith)
  is_entry_or (Some b) = elim (cases_eq b block) [ inl e ↦ inl (ap Some e) | inr ne ↦ inr (λ e. ne (some_is e)) ]

  entry_more : (r : ℕ) (rs : List ℕ) → (first_of (layout_of t r) None ≡ Some block) ⊎ (first_of (layout_of t r) None ≢ Some block) → HasEntry rs ⊎ ((x : ℕ) → In x rs → first_of (layout_of t x) None ≢ Some block) → HasEntry (r ∷ rs) ⊎ ((x : ℕ) → In x (r ∷ rs) → first_of (layout_of t x) None ≢ Some block)
  entry_more r rs (inl e) others = inl (r, inl refl, e)
  entry_more r rs (inr ne) (inl y) = inl (y.0, inr y.1, y.2)
  entry_more r rs (inr ne) (inr n) = inr (λ x i. neither x i)
    where
      neither : (x : ℕ) → In x (r ∷ rs) → first_of (layout_of t x) None ≢ Some block
      neither x (inl s) = subst (λ z. first_of (layout_of t z) None ≢ Some block) (sym s) ne
      neither x (inr j) = n x j

  pub entry_or : (rs : List ℕ) → HasEntry rs ⊎ ((x : ℕ) → In x rs → first_of (layout_of t x) None ≢ Some block)
  entry_or [] = inr (λ r i. absurd i)
  entry_or (r ∷ rs) = entry_more r rs (is_entry_or (first_of (layout_of t r) None)) (entry_or rs)

  pub count_same : (c : ℕ) → c ≢ block → count_arguments (block_at t c) ≡ count_arguments (block_at t' c)
  unfolding block_at
  count_same c ne = sym (ap (λ x. count_arguments (block_with t' c x)) (h.block_parents c) ∙ go (block_parent_of t c))
    where
      go : (x : Option ℕ) → count_arguments (block_with t' c x) ≡ count_arguments (block_with t c x)
      go None = refl
      go (Some r) = ap length (h.arguments c ne)

  pub entry_count : (k r : ℕ) → In r (regions_of t k) → first_of (layout_of t r) None ≢ Some block → count_arguments (entry_block t r) ≡ count_arguments (entry_block t' r)
  entry_count k r i ne =
      let j = slice_in (regions_of t k) r i in
      let here : region_parent_of t r ≡ Some k = ap op_of_slot (w.joined.regions k j.0 r j.1) in
      let there : region_parent_of t' r ≡ Some k = ap op_of_slot (w'.joined.regions k j.0 r (ap (λ z. slice_get z j.0) (h.regions k) ∙ j.1)) in
      ap count_arguments (region_entry t r k here) ∙ go (first_of (layout_of t r) None) ne ∙ sym (ap count_arguments (region_entry t' r k there ∙ ap (λ xs. and_block t' (first_of xs None)) (h.layouts r)))
    where
      go : (x : Option ℕ) → x ≢ Some block → count_arguments (and_block t x) ≡ count_arguments (and_block t' x)
      go None n = refl
      go (Some c) n = count_same c (λ s. n (ap Some s))

  pub shape_parts : (u : Tree) (o o' : Operation) → o'.head ≡ o.head → o'.operands ≡ o.operands → o'.results ≡ o.results → o'.successors ≡ o.successors → o'.regions ≡ o.regions → shape_of m u o' ≡ shape_of m u o
  unfolding shape_of
  shape_parts u o o' p q r s x = cc

  pub shapes : (k : ℕ) (o o' : Operation) → (In block (successors_of t k) → ⊥) → ((r : ℕ) → In r (regions_of t k) → first_of (layout_of t r) None ≢ Some block) → op_at t k ≡ Some o → op_at t' k ≡ Some o' → shape_of m t o ≡ shape_of m t' o'
  shapes k o o' n ne e e' =
      let s = op_shows t k o e in
      let x = shows_after k o o' e e' in
      let y = parts_same k o o' n e e' in
      shape_same m t t' o (λ r i. let j = subst (In r) (sym s.regions) i in entry_count k r j (ne r j)) (λ c i. count_same c (λ z. n (subst (λ y. In y (successors_of t k)) z (subst (In c) (sym s.successors) i)))) ∙ sym (shape_parts t' o o' y.0 y.1 x.results x.successors x.regions)

  module _ (root : ℕ) (f : IsFit m t root) (leads : (k : ℕ) → IsInside t root k → In block (successors_of t k) → LeadsWithout m t t' block index (kept k) k) (holds : (k r : ℕ) → IsWithin t root k → In r (regions_of t k) → first_of (layout_of t r) None ≡ Some block → HoldsWithout m t t' block index k) where
    -- an operation that does not lead to the block acts alike from the same first input
    acts_same : (k : ℕ) (o o' : Operation) → IsWithin t root k → (In block (successors_of t k) → ⊥) → op_at t k ≡ Some o → op_at t' k ≡ Some o' → (first : List Datum) → Acts k o o' first first
    acts_same k o o' within n e e' first = elim (entry_or (regions_of t k)) [
      | inl x ↦ alike_more m.act _ _ JumpsSame (comparison.gotos k) (shape_of m t o) (shape_of m t' o') first first (λ i ds es p. subst (λ rs. PassesWithout block index count (entry_key t (slice_get rs i)) ds es) (sym (op_shows t k o e).regions) p) (no_jump k n) ((holds k x.0 within x.1 x.2).acts o o' e e' first)
      | inr ne ↦ alike_more m.act PassesSame (comparison.visits k) JumpsSame (comparison.gotos k) (shape_of m t o) (shape_of m t' o') first first (no_visit k ne) (no_jump k n) (alike_refl m.act (shape_of m t o) (shape_of m t' o') first first (shapes k o o' n ne e e') refl)
    ]

    acts_without : (k : ℕ) (o o' : Operation) → IsInside t root k → In block (successors_of t k) → op_at t k ≡ Some o → op_at t' k ≡ Some o' → (first first' : List Datum) → length first ≡ length o.operands → map Some first' ≡ pick (kept k) first → Acts k o o' first first'
    acts_without k o o' inside i e e' first first' l q =
        let x = leads k inside i in
        alike_more m.act PassesSame (comparison.visits k) _ (comparison.gotos k) (shape_of m t o) (shape_of m t' o') first first' (no_visit k (λ r j. absurd (subst (In r) x.childless j))) (λ i ds j es p. (p.0, subst (λ cs. PassesWithout block index count (slice_get cs i) ds es) (sym (op_shows t k o e).successors) p.1)) (x.acts o o' e e' first first' l q)

    first_some : (k : ℕ) (o o' : Operation) (x y : Option (List Datum)) (p q : List Datum) → x ≡ Some p → y ≡ Some q → Acts k o o' p q → FirstAlike m t t' comparison k o o' x y
    first_some k o o' x y p q e g r = subst (λ z. FirstAlike m t t' comparison k o o' z y) (sym e) (subst (λ z. FirstAlike m t t' comparison k o o' (Some p) z) (sym g) r)

    reads : Reads m t t' comparison (RunReaches m t root) (λ s. Unit {0})
    reads s s' i j r k rest o o' e none l oe oe' = elim (decide_in block (successors_of t k)) [ inl b ↦ branch b | inr n ↦ other n ]
      where
        y : IsReady t w root m f.linked.edges f.defined s k rest
        y = ready_when_reached m t root w f s i k rest e none

        input : data_of s.environment o.operands ≡ Some y.input
        input = ap (data_of s.environment) (sym (op_shows t k o oe).operands) ∙ y.has_data

        same : data_of s.environment o'.operands ≡ data_of s'.environment o'.operands
        same = data_same deleted s.environment s'.environment r.environment o'.operands (λ x q. still k x (subst (In x) (sym (op_shows t' k o' oe').operands) q))

        branch : In block (successors_of t k) → FirstAlike m t t' comparison k o o' (data_of s.environment o.operands) (data_of s'.environment o'.operands)
        branch b =
            let q : map Some o'.operands ≡ pick (kept k) o.operands = ap (map Some) (sym (op_shows t' k o' oe').operands) ∙ h.left k b ∙ ap (pick (kept k)) (op_shows t k o oe).operands in
            let x = picked_data s.environment o.operands o'.operands (kept k) y.input input q in
            first_some k o o' _ _ y.input x.0 input (sym same ∙ x.1) (acts_without k o o' y.inside b oe oe' y.input x.0 (data_long s.environment o.operands y.input input) x.2)

        other : (In block (successors_of t k) → ⊥) → FirstAlike m t t' comparison k o o' (data_of s.environment o.operands) (data_of s'.environment o'.operands)
        other n =
            let q = (parts_same k o o' n oe oe').1 in
            first_some k o o' _ _ y.input y.input input (sym same ∙ ap (data_of s.environment) q ∙ input) (acts_same k o o' (inr y.inside) n oe oe' y.input)

    pub dropped_agree : Agree m t t' root
    dropped_agree =
        substituted_agree m t t' comparison substitutes (RunReaches m t root) (λ s. Unit {0}) reads (λ s s' i r k rest l e q. grind arith) root (reached_kept m t root) (anything_kept (step m t')) (record {
          stays = refl;
          same = refl;
          own = tt;
          empty = λ x g. refl;
          alike = λ inputs. begun inputs;
          left = λ inputs world. reached_start m t root inputs world;
          right = λ inputs world. tt;
        })
      where
        begun : (inputs : List Datum) → Begun m t t' comparison root Empty inputs
        begun inputs =
            let x = some_of (head_of t root) f.live in
            let y = some_of (head_of t' root) (live_forth root f.live) in
            let o = operation_of t root x.0 in
            let o' = operation_of t' root y.0 in
            let oe = make_op t root x.0 x.1 in
            let oe' = make_op t' root y.0 y.1 in
            Starts o o' oe oe' (acts_same root o o' (inl refl) (λ i. subst (In block) f.defined.no_successors i) oe oe' inputs) refl
