-- Renaming operands to values of the same data keeps what roots do.
use Rattle.std.proofs.Common.{◌≡◌, ◌≢◌, ◌⊎◌, inl, inr, ℕ, Bool, false, List, [], ◌∷◌, length, map, Option, Some, None, IsSome, IsTrue, slice_get, refl, sym, ap, ap₂, ◌∙◌, subst, arith}
use Rattle.std.proofs.lemmas.List.{length-map}
use Rattle.pliron_core.specs.declared.context.Def.{Def}
use Rattle.pliron_core.specs.declared.context.Def.TheVariants.{Result, Argument}
use Rattle.pliron_core.specs.Changes.{IsDefiningOperationInside}
use Rattle.pliron_core.specs.Tree.{Tree, In, first_of, last_of, IsLive, IsInside, IsWithin, HoldsBlock, head_of, operands_of, successors_of, results_of, regions_of, parent_of, body_of, arguments_of, block_parent_of, region_parent_of, block_parent_operation_of, parent_operation_of, definition_of, up_from, op_of_slot}
use Rattle.pliron_core.specs.Edges.{succs_of, succs_from}
use Rattle.pliron_core.specs.Reads.{has_ssa_at, ssa_in}
use Rattle.pliron_core.proofs.HoldingLemmas.{some_is, some_of, inside_alike, within_alike}
use Rattle.pliron_laws.specs.Datum.{Datum, Empty, Head, Meaning}
use Rattle.pliron_laws.specs.Tree.{Operation, Block, op_at, block_with, block_at, region_with, region_at, entry_of, and_block, entry_block, count_arguments, shape_of}
use Rattle.pliron_laws.specs.States.{Environment, State, bind, prepend_optional, data_of}
use Rattle.pliron_laws.specs.Machine.{entry_in, block_in}
use Rattle.pliron_laws.specs.Agree.{Agree}
use Rattle.pliron_laws.specs.Acting.{PassesSame, JumpsSame}
use Rattle.pliron_laws.specs.Paths.{Path}
use Rattle.pliron_laws.specs.Root.{defining_block, HasPassed, IsDominated, WellDefined}
use Rattle.pliron_laws.specs.Linked.{EndsBlock, IsWellLinked}
use Rattle.pliron_theory.specs.Keeps.{IsFit, KeepsRuns}
use Rattle.pliron_theory.specs.Renaming.{IsRenamed, MayUse, RunReaches, HaveSameData}
use Rattle.pliron_theory.proofs.KeptPlaces.{KeepsPlaces, same_block_holder, same_holder, inside_forth, inside_back, within_forth, within_back}
use Rattle.pliron_theory.proofs.Lockstep.{EnvsTied}
use Rattle.pliron_laws.proofs.Records.{op_shows, operation_of, make_op, no_op}
use Rattle.pliron_theory.proofs.Alike.{alike_refl, shape_same, SameBut, bind_same}
use Rattle.pliron_theory.proofs.Substitute.{placed_all, Comparison, Begun, Starts, Enters, Substitutes, FirstAlike, Reads, Skips, BeginsAlike, substituted_agree, substituted_back}
use Rattle.pliron_theory.proofs.SweptStays.{admitted_same}
use Rattle.pliron_theory.proofs.Reached.{reached_kept, reached_start}

In-map : (f : ℕ → ℕ) (xs : List ℕ) (y : ℕ) → In y (map f xs) → (x : ℕ) × In x xs × (f x ≡ y)
In-map f [] y i = absurd i
In-map f (x ∷ xs) y (inl e) = (x, inl refl, sym e)
In-map f (x ∷ xs) y (inr i) = let r = In-map f xs y i in (r.0, inr r.1, r.2)

module _ (t t' : Tree) (rename : ℕ → ℕ) (h : IsRenamed t t' rename) where
  places : KeepsPlaces t t'
  places = record { parents = h.parents; block_parents = h.block_parents; slots = h.slots }

  made_forth : (root : ℕ) (d : Option Def) → IsDefiningOperationInside t root d → IsDefiningOperationInside t' root d
  made_forth root None i = i
  made_forth root (Some (Result k j)) i = inside_forth places root k i
  made_forth root (Some (Argument b j)) i = (i.0, same_block_holder places b ∙ i.1, within_forth places root i.0 i.2)

  made_back : (root : ℕ) (d : Option Def) → IsDefiningOperationInside t' root d → IsDefiningOperationInside t root d
  made_back root None i = i
  made_back root (Some (Result k j)) i = inside_back places root k i
  made_back root (Some (Argument b j)) i = (i.0, sym (same_block_holder places b) ∙ i.1, within_back places root i.0 i.2)

  succs_same : (b : ℕ) → succs_of t' b ≡ succs_of t b
  succs_same b = ap (λ xs. succs_from t' (last_of None xs)) (h.bodies b) ∙ go (last_of None (body_of t b))
    where
      go : (o : Option ℕ) → succs_from t' o ≡ succs_from t o
      go None = refl
      go (Some k) = h.successors k

  path_back : (a b : ℕ) (before : List ℕ) → Path t' a b before → Path t a b before
  path_back a b [] p = p
  path_back a b (c ∷ before) p = (record { successor = subst (In b) (succs_same c) p.0.successor; same_region = sym (h.block_parents b) ∙ p.0.same_region ∙ h.block_parents c }, path_back a c before p.1)

  passed_forth : (d : Option Def) (before : List ℕ) (b : ℕ) (done : List ℕ) → HasPassed t d before b done → HasPassed t' d before b done
  passed_forth None before b done p = p
  passed_forth (Some (Argument c j)) before b done p = p
  passed_forth (Some (Result k j)) before b done (inl i) = inl i
  passed_forth (Some (Result k j)) before b done (inr x) = inr (x.0, h.parents k ∙ x.1, x.2)

  home_forth : (region : ℕ) (d : Option Def) → up_from (defining_block t d) (λ b. block_parent_of t b) ≡ Some region → up_from (defining_block t' d) (λ b. block_parent_of t' b) ≡ Some region
  home_forth region None e = e
  home_forth region (Some (Argument b j)) e = h.block_parents b ∙ e
  home_forth region (Some (Result k j)) e = ap (λ o. up_from o (λ b. block_parent_of t' b)) (h.parents k) ∙ go (parent_of t k) ∙ e
    where
      go : (o : Option ℕ) → up_from o (λ b. block_parent_of t' b) ≡ up_from o (λ b. block_parent_of t b)
      go None = refl
      go (Some b) = h.block_parents b

  dominated_forth : (user v : ℕ) → IsDominated t user v → IsDominated t' user v
  dominated_forth user v d = record {
    around = d.around;
    holds = within_forth places d.around user d.holds;
    block = d.block;
    region = d.region;
    in_block = h.parents d.around ∙ d.in_block;
    in_region = h.block_parents d.block ∙ d.in_region;
    defined = subst (λ x. up_from (defining_block t' x) (λ b. block_parent_of t' b) ≡ Some d.region) (sym (h.definitions v)) (home_forth d.region (definition_of t v) d.defined);
    passes = λ entry before done rest fe pe be. subst (λ x. HasPassed t' x before d.block done) (sym (h.definitions v)) (passed_forth (definition_of t v) before d.block done (d.passes entry before done rest (ap (λ xs. first_of xs None) (sym (h.layouts d.region)) ∙ fe) (path_back entry d.block before pe) (sym (h.bodies d.block) ∙ be)));
  }

  old_operand : (k v : ℕ) → In v (operands_of t' k) → (x : ℕ) × In x (operands_of t k) × (rename x ≡ v)
  old_operand k v i = In-map rename (operands_of t k) v (subst (In v) (h.operands k) i)

  -- the records

  pub op_renamed : (k : ℕ) (o : Operation) → op_at t k ≡ Some o → op_at t' k ≡ Some (record o { operands = map rename o.operands })
  op_renamed k o e =
      let s = op_shows t k o e in
      let a : operands_of t' k ≡ map rename o.operands = h.operands k ∙ ap (map rename) s.operands in
      let b : successors_of t' k ≡ o.successors = h.successors k ∙ s.successors in
      let c : results_of t' k ≡ o.results = ap (λ z. z.results) (h.rows k) ∙ s.results in
      let d : regions_of t' k ≡ o.regions = ap (λ z. z.regions) (h.rows k) ∙ s.regions in
      let f : parent_of t' k ≡ o.parent = h.parents k ∙ s.parent in
      make_op t' k o.head (ap (λ z. z.head) (h.rows k) ∙ s.head) ∙ ap Some (built o.head _ _ a _ _ c _ _ b _ _ d _ _ f)
    where
      built : (x : Head) (a a' : List ℕ) → a ≡ a' → (b b' : List ℕ) → b ≡ b' → (c c' : List ℕ) → c ≡ c' → (d d' : List ℕ) → d ≡ d' → (e e' : Option ℕ) → e ≡ e' → ◌≡◌ {A = Operation} (record { head = x; operands = a; results = b; successors = c; regions = d; parent = e }) (record { head = x; operands = a'; results = b'; successors = c'; regions = d'; parent = e' })
      built x a a' p b b' q c c' r d d' u e e' v = cc

  block_same : (b : ℕ) → block_at t' b ≡ block_at t b
  unfolding block_at
  block_same b = ap (block_with t' b) (h.block_parents b) ∙ go (block_parent_of t b)
    where
      go : (x : Option ℕ) → block_with t' b x ≡ block_with t b x
      go None = refl
      go (Some r) = ap₂ (λ a k. Some (record { arguments = a; operations = k; parent = r })) (h.arguments b) (h.bodies b)

  region_same : (r : ℕ) → region_at t' r ≡ region_at t r
  unfolding region_at
  region_same r = ap (region_with t' r) (ap op_of_slot (h.slots r)) ∙ go (region_parent_of t r)
    where
      go : (x : Option ℕ) → region_with t' r x ≡ region_with t r x
      go None = refl
      go (Some k) = ap (λ l. Some (record { parent = k; blocks = l })) (h.layouts r)

  entry_same : (r : ℕ) → entry_block t' r ≡ entry_block t r
  entry_same r = ap (λ x. and_block t' (entry_of x)) (region_same r) ∙ go (entry_of (region_at t r))
    where
      go : (x : Option ℕ) → and_block t' x ≡ and_block t x
      go None = refl
      go (Some b) = block_same b

  pub shape_renamed : (m : Meaning) (o : Operation) → shape_of m t o ≡ shape_of m t' (record o { operands = map rename o.operands })
  unfolding shape_of
  shape_renamed m o =
      shape_same m t t' o (λ r i. ap count_arguments (sym (entry_same r))) (λ b i. ap count_arguments (sym (block_same b)))
      ∙ ap (λ n. record (shape_of m t' o) { operands = n }) (sym (length-map o.operands rename))

  -- a fit root stays fit

  module _ (m : Meaning) (root : ℕ) (f : IsFit m t root) (uses : (user v : ℕ) → In v (operands_of t user) → MayUse t root user (rename v)) where
    defined : WellDefined m t' root
    defined = record {
      no_successors = h.successors root ∙ f.defined.no_successors;
      own_values = λ k v i j. own k v i (old_operand k v j);
      dominance = λ k r i j. subst (λ o. IsTrue (has_ssa_at t' o)) (sym (ap op_of_slot (h.slots r))) (ssa (region_parent_of t r) (f.defined.dominance k r (within_back places root k i) (subst (In r) (ap (λ z. z.regions) (h.rows k)) j)));
      forwards = λ k i b o ins e br s. forwards k i b o ins e br s;
      terminators = λ k b x i e tr q. ap (last_of None) (h.bodies b) ∙ f.defined.terminators k b x (inside_back places root k i) (sym (ap (λ z. z.head) (h.rows k)) ∙ e) tr (sym (h.parents k) ∙ q);
      unused = λ k v user i ne j u. jumper k v user i ne j (old_operand user v u);
      dominated = λ user v i made. dominated user v (old_operand user v i) made;
    }
      where
        own : (k v : ℕ) → IsInside t' root k → (x : ℕ) × In x (operands_of t k) × (rename x ≡ v) → IsDefiningOperationInside t' root (definition_of t' v)
        own k v i x = subst (λ z. IsDefiningOperationInside t' root (definition_of t' z)) x.2 (subst (IsDefiningOperationInside t' root) (sym (h.definitions (rename x.0))) (made_forth root (definition_of t (rename x.0)) ((uses k x.0 x.1).own (inside_back places root k i))))

        ssa : (o : Option ℕ) → IsTrue (has_ssa_at t o) → IsTrue (has_ssa_at t' o)
        ssa None e = e
        ssa (Some k) e = subst (λ z. IsTrue (ssa_in z.head)) (sym (h.rows k)) e

        forwards : (k i b : ℕ) (o : Operation) → IsInside t' root k → op_at t' k ≡ Some o → IsTrue (m.is_branch o.head) → slice_get o.successors i ≡ Some b → length (m.forwarded (shape_of m t' o) i) ≡ length (arguments_of t' b)
        forwards k i b o ins e br s =
            let x = some_of (head_of t k) (subst IsSome (ap (λ z. z.head) (h.rows k)) (subst IsSome (sym (op_shows t' k o e).head) refl)) in
            let old = make_op t k x.0 x.1 in
            let same : record (operation_of t k x.0) { operands = map rename (operands_of t k) } ≡ o = some_is (sym (op_renamed k (operation_of t k x.0) old) ∙ e) in
            let base = f.defined.forwards k i b (operation_of t k x.0) (inside_back places root k ins) old (subst (λ z. IsTrue (m.is_branch z)) (sym (ap (λ z. z.head) same)) br) (ap (λ z. slice_get z.successors i) same ∙ s) in
            ap (λ z. length (m.forwarded (shape_of m t' z) i)) (sym same) ∙ ap (λ z. length (m.forwarded z i)) (sym (shape_renamed m (operation_of t k x.0))) ∙ base ∙ ap length (sym (h.arguments b))

        jumper : (k v user : ℕ) → IsInside t' root k → successors_of t' k ≢ [] → In v (results_of t' k) → (x : ℕ) × In x (operands_of t user) × (rename x ≡ v) → ⊥
        jumper k v user i ne j x = (uses user x.0 x.1).no_jumper k (inside_back places root k i) (λ e. ne (h.successors k ∙ e)) (subst (λ z. In z (results_of t k)) (sym x.2) (subst (In v) (ap (λ z. z.results) (h.rows k)) j))

        dominated : (user v : ℕ) → (x : ℕ) × In x (operands_of t user) × (rename x ≡ v) → IsDefiningOperationInside t' root (definition_of t' v) → IsDominated t' user v
        dominated user v x made = subst (IsDominated t' user) x.2 (dominated_forth user (rename x.0) ((uses user x.0 x.1).dominated (made_back root (definition_of t (rename x.0)) (subst (IsDefiningOperationInside t' root) (h.definitions (rename x.0)) (subst (λ z. IsDefiningOperationInside t' root (definition_of t' z)) (sym x.2) made)))))

    linked : IsWellLinked m t' root
    linked = record {
      edges = λ k s i held. edge (f.linked.edges k s (subst (In s) (h.successors k) i) (held_back k s held));
      admitted = λ k i. admitted_same m t t' k (ap (λ z. z.head) (h.rows k)) (ap length (h.operands k) ∙ length-map (operands_of t k) rename) (ap (λ z. length z.results) (h.rows k)) (ap length (h.successors k)) (ap (λ z. length z.regions) (h.rows k)) (f.linked.admitted k (within_back places root k i));
    }
      where
        held_back : (k s : ℕ) → IsInside t' root k ⊎ HoldsBlock t' root s → IsInside t root k ⊎ HoldsBlock t root s
        held_back k s (inl i) = inl (inside_back places root k i)
        held_back k s (inr x) = inr (x.0, sym (same_block_holder places s) ∙ x.1, within_back places root x.0 x.2)

        edge : {k : ℕ} → EndsBlock t k → EndsBlock t' k
        edge {k} ends = record {
          block = ends.block;
          in_block = h.parents k ∙ ends.in_block;
          last = ap (last_of None) (h.bodies ends.block) ∙ ends.last;
          own_region = λ z j. h.block_parents z ∙ ends.own_region z (subst (In z) (h.successors k) j) ∙ sym (h.block_parents ends.block);
        }

    pub renamed_fit : IsFit m t' root
    renamed_fit = record { live = subst (λ z. IsSome z.head) (sym (h.rows root)) f.live; chosen = λ x e. f.chosen x (sym (ap (λ z. z.head) (h.rows root)) ∙ e); defined = defined; linked = linked }

  -- it does the same

  abbrev none_gone : ℕ → Bool
  none_gone v = false

  abbrev pub comparison : Comparison
  comparison = record { places = λ k. None; swap = λ k. k; Own = λ rest. Unit {0}; Env = SameBut none_gone; visits = λ k. PassesSame; gotos = λ k. JumpsSame }

  placed_same : (ks : List ℕ) → ks ≡ placed_all (λ k. None) (λ k. k) ks
  placed_same [] = refl
  placed_same (k ∷ ks) = ap (λ l. k ∷ l) (placed_same ks)

  one_block : (m : Meaning) (b : Option Block) (ds es : List Datum) → es ≡ ds → Enters m t t' comparison b b ds es
  one_block m None ds es q = tt
  one_block m (Some b) ds es q = (placed_same b.operations, tt, λ env env' e. subst (λ z. EnvsTied (SameBut none_gone) (bind env b.arguments ds) (bind env' b.arguments z)) (sym q) (bind_same none_gone b.arguments env env' ds e))

  two_blocks : (m : Meaning) (b b' : Option Block) → b' ≡ b → (ds es : List Datum) → es ≡ ds → Enters m t t' comparison b b' ds es
  two_blocks m b b' e ds es q = subst (λ x. Enters m t t' comparison b x ds es) (sym e) (one_block m b ds es q)

  same_op : (k : ℕ) (o o' : Operation) → op_at t k ≡ Some o → op_at t' k ≡ Some o' → record o { operands = map rename o.operands } ≡ o'
  same_op k o o' e e' = some_is (sym (op_renamed k o e) ∙ e')

  substitutes : (m : Meaning) → Substitutes m t t' comparison
  substitutes m = record {
    own_rest = λ k rest u. tt;
    absent = λ k l e. absent k e;
    other = λ k o l e. (record o { operands = map rename o.operands }, op_renamed k o e);
    results = λ k o o' l e e' env env' ds s. subst (λ z. EnvsTied (SameBut none_gone) (bind env o.results ds) (bind env' z.results ds)) (same_op k o o' e e') (bind_same none_gone o.results env env' ds s);
    entries = λ k o o' l e e' i ds es v. subst (λ z. Enters m t t' comparison (entry_in t (slice_get o.regions i)) (entry_in t' (slice_get z.regions i)) ds es) (same_op k o o' e e') (entry (slice_get o.regions i) ds es v);
    targets = λ k o o' l e e' i j ds es v. subst (λ z. Enters m t t' comparison (block_in t (slice_get o.successors i)) (block_in t' (slice_get z.successors j)) ds es) (same_op k o o' e e') (subst (λ n. Enters m t t' comparison (block_in t (slice_get o.successors i)) (block_in t' (slice_get o.successors n)) ds es) (sym v.0) (target (slice_get o.successors i) ds es v.1));
  }
    where
      absent : (k : ℕ) → op_at t k ≡ None → op_at t' k ≡ None
      absent k e = go (head_of t k) refl
        where
          go : (x : Option Head) → head_of t k ≡ x → op_at t' k ≡ None
          go None q = no_op t' k (ap (λ z. z.head) (h.rows k) ∙ q)
          go (Some x) q = let n : None ≡ Some (operation_of t k x) = sym e ∙ make_op t k x q in absurd (cc)

      entry : (x : Option ℕ) (ds es : List Datum) → es ≡ ds → Enters m t t' comparison (entry_in t x) (entry_in t' x) ds es
      entry None ds es q = tt
      entry (Some r) ds es q = two_blocks m (entry_block t r) (entry_block t' r) (entry_same r) ds es q

      target : (x : Option ℕ) (ds es : List Datum) → es ≡ ds → Enters m t t' comparison (block_in t x) (block_in t' x) ds es
      target None ds es q = tt
      target (Some b) ds es q = two_blocks m (block_at t b) (block_at t' b) (block_same b) ds es q

  first_alike : (m : Meaning) (k : ℕ) (o o' : Operation) → shape_of m t o ≡ shape_of m t' o' → (x y : Option (List Datum)) → x ≡ y → FirstAlike m t t' comparison k o o' x y
  first_alike m k o o' s None None e = tt
  first_alike m k o o' s None (Some y) e = grind arith
  first_alike m k o o' s (Some x) None e = grind arith
  first_alike m k o o' s (Some x) (Some y) e = alike_refl m.act (shape_of m t o) (shape_of m t' o') x y s (some_is e)

  data_renamed : (env env' : Environment) (vs : List ℕ) → ((v : ℕ) → In v vs → env v ≡ env' (rename v)) → data_of env vs ≡ data_of env' (map rename vs)
  data_renamed env env' [] f = refl
  data_renamed env env' (v ∷ vs) f = ap₂ prepend_optional (f v (inl refl)) (data_renamed env env' vs (λ w i. f w (inr i)))

  module _ (m : Meaning) (root : ℕ) (live : IsLive t root) (same : HaveSameData m t t' rename root) where
    reads : Reads m t t' comparison (RunReaches m t root) (RunReaches m t' root)
    reads s s' i j r k rest o o' e none l oe oe' =
        let f = same_op k o o' oe oe' in
        first_alike m k o o' (shape_renamed m o ∙ ap (shape_of m t') f) (data_of s.environment o.operands) (data_of s'.environment o'.operands)
        (data_renamed s.environment s'.environment o.operands (λ v q. same s s' k v rest i j (λ x. r.environment x refl) e (r.place.0 ∙ sym (placed_same s.rest) ∙ e) none (sym r.answer ∙ none) (subst (In v) (sym (op_shows t k o oe).operands) q) ∙ r.environment (rename v) refl) ∙ ap (λ z. data_of s'.environment z.operands) f)

    skips : Skips m t t' comparison (RunReaches m t root)
    skips s s' i r k rest l e q = grind arith

    begun : (inputs : List Datum) → Begun m t t' comparison root Empty inputs
    begun inputs =
        let x = some_of (head_of t root) live in
        let o = operation_of t root x.0 in
        let oe = make_op t root x.0 x.1 in
        Starts o (record o { operands = map rename o.operands }) oe (op_renamed root o oe) (alike_refl m.act _ _ inputs inputs (shape_renamed m o) refl) refl

    begins : BeginsAlike m t t' comparison (substitutes m) (RunReaches m t root) (RunReaches m t' root) reads skips root
    begins = record {
      stays = refl;
      same = refl;
      own = tt;
      empty = λ v g. refl;
      alike = λ inputs. begun inputs;
      left = λ inputs world. reached_start m t root inputs world;
      right = λ inputs world. reached_start m t' root inputs world;
    }

    pub renamed_agree : Agree m t t' root
    renamed_agree = substituted_agree m t t' comparison (substitutes m) (RunReaches m t root) (RunReaches m t' root) reads skips root (reached_kept m t root) (reached_kept m t' root) begins

    -- a state of a run after it has its like before
    pub renamed_back : (s' : State) → RunReaches m t' root s' → (k : ℕ) (rest : List ℕ) → s'.rest ≡ k ∷ rest → s'.answer ≡ None → (s : State) × RunReaches m t root s × (s.rest ≡ k ∷ rest) × (s.answer ≡ None) × ((v : ℕ) → s.environment v ≡ s'.environment v)
    renamed_back s' r k rest e none =
        let x = substituted_back m t t' comparison (substitutes m) (RunReaches m t root) (RunReaches m t' root) reads skips root (reached_kept m t root) (reached_kept m t' root) begins s' r in
        (x.0, x.1, placed_same x.0.rest ∙ sym x.2.place.0 ∙ e, x.2.answer ∙ none, λ v. x.2.environment v refl)

pub renamed_keeps : (m : Meaning) (t t' : Tree) (rename : ℕ → ℕ) → IsRenamed t t' rename → length t.operations ≡ length t'.operations → ((root : ℕ) → IsFit m t root → (user v : ℕ) → In v (operands_of t user) → MayUse t root user (rename v)) → ((root : ℕ) → IsFit m t root → IsFit m t' root → HaveSameData m t t' rename root) → KeepsRuns m t t'
renamed_keeps m t t' rename h long uses same = record {
  agrees = λ root f l. renamed_agree t t' rename h m root f.live (same root f (renamed_fit t t' rename h m root f (uses root f)));
  heads = λ root f l. ap (λ z. z.head) (h.rows root);
  stays = λ root f l. renamed_fit t t' rename h m root f (uses root f);
  grows = omega (arith, long);
  fewer = λ root lt l. subst (λ z. IsSome z.head) (h.rows root) l;
}

-- a value that an operand names already
pub may_use_own : (m : Meaning) (t : Tree) (root user v : ℕ) → IsFit m t root → In v (operands_of t user) → MayUse t root user v
may_use_own m t root user v f i = record { own = λ k. f.defined.own_values user v k i; no_jumper = λ k k_in ne j. f.defined.unused k v user k_in ne j i; dominated = λ made. f.defined.dominated user v i made }
