-- A root is refined by what is left without operations that give at once or are undefined, and blocks that no run comes to.
-- (`SweptAgree` with another premise, and another end.)
use Rattle.std.proofs.Common.{◌≡◌, ◌⊎◌, inl, inr, ⊎_elim, ℕ, ◌+◌, ◌<◌, Bool, true, false, true≢false, List, [], ◌∷◌, ◌++◌, length, Option, Some, None, slice_get, refl, sym, ap, ap₂, ◌∙◌, subst, arith, append_assoc, if◌then◌else◌}
use Rattle.std.proofs.lemmas.Bool.Decides.{eqb_tells}
use Rattle.pliron_core.specs.Tree.{Tree, In, IsLive, head_of, operands_of, regions_of, parent_of, body_of, definition_of}
use Rattle.pliron_core.specs.Invariant.{IsTree}
use Rattle.pliron_core.proofs.ListLemmas.{In-right}
use Rattle.pliron_core.proofs.HoldingLemmas.{some_is, some_of, in_slice, slice_in}
use Rattle.pliron_laws.specs.Datum.{Datum, Empty, Head, Meaning, Move, Give, Trap}
use Rattle.pliron_laws.specs.Tree.{Operation, Block, op_at, block_at, entry_block, shape_of}
use Rattle.pliron_laws.specs.States.{Environment, State, Continues, Over, Trapped, environment_with, bind, data_of, input_of}
use Rattle.pliron_laws.specs.Machine.{at_rest, after_giving, entry_in, block_in, perform, move, turn, step_at, step}
use Rattle.pliron_laws.specs.Acting.{PassesSame, JumpsSame}
use Rattle.pliron_laws.specs.Root.{WellDefined}
use Rattle.pliron_laws.specs.Linked.{EdgesLast}
use Rattle.pliron_theory.specs.Sweeping.{is_maker_dead, IsSwept}
use Rattle.pliron_theory_refinement.specs.Refinement.{Relation, IsPreorder, Refines, DeadRemovable}
use Rattle.pliron_theory.proofs.Simulation.{anything_kept}
use Rattle.pliron_theory.proofs.Lockstep.{Tied, EnvsTied}
use Rattle.pliron_theory.proofs.Bound.{IsOnWay, IsReady, ready, way_kept, way_start}
use Rattle.pliron_laws.proofs.Records.{op_shows, block_shows, entry_shows, operation_of, make_op}
use Rattle.pliron_theory.proofs.Alike.{alike_refl, SameBut, bind_same, data_same, data_long}
use Rattle.pliron_theory.proofs.Substitute.{put_one, placed_all, taken, one_if, Comparison}
use Rattle.pliron_theory_refinement.proofs.RefinedSubstitute.{Begun, Starts, HeadAt, PlaceAt, fresh, ties, Enters, Substitutes, FirstAlike, Reads, Skips, BeginsAlike, substituted_refines}
use Rattle.pliron_theory.proofs.SweptLists.{place_if, placed_swept}
use Rattle.pliron_theory.proofs.SweptRecords.{SweptBlock, op_same, block_is_swept, entry_is_swept, shape_swept}

stays_live : (b : Bool) → place_if b ≡ None → b ≡ false
stays_live true e = grind arith
stays_live false e = refl

taken_dead : (b : Bool) (l : List ℕ) → place_if b ≡ Some l → b ≡ true
taken_dead true l e = refl
taken_dead false l e = grind arith

abbrev Given : Meaning → Tree → Operation → List Datum → Type 0
Given m t o input = (x : List Datum) × (m.act (shape_of m t o) Empty input ≡ Give x) × (length x ≡ length o.results)

same_op : (t t' : Tree) (k : ℕ) (o o' : Operation) → op_at t' k ≡ op_at t k → op_at t k ≡ Some o → op_at t' k ≡ Some o' → o' ≡ o
same_op t t' k o o' e f g = some_is (sym g ∙ e ∙ f)

module _ (deleted : ℕ → Bool) where
  bound_gone : (env env' : Environment) → SameBut deleted env env' → (v : ℕ) (d : Datum) → deleted v ≡ true → SameBut deleted (environment_with env v d) env'
  unfolding environment_with
  bound_gone env env' e v d g w l = ⊎_elim
      (λ y. absurd (true≢false (sym g ∙ ap deleted (sym y.1) ∙ l)))
      (λ n. ap (λ b. if b then Some d else env w) n.0 ∙ e w l)
      (eqb_tells w v)

  -- binding values that are gone changes nothing else
  pub bind_gone : (vs : List ℕ) (ds : List Datum) (env env' : Environment) → length ds ≡ length vs → ((v : ℕ) → In v vs → deleted v ≡ true) → SameBut deleted env env' → (env1 : Environment) × (bind env vs ds ≡ Some env1) × SameBut deleted env1 env'
  bind_gone [] [] env env' l g e = (env, refl, e)
  bind_gone [] (d ∷ ds) env env' l g e = grind arith
  bind_gone (v ∷ vs) [] env env' l g e = grind arith
  bind_gone (v ∷ vs) (d ∷ ds) env env' l g e = bind_gone vs ds (environment_with env v d) env' (omega arith) (λ x i. g x (inr i)) (bound_gone env env' e v d (g v (inl refl)))

module _ (m : Meaning) (t t' : Tree) (dead dead_block : ℕ → Bool) (w : IsTree t) (w' : IsTree t') (h : IsSwept t t' dead dead_block) (root : ℕ) where
  abbrev pub deleted : ℕ → Bool
  deleted v = is_maker_dead dead dead_block (definition_of t v)

  -- the rest of a block that is left, or what the run of the root itself is at
  abbrev pub IsLiveRest : List ℕ → Type 0
  IsLiveRest rest = (rest ≡ root ∷ []) ⊎ ((rest ≡ []) ⊎ ((b : ℕ) × (done : List ℕ) × (body_of t b ≡ done ++ rest) × (dead_block b ≡ false)))

  abbrev pub comparison : Comparison
  comparison = record { places = λ k. place_if (dead k); swap = λ k. k; Own = IsLiveRest; Env = SameBut deleted; visits = λ k. PassesSame; gotos = λ k. JumpsSame }

  live_rest : (k : ℕ) (rest : List ℕ) → IsLiveRest (k ∷ rest) → IsLiveRest rest
  live_rest k rest (inl e) = let f : rest ≡ [] = cc in inr (inl f)
  live_rest k rest (inr (inl e)) = grind arith
  live_rest k rest (inr (inr x)) = inr (inr (x.0, x.1 ++ k ∷ [], x.2 ∙ sym (append_assoc x.1 (k ∷ []) rest), x.3))

  enters_swept : (b b' : Option Block) (ds es : List Datum) → SweptBlock dead b b' → es ≡ ds → ((x : Block) → b ≡ Some x → IsLiveRest x.operations) → Enters m t t' comparison b b' ds es
  enters_swept None None ds es s q own = tt
  enters_swept None (Some y) ds es s q own = s
  enters_swept (Some x) None ds es s q own = s
  enters_swept (Some x) (Some y) ds es s q own =
      (s.0 ∙ sym (placed_swept dead x.operations), own x refl, λ env env' e. subst (λ vs. EnvsTied (SameBut deleted) (bind env x.arguments ds) (bind env' vs es)) (sym s.1) (subst (λ z. EnvsTied (SameBut deleted) (bind env x.arguments ds) (bind env' x.arguments z)) (sym q) (bind_same deleted x.arguments env env' ds e)))

  own_entry : (k i r : ℕ) → dead k ≡ false → slice_get (regions_of t k) i ≡ Some r → (x : Block) → entry_block t r ≡ Some x → IsLiveRest x.operations
  own_entry k i r l e x f =
      let s = entry_shows t r x f in
      inr (inr (s.key, [], (block_shows t s.key x s.liveness).operations, h.entries k r s.key l (in_slice (regions_of t k) i r e) s.entry))

  own_target : (b : ℕ) → dead_block b ≡ false → (x : Block) → block_at t b ≡ Some x → IsLiveRest x.operations
  own_target b l x f = inr (inr (b, [], (block_shows t b x f).operations, l))

  substitutes : Substitutes m t t' comparison
  substitutes = record {
    own_rest = live_rest;
    absent = λ k l e. op_same t t' dead dead_block w w' h k (stays_live (dead k) l) ∙ e;
    other = λ k o l e. (o, op_same t t' dead dead_block w w' h k (stays_live (dead k) l) ∙ e);
    results = λ k o o' l oe oe' env env' ds e. subst (λ z. EnvsTied (SameBut deleted) (bind env o.results ds) (bind env' z.results ds)) (sym (one k o o' (stays_live (dead k) l) oe oe')) (bind_same deleted o.results env env' ds e);
    entries = λ k o o' l oe oe' i ds es v. subst (λ z. Enters m t t' comparison (entry_in t (slice_get o.regions i)) (entry_in t' (slice_get z.regions i)) ds es) (sym (one k o o' (stays_live (dead k) l) oe oe')) (entry k o (stays_live (dead k) l) oe i ds es v (slice_get o.regions i) refl);
    targets = λ k o o' l oe oe' i j ds es v. subst (λ z. Enters m t t' comparison (block_in t (slice_get o.successors i)) (block_in t' (slice_get z.successors j)) ds es) (sym (one k o o' (stays_live (dead k) l) oe oe')) (subst (λ n. Enters m t t' comparison (block_in t (slice_get o.successors i)) (block_in t' (slice_get o.successors n)) ds es) (sym v.0) (target k o (stays_live (dead k) l) oe i ds es v.1 (slice_get o.successors i) refl));
  }
    where
      one : (k : ℕ) (o o' : Operation) → dead k ≡ false → op_at t k ≡ Some o → op_at t' k ≡ Some o' → o' ≡ o
      one k o o' l oe oe' = same_op t t' k o o' (op_same t t' dead dead_block w w' h k l) oe oe'

      entry : (k : ℕ) (o : Operation) → dead k ≡ false → op_at t k ≡ Some o → (i : ℕ) (ds es : List Datum) → es ≡ ds → (x : Option ℕ) → slice_get o.regions i ≡ x → Enters m t t' comparison (entry_in t x) (entry_in t' x) ds es
      entry k o l oe i ds es q None e = tt
      entry k o l oe i ds es q (Some r) e =
          let at : slice_get (regions_of t k) i ≡ Some r = ap (λ z. slice_get z i) (op_shows t k o oe).regions ∙ e in
          enters_swept (entry_block t r) (entry_block t' r) ds es (entry_is_swept t t' dead dead_block w w' h k i r l at) q (own_entry k i r l at)

      target : (k : ℕ) (o : Operation) → dead k ≡ false → op_at t k ≡ Some o → (i : ℕ) (ds es : List Datum) → es ≡ ds → (x : Option ℕ) → slice_get o.successors i ≡ x → Enters m t t' comparison (block_in t x) (block_in t' x) ds es
      target k o l oe i ds es q None e = tt
      target k o l oe i ds es q (Some b) e =
          let lb = h.targets k b l (subst (In b) (sym (op_shows t k o oe).successors) (in_slice o.successors i b e)) in
          enters_swept (block_at t b) (block_at t' b) ds es (block_is_swept t t' dead dead_block w w' h b lb) q (own_target b lb)

  first_alike : (k : ℕ) (o o' : Operation) → shape_of m t o ≡ shape_of m t' o' → (x y : Option (List Datum)) → x ≡ y → FirstAlike m t t' comparison k o o' x y
  first_alike k o o' s None None e = tt
  first_alike k o o' s None (Some y) e = grind arith
  first_alike k o o' s (Some x) None e = grind arith
  first_alike k o o' s (Some x) (Some y) e = alike_refl m.act (shape_of m t o) (shape_of m t' o') x y s (some_is e)

  shapes : (k : ℕ) (o o' : Operation) → dead k ≡ false → op_at t k ≡ Some o → op_at t' k ≡ Some o' → shape_of m t o ≡ shape_of m t' o'
  shapes k o o' l oe oe' = shape_swept t t' dead dead_block w w' h m k o l oe ∙ ap (shape_of m t') (sym (same_op t t' k o o' (op_same t t' dead dead_block w w' h k l) oe oe'))

  reads : (I J : State → Type 0) → Reads m t t' comparison I J
  reads I J s s' i j r k rest o o' e none l oe oe' =
      let lk = stays_live (dead k) l in
      let same = same_op t t' k o o' (op_same t t' dead dead_block w w' h k lk) oe oe' in
      first_alike k o o' (shapes k o o' lk oe oe') (data_of s.environment o.operands) (data_of s'.environment o'.operands)
      (data_same deleted s.environment s'.environment r.environment o.operands (λ v q. h.values k v lk (subst (In v) (sym (op_shows t k o oe).operands) q)) ∙ ap (λ z. data_of s'.environment z.operands) (sym same))

  module _ (edges : EdgesLast t root) (well : WellDefined m t root) (gives : DeadRemovable m t dead dead_block root) (left : dead root ≡ false) where
    dead_step : (s s' : State) → IsOnWay t w root m edges well s → Tied (ties m t t' comparison) s s' → (k : ℕ) (rest : List ℕ) → s.rest ≡ k ∷ rest → dead k ≡ true → (b : ℕ) → parent_of t k ≡ Some b → dead_block b ≡ false → ((a : State) × (step m t s ≡ Continues a) × Tied (ties m t t' comparison) a s' × (taken (λ z. place_if (dead z)) a.rest < taken (λ z. place_if (dead z)) s.rest)) ⊎ ((es : List Datum) × (step m t s ≡ Over (Trapped es)))
    unfolding step
    dead_step s s' on r k rest e d b pe lb = by_act (gives k b y.inside d pe lb o oe y.input (data_long s.environment (operands_of t k) y.input y.has_data))
      where
        fr : (s.memo ≡ Empty) × (s.answer ≡ None)
        fr = subst (λ x. HeadAt m t t' comparison (place_if x) k s.memo s.answer) d (subst (λ z. PlaceAt m t t' comparison z s.memo s.answer) e r.place.1)

        y : IsReady t w root m edges well s k rest
        y = ready t w root m edges well s on k rest e fr.1

        hd : (x : Head) × (head_of t k ≡ Some x)
        hd = some_of (head_of t k) (w.joined.all_in_place k b pe).0

        o : Operation
        o = operation_of t k hd.0

        oe : op_at t k ≡ Some o
        oe = make_op t k hd.0 hd.1

        bg : (gv : Given m t o y.input) → (env1 : Environment) × (bind s.environment o.results gv.0 ≡ Some env1) × SameBut deleted env1 s'.environment
        bg gv = bind_gone deleted o.results gv.0 s.environment s'.environment gv.2 (λ v i. let j = slice_in o.results v i in ap (is_maker_dead dead dead_block) (w.joined.results k j.0 v j.1) ∙ d) r.environment

        a : Given m t o y.input → State
        a gv = at_rest s (bg gv).0 rest (y.inner ∷ y.others)

        reads_now : (x : Move) → m.act (shape_of m t o) Empty y.input ≡ x → step m t s ≡ perform t s o k rest x
        reads_now x q =
            ap (step_at m t s) e
            ∙ ap (turn m t s k rest) oe
            ∙ ap (move m t s o k rest) (ap (input_of s.environment o.operands) fr.1 ∙ y.has_data)
            ∙ ap (perform t s o k rest) (ap (λ z. m.act (shape_of m t o) z y.input) fr.0 ∙ q)

        steps : (gv : Given m t o y.input) → step m t s ≡ Continues (a gv)
        steps gv = reads_now (Give gv.0) gv.1 ∙ ap₂ (λ x z. after_giving s rest x gv.0 z) y.waits (bg gv).1

        tied : (gv : Given m t o y.input) → Tied (ties m t t' comparison) (a gv) s'
        tied gv = record {
          environment = (bg gv).2;
          memo = sym fr.0 ∙ r.memo;
          answer = sym fr.1 ∙ r.answer;
          place = (r.place.0 ∙ ap (placed_all (λ z. place_if (dead z)) (λ z. z)) e ∙ ap (λ x. put_one (λ z. z) (place_if x) k (placed_all (λ z. place_if (dead z)) (λ z. z) rest)) d, fresh m t t' comparison rest, live_rest k rest (subst IsLiveRest e r.place.2));
          waiting = rw y.waits at r.waiting;
          world = r.world;
          effects = r.effects;
        }

        count : taken (λ z. place_if (dead z)) s.rest ≡ 1 + taken (λ z. place_if (dead z)) rest
        count = ap (taken (λ z. place_if (dead z))) e ∙ ap (λ x. one_if (place_if x) + taken (λ z. place_if (dead z)) rest) d

        shorter : (gv : Given m t o y.input) → taken (λ z. place_if (dead z)) (a gv).rest < taken (λ z. place_if (dead z)) s.rest
        shorter gv = omega (arith, count)

        by_act : Given m t o y.input ⊎ (m.act (shape_of m t o) Empty y.input ≡ Trap) → ((a : State) × (step m t s ≡ Continues a) × Tied (ties m t t' comparison) a s' × (taken (λ z. place_if (dead z)) a.rest < taken (λ z. place_if (dead z)) s.rest)) ⊎ ((es : List Datum) × (step m t s ≡ Over (Trapped es)))
        by_act (inl gv) = inl (a gv, steps gv, tied gv, shorter gv)
        by_act (inr q) = inr (s.effects, reads_now Trap q)

    skips : Skips m t t' comparison (IsOnWay t w root m edges well)
    skips s s' on r k rest l e q = go (subst IsLiveRest e r.place.2)
      where
        d : dead k ≡ true
        d = taken_dead (dead k) l q

        go : IsLiveRest (k ∷ rest) → ((a : State) × (step m t s ≡ Continues a) × Tied (ties m t t' comparison) a s' × (taken (λ z. place_if (dead z)) a.rest < taken (λ z. place_if (dead z)) s.rest)) ⊎ ((es : List Datum) × (step m t s ≡ Over (Trapped es)))
        go (inl f) = let g : k ≡ root = cc in absurd (true≢false (sym d ∙ ap dead g ∙ left))
        go (inr (inl f)) = grind arith
        go (inr (inr x)) = dead_step s s' on r k rest e d x.0 (w.bodies.owned k x.0 (subst (In k) (sym x.2) (In-right k x.1 (k ∷ rest) (inl refl)))) x.3

    begun : (live : IsLive t root) (inputs : List Datum) → Begun m t t' comparison root Empty inputs
    begun live inputs =
        let hd = some_of (head_of t root) live in
        let oe = make_op t root hd.0 hd.1 in
        let oe' = op_same t t' dead dead_block w w' h root left ∙ oe in
        Starts (operation_of t root hd.0) (operation_of t root hd.0) oe oe' (alike_refl m.act _ _ inputs inputs (shapes root (operation_of t root hd.0) (operation_of t root hd.0) left oe oe') refl) refl

    abbrev On : State → Type 0
    On = IsOnWay t w root m edges well

    abbrev Any : State → Type 0
    Any s = Unit {0}

    begins : (R E : Relation) (p : IsPreorder R) (q : IsPreorder E) → IsLive t root → BeginsAlike m t t' comparison substitutes R E p q On Any (reads On Any) skips root
    begins R E p q live = record {
      stays = ap place_if left;
      same = refl;
      own = inl refl;
      empty = λ v g. refl;
      alike = λ inputs. begun live inputs;
      left = λ inputs world. way_start t w root m edges well inputs world;
      right = λ inputs world. tt;
    }

    pub swept_refines : (R E : Relation) → IsPreorder R → IsPreorder E → IsLive t root → Refines R E m t t' root
    swept_refines R E p q live = substituted_refines m t t' comparison substitutes R E p q On Any (reads On Any) skips root (way_kept t w root m edges well) (anything_kept (step m t')) (begins R E p q live)
