-- The runs of a function before and after, where it isn't at the call.
use Rattle.std.proofs.Common.{◌≡◌, ◌<◌, inl, inr, ⊎_elim, ℕ, List, [], ◌∷◌, map, length, Option, Some, None, IsSome, slice_get, refl, sym, ap, ap₂, ◌∙◌, subst}
use Rattle.std.proofs.lemmas.Option.{slice_get_cases}
use Rattle.pliron_core.specs.Tree.{Tree, In, IsLive, IsBlock, first_of, head_of, row_of, operands_of, results_of, successors_of, regions_of, parent_of, block_parent_of, layout_of, region_parent_of, op_of_slot, IsMadeBy, IsDefined}
use Rattle.pliron_core.specs.Invariant.{IsTree}
use Rattle.pliron_core.proofs.HoldingLemmas.{not_none, some_of, in_slice, slice_in}
use Rattle.pliron_core.proofs.NeighbourLemmas.{first_of-In}
use Rattle.pliron_laws.specs.Datum.{Head, Datum, Empty, Meaning, Move}
use Rattle.pliron_laws.specs.Tree.{Operation, Block, op_with, op_at, block_at, and_block, entry_block, count_arguments, unless, shape_of}
use Rattle.pliron_laws.specs.Machine.{Environment, State, Next, Continues, Over, bind, data_of, input_of, entry_in, block_in, perform, move, turn, step_at, step}
use Rattle.pliron_laws.specs.Acting.{MovesAlike, PassesSame, JumpsSame}
use Rattle.pliron_laws.proofs.Records.{ShowsOperation, op_shows, make_op, block_of, make_block, region_entry}
use Rattle.pliron_theory.proofs.Lockstep.{Ties, Tied, NextAlike, EnvsTied, EntersTied, alike_tied, leave_tied}
use Rattle.pliron_pass_linked.specs.Calls.{CallingConvention}
use Rattle.pliron_rewrite_inlining.specs.Inlined.{InlinedCall, HasNewJump, IsCallInlined}
use Rattle.pliron_rewrite_inlining.proofs.Carried.{carries_one, carries_reads, map_same}
use Rattle.pliron_rewrite_inlining.proofs.CopiedShapes.{same_shape}
use Rattle.pliron_rewrite_inlining.proofs.Seen.{SeenSame, NextSeen}
use Rattle.pliron_rewrite_inlining.proofs.Effects.{with_effects, ButForEffects, step_seen}
use Rattle.pliron_rewrite_inlining.proofs.CopiedSteps.{CallerData, WaitsAt}

abbrev pub AtCall : InlinedCall → List ℕ → Type 0
AtCall x [] = ⊥
AtCall x (k ∷ ks) = k ≡ x.call

pub resumes_at : (x : InlinedCall) (rest rest' : List ℕ) (memo : Datum) (answer : List Datum) → WaitsAt x rest rest' memo → HasNewJump x rest rest' × (AtCall x rest → (memo ≡ Empty) × (Some answer ≡ None))
resumes_at x [] rest' memo answer w = absurd w
resumes_at x (k ∷ ks) rest' memo answer w = (w.1, λ e. absurd (w.0 e))

-- the run before and the run after
abbrev pub caller_ties : Tree → InlinedCall → Ties
caller_ties t x = record {
  Env = CallerData t x;
  At = λ rest rest' memo answer. HasNewJump x rest rest' × (AtCall x rest → (memo ≡ Empty) × (answer ≡ None));
  Wait = WaitsAt x;
  resume = resumes_at x;
}

same_operation : {a : Head} → {b c d e f g i j : List ℕ} → {k l : Option ℕ} → b ≡ c → d ≡ e → f ≡ g → i ≡ j → k ≡ l
    → ◌≡◌ {A = Option Operation} (Some (record { head = a; operands = b; results = d; successors = f; regions = i; parent = k })) (Some (record { head = a; operands = c; results = e; successors = g; regions = j; parent = l }))
same_operation p q r s t = cc

same_ops : (t u : Tree) (k : ℕ) → row_of u k ≡ row_of t k → operands_of u k ≡ operands_of t k → successors_of u k ≡ successors_of t k → parent_of u k ≡ parent_of t k → op_at u k ≡ op_at t k
unfolding op_at
same_ops t u k rows operands successors parents = go (head_of t k) refl
  where
    go : (a : Option Head) → head_of t k ≡ a → op_with u k (head_of u k) ≡ op_with t k (head_of t k)
    go None e = ap (op_with u k) (ap (λ r. r.head) rows ∙ e) ∙ sym (ap (op_with t k) e)
    go (Some a) e = ap (op_with u k) (ap (λ r. r.head) rows ∙ e) ∙ same_operation operands (ap (λ r. r.results) rows) successors (ap (λ r. r.regions) rows) parents ∙ sym (ap (op_with t k) e)

module _ (m : Meaning) (c : CallingConvention) (t u : Tree) (x : InlinedCall) (symbol : Datum) (w : IsTree t) (w' : IsTree u) (h : IsCallInlined m c t u x symbol) where
  pub bound_same : (vs : List ℕ) (ds : List Datum) (env env' : Environment) → CallerData t x env env' → EnvsTied (CallerData t x) (bind env vs ds) (bind env' vs ds)
  bound_same [] [] env env' b = b
  bound_same [] (d ∷ ds) env env' b = tt
  bound_same (v ∷ vs) [] env env' b = tt
  bound_same (v ∷ vs) (d ∷ ds) env env' b = bound_same vs ds _ _ (carries_one _ (λ y. y) env env' b v d (λ y p s. s))

  -- an operation that stays
  pub record Stays (k : ℕ) (o : Operation) : Type 0 where
    pub at : op_at t k ≡ Some o
    pub other : op_at u k ≡ Some o
    pub live : IsLive t k
    pub operands : operands_of t k ≡ o.operands
    pub successors : successors_of t k ≡ o.successors
    pub regions : regions_of t k ≡ o.regions
    pub own_regions : regions_of u k ≡ o.regions

  pub stays_at : (k : ℕ) (o : Operation) → op_at t k ≡ Some o → (k ≡ x.call → ⊥) → (k ≡ x.jump → ⊥) → Stays k o
  stays_at k o e nc nj = record {
    at = e;
    other = same ∙ e;
    live = live;
    operands = s.operands;
    successors = s.successors;
    regions = s.regions;
    own_regions = ap (λ r. r.regions) (h.rows k live nc nj) ∙ s.regions;
  }
    where
      s : ShowsOperation t k o
      s = op_shows t k o e

      live : IsLive t k
      live = subst IsSome (sym s.head) refl

      same : op_at u k ≡ op_at t k
      same = same_ops t u k (h.rows k live nc nj) (h.operands k live nc nj) (h.successors k live nc nj) (h.parents k live nc nj)

  abbrev pub BlocksAlike : Option Block → Option Block → Type 0
  BlocksAlike None None = Unit {0}
  BlocksAlike None (Some b) = ⊥
  BlocksAlike (Some a) None = ⊥
  BlocksAlike (Some a) (Some b) = HasNewJump x a.operations b.operations × (b.arguments ≡ a.arguments)

  pub block_alike : (b : ℕ) → IsBlock t b → BlocksAlike (block_at t b) (block_at u b)
  block_alike b i =
      let r = some_of (block_parent_of t b) i in
      subst (λ z. BlocksAlike z (block_at u b)) (sym (make_block t b r.0 r.1)) (subst (λ z. BlocksAlike (Some (block_of t b r.0)) z) (sym (make_block u b r.0 (h.block_parents b i ∙ r.1))) (h.bodies b i, h.arguments b i))

  entry_alike : (k i r : ℕ) (o : Operation) → Stays k o → slice_get o.regions i ≡ Some r → BlocksAlike (entry_block t r) (entry_block u r)
  entry_alike k i r o s e =
      let held : region_parent_of t r ≡ Some k = ap op_of_slot (w.joined.regions k i r (ap (λ l. slice_get l i) s.regions ∙ e)) in
      let held' : region_parent_of u r ≡ Some k = ap op_of_slot (w'.joined.regions k i r (ap (λ l. slice_get l i) s.own_regions ∙ e)) in
      let listed : In r (regions_of t k) = subst (In r) (sym s.regions) (in_slice o.regions i r e) in
      subst (λ z. BlocksAlike z (entry_block u r)) (sym (region_entry t r k held)) (subst (λ z. BlocksAlike (and_block t (first_of (layout_of t r) None)) z) (sym (region_entry u r k held' ∙ ap (and_block u) (h.entries k r listed))) (go (first_of (layout_of t r) None) refl))
    where
      go : (z : Option ℕ) → first_of (layout_of t r) None ≡ z → BlocksAlike (and_block t z) (and_block u z)
      go None q = tt
      go (Some b) q = block_alike b (subst IsSome (sym (w.layouts.owned b r (first_of-In b (layout_of t r) q))) refl)

  counts_same : (a b : Option Block) → BlocksAlike a b → count_arguments b ≡ count_arguments a
  counts_same None None s = refl
  counts_same None (Some b) s = absurd s
  counts_same (Some a) None s = absurd s
  counts_same (Some a) (Some b) s = ap length s.1

  target_block : (k i b : ℕ) (o : Operation) → Stays k o → slice_get o.successors i ≡ Some b → IsBlock t b
  target_block k i b o s e = w.joined.successors k b (subst (In b) (sym s.successors) (in_slice o.successors i b e))

  pub shape_same : (k : ℕ) (o : Operation) → Stays k o → shape_of m u o ≡ shape_of m t o
  unfolding shape_of
  shape_same k o s = same_shape refl refl refl refl
      (each (λ r. count_arguments (entry_block u r)) (λ r. count_arguments (entry_block t r)) o.regions (λ r i. let j = slice_in o.regions r i in counts_same _ _ (entry_alike k j.0 r o s j.1)))
      (ap (unless (m.is_branch o.head)) (each (λ b. count_arguments (block_at u b)) (λ b. count_arguments (block_at t b)) o.successors (λ b i. let j = slice_in o.successors b i in counts_same _ _ (block_alike b (target_block k j.0 b o s j.1)))))
    where
      each : (f g : ℕ → ℕ) (xs : List ℕ) → ((y : ℕ) → In y xs → f y ≡ g y) → map f xs ≡ map g xs
      each f g [] e = refl
      each f g (y ∷ ys) e = ap₂ (λ a l. a ∷ l) (e y (inl refl)) (each f g ys (λ z i. e z (inr i)))

  enters_same : (a b : Option Block) (ds es : List Datum) → es ≡ ds → BlocksAlike a b → EntersTied (caller_ties t x) a b ds es
  enters_same None None ds es q s = tt
  enters_same None (Some b) ds es q s = s
  enters_same (Some a) None ds es q s = s
  enters_same (Some a) (Some b) ds es q s = ((s.0, λ y. (refl, refl)), λ env env' tied. subst (λ l. EnvsTied (CallerData t x) (bind env a.arguments ds) (bind env' l es)) (sym s.1) (subst (λ l. EnvsTied (CallerData t x) (bind env a.arguments ds) (bind env' a.arguments l)) (sym q) (bound_same a.arguments ds env env' tied)))

  entries_same : (k i : ℕ) (o : Operation) → Stays k o → BlocksAlike (entry_in t (slice_get o.regions i)) (entry_in u (slice_get o.regions i))
  entries_same k i o s = go (slice_get o.regions i) refl
    where
      go : (z : Option ℕ) → slice_get o.regions i ≡ z → BlocksAlike (entry_in t z) (entry_in u z)
      go None e = tt
      go (Some r) e = entry_alike k i r o s e

  targets_same : (k i : ℕ) (o : Operation) → Stays k o → BlocksAlike (block_in t (slice_get o.successors i)) (block_in u (slice_get o.successors i))
  targets_same k i o s = go (slice_get o.successors i) refl
    where
      go : (z : Option ℕ) → slice_get o.successors i ≡ z → BlocksAlike (block_in t z) (block_in u z)
      go None e = tt
      go (Some b) e = block_alike b (target_block k i b o s e)

  moves_same : (a : Move) → MovesAlike PassesSame JumpsSame a a
  moves_same a = record {
    give = λ ds e. e;
    visit = λ i ds memo e. (ds, e, refl);
    goto = λ i ds e. (i, ds, e, (refl, refl));
    leave = λ ds e. e;
    emit = λ e memo q. q;
    traps = λ e. e;
  }

  abbrev T : Ties
  T = caller_ties t x

  performs_same : (s s' : State) → Tied T s s' → (k : ℕ) (ks ks' : List ℕ) → s.rest ≡ k ∷ ks → (k ≡ x.call → ⊥) → (k ≡ x.jump → ⊥) → HasNewJump x ks ks' → (o : Operation) → Stays k o → (a : Move) → NextAlike (Tied T) (perform t s o k ks a) (perform u s' o k ks' a)
  performs_same s s' r k ks ks' e nc nj j o y a = alike_tied T t u s s' r k k ks ks' o o PassesSame JumpsSame a a (moves_same a) (record {
    after = (j, λ z. (refl, refl));
    wait = λ i ds memo q. (nc, inl (nc, nj, refl, j));
    answered = λ effect memo answer q. (r.place.0, λ z. absurd (nc (subst (AtCall x) e z)));
    results = λ env env' ds tied. bound_same o.results ds env env' tied;
    entries = λ i ds es q. enters_same _ _ ds es q (entries_same k i o y);
    targets = λ i n ds es q. subst (λ z. EntersTied T (block_in t (slice_get o.successors i)) (block_in u (slice_get o.successors z)) ds es) (sym q.0) (enters_same _ _ ds es q.1 (targets_same k i o y));
  })

  given_out : (v : ℕ) → IsDefined t v → v < length t.definitions
  given_out v i = ⊎_elim (λ y. y.1) (λ n. absurd (subst (IsMadeBy t v) n.1 i)) (slice_get_cases t.definitions v).1

  not_result : (k v : ℕ) → (k ≡ x.jump → ⊥) → In v (operands_of t k) → In v (results_of t x.call) → ⊥
  not_result k v nj i j = nj (h.used_there k v j i)

  -- what is read before is read after
  pub reads_same : (env env' : Environment) → CallerData t x env env' → (k : ℕ) → (k ≡ x.jump → ⊥) → (ds : List Datum) → data_of env (operands_of t k) ≡ Some ds → data_of env' (operands_of t k) ≡ Some ds
  reads_same env env' d k nj ds e = carries_reads _ (λ v. v) env env' d (operands_of t k) (λ v i. (given_out v (w.joined.operands k v i), not_result k v nj i)) ds (ap (data_of env) (map_same (operands_of t k)) ∙ e)

  -- where the run isn't at the call and reads what has data, both go on alike
  pub caller_step : (s s' : State) → Tied T s s' → (AtCall x s.rest → ⊥) → ((k : ℕ) (ks : List ℕ) → s.rest ≡ k ∷ ks → IsLive t k) → ((k : ℕ) (ks : List ℕ) → s.rest ≡ k ∷ ks → s.answer ≡ None → (ds : List Datum) × (data_of s.environment (operands_of t k) ≡ Some ds)) → NextAlike (Tied T) (step m t s) (step m u s')
  unfolding step
  caller_step s s' r away lives has = go s.rest s'.rest refl refl r.place.0
    where
      reads : (k : ℕ) (ks : List ℕ) → s.rest ≡ k ∷ ks → (k ≡ x.jump → ⊥) → (o : Operation) → Stays k o → (input : List Datum) × (input_of s.environment o.operands s.answer ≡ Some input) × (input_of s'.environment o.operands s'.answer ≡ Some input)
      reads k ks e nj o y = by_answer s.answer refl
        where
          by_answer : (a : Option (List Datum)) → s.answer ≡ a → (input : List Datum) × (input_of s.environment o.operands s.answer ≡ Some input) × (input_of s'.environment o.operands s'.answer ≡ Some input)
          by_answer None f =
              let d = has k ks e f in
              let q = reads_same s.environment s'.environment r.environment k nj d.0 d.1 in
              (d.0, ap (input_of s.environment o.operands) f ∙ ap (data_of s.environment) (sym y.operands) ∙ d.1, ap (input_of s'.environment o.operands) (sym r.answer ∙ f) ∙ ap (data_of s'.environment) (sym y.operands) ∙ q)
          by_answer (Some ds) f = (ds, ap (input_of s.environment o.operands) f, ap (input_of s'.environment o.operands) (sym r.answer ∙ f))

      turns : (k : ℕ) (ks ks' : List ℕ) → s.rest ≡ k ∷ ks → (k ≡ x.call → ⊥) → (k ≡ x.jump → ⊥) → HasNewJump x ks ks' → (o : Option Operation) → op_at t k ≡ o → NextAlike (Tied T) (turn m t s k ks o) (turn m u s' k ks' (op_at u k))
      turns k ks ks' e nc nj j None oe = let a = some_of (head_of t k) (lives k ks e) in absurd (not_none (sym oe ∙ make_op t k a.0 a.1))
      turns k ks ks' e nc nj j (Some o) oe =
          let y = stays_at k o oe nc nj in
          let q = reads k ks e nj o y in
          subst (λ z. NextAlike (Tied T) (move m t s o k ks (input_of s.environment o.operands s.answer)) (turn m u s' k ks' z)) (sym y.other)
          (subst (λ z. NextAlike (Tied T) (move m t s o k ks z) (move m u s' o k ks' (input_of s'.environment o.operands s'.answer))) (sym q.1)
          (subst (λ z. NextAlike (Tied T) (perform t s o k ks (m.act (shape_of m t o) s.memo q.0)) (move m u s' o k ks' z)) (sym q.2)
          (subst (λ z. NextAlike (Tied T) (perform t s o k ks (m.act (shape_of m t o) s.memo q.0)) (perform u s' o k ks' z)) (sym (ap (λ z. m.act z s'.memo q.0) (shape_same k o y) ∙ ap (λ z. m.act (shape_of m t o) z q.0) (sym r.memo)))
          (performs_same s s' r k ks ks' e nc nj j o y (m.act (shape_of m t o) s.memo q.0)))))

      go : (rest rest' : List ℕ) → s.rest ≡ rest → s'.rest ≡ rest' → HasNewJump x s.rest s'.rest → NextAlike (Tied T) (step_at m t s s.rest) (step_at m u s' s'.rest)
      go rest rest' e e' j = subst (λ z. NextAlike (Tied T) (step_at m t s z) (step_at m u s' s'.rest)) (sym e) (subst (λ z. NextAlike (Tied T) (step_at m t s rest) (step_at m u s' z)) (sym e') (by_rest rest rest' e (subst (λ z. HasNewJump x z rest') e (subst (HasNewJump x s.rest) e' j))))
        where
          by_rest : (rest rest' : List ℕ) → s.rest ≡ rest → HasNewJump x rest rest' → NextAlike (Tied T) (step_at m t s rest) (step_at m u s' rest')
          by_rest [] [] e j = leave_tied T s s' r s.waiting s'.waiting r.waiting []
          by_rest [] (k' ∷ ks') e j = absurd j
          by_rest (k ∷ ks) [] e j = absurd j
          by_rest (k ∷ ks) (k' ∷ ks') e (inl j) = subst (λ z. NextAlike (Tied T) (turn m t s k ks (op_at t k)) (turn m u s' z ks' (op_at u z))) (sym j.2) (turns k ks ks' e j.0 j.1 j.3 (op_at t k) refl)
          by_rest (k ∷ ks) (k' ∷ ks') e (inr j) = absurd (away (subst (AtCall x) (sym e) j.0))

  -- the same, whatever effects the run after has shown before
  abbrev pub CallerAlike : State → State → Type 0
  CallerAlike s s' = Tied T s (with_effects s' s.effects)

  next_seen : (o o'' o' : Next) → NextAlike (Tied T) o o'' → ButForEffects o'' o' → NextSeen CallerAlike o o'
  next_seen (Continues a) (Over y) o' r b = absurd r
  next_seen (Over x) (Continues b) o' r q = absurd r
  next_seen (Over y) (Over z) (Continues b) r q = absurd q
  next_seen (Over y) (Over z) (Over z') r q = subst (λ a. SeenSame a z') (sym r) q
  next_seen (Continues a) (Continues b) o' r q = subst (NextSeen CallerAlike (Continues a)) (sym q.1) (record {
    environment = r.environment;
    memo = r.memo;
    answer = r.answer;
    place = r.place;
    waiting = r.waiting;
    world = r.world;
    effects = refl;
  })

  pub caller_seen : (s s' : State) → CallerAlike s s' → (AtCall x s.rest → ⊥) → ((k : ℕ) (ks : List ℕ) → s.rest ≡ k ∷ ks → IsLive t k) → ((k : ℕ) (ks : List ℕ) → s.rest ≡ k ∷ ks → s.answer ≡ None → (ds : List Datum) × (data_of s.environment (operands_of t k) ≡ Some ds)) → NextSeen CallerAlike (step m t s) (step m u s')
  caller_seen s s' r away lives has = next_seen (step m t s) (step m u (with_effects s' s.effects)) (step m u s') (caller_step s (with_effects s' s.effects) r away lives has) (step_seen s'.effects m u (with_effects s' s.effects))
