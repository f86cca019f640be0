-- The run of a callee, and that of its copy with the caller's frame around it: a copied operation acts as its original.
use Rattle.std.proofs.Common.{◌≡◌, ◌<◌, ◌⊎◌, inl, inr, ℕ, List, [], ◌∷◌, map, length, Option, Some, None, slice_get, refl, sym, ap, ◌∙◌, subst, arith}
use Rattle.pliron_core.specs.Tree.{Tree, In, operands_of, results_of, body_of, arguments_of}
use Rattle.pliron_laws.specs.Datum.{Datum, Empty, Meaning, Move, Give, Visit, Goto, Leave, Emit, Trap}
use Rattle.pliron_laws.specs.Tree.{op_at, block_at, shape_of}
use Rattle.pliron_laws.specs.Machine.{Environment, Waiting, State, trap, bind, data_of, input_of, after_giving, begin, enter, entry_in, block_in, go_to, emit, perform, move, turn, step_at, step}
use Rattle.pliron_laws.proofs.Records.{block_of}
use Rattle.pliron_theory.proofs.Lockstep.{EnvsTied, Waits}
use Rattle.pliron_pass_linked.specs.Calls.{CallingConvention}
use Rattle.pliron_rewrite_inlining.specs.Inlined.{InlinedCall, IsFreshKey, IsCopy, NeverGives, IsReturnReplaced, AreCopies, HasNewJump, IsCallInlined}
use Rattle.pliron_rewrite_inlining.proofs.Seen.{NextInside}
use Rattle.pliron_rewrite_inlining.proofs.Carried.{Carries, carries_one, carries_right, carries_reads}
use Rattle.pliron_rewrite_inlining.proofs.CopiedShapes.{IsBlockAlike, HasOriginal, has_original, targets_alike, copy_at, original_block_at}

-- what the caller's frame has before, it has after; values of the copy have what their originals have in the callee's
abbrev pub CallerData : Tree → InlinedCall → Environment → Environment → Type 0
CallerData t x env env' = Carries (λ v. (v < length t.definitions) × (In v (results_of t x.call) → ⊥)) (λ v. v) env env'

abbrev pub CopyData : Tree → InlinedCall → Environment → Environment → Type 0
CopyData t x env env' = Carries (IsFreshKey t) x.originals.value env env'

-- an operation that waits, which isn't the call
abbrev pub WaitsAt : InlinedCall → List ℕ → List ℕ → Datum → Type 0
WaitsAt x [] rest' memo = ⊥
WaitsAt x (k ∷ ks) rest' memo = (k ≡ x.call → ⊥) × HasNewJump x (k ∷ ks) rest'

module _ (m : Meaning) (c : CallingConvention) (t u : Tree) (x : InlinedCall) (symbol : Datum) (h : IsCallInlined m c t u x symbol) where
  -- where the copy stands in its block: what is in the place of a return makes one transition
  abbrev pub Standing : List ℕ → Datum → Option (List Datum) → Type 0
  Standing [] memo answer = ⊥
  Standing (k ∷ []) memo answer = (IsCopy m t u x k × NeverGives m u k) ⊎ (IsReturnReplaced m t u x k × (memo ≡ Empty) × (answer ≡ None))
  Standing (k ∷ j ∷ ks) memo answer = IsCopy m t u x k × AreCopies m t u x (j ∷ ks)

  -- what is behind a copied operation
  abbrev pub Behind : ℕ → List ℕ → Type 0
  Behind k [] = NeverGives m u k
  Behind k (j ∷ ks) = AreCopies m t u x (j ∷ ks)

  pub fresh_standing : (rest : List ℕ) → AreCopies m t u x rest → Standing rest Empty None
  fresh_standing [] a = absurd a
  fresh_standing (k ∷ []) (inl y) = inl y
  fresh_standing (k ∷ []) (inr y) = inr (y, refl, refl)
  fresh_standing (k ∷ j ∷ ks) a = a

  copy_standing : (k : ℕ) (rest : List ℕ) → IsCopy m t u x k → Behind k rest → (memo : Datum) (answer : Option (List Datum)) → Standing (k ∷ rest) memo answer
  copy_standing k [] y b memo answer = inl (y, b)
  copy_standing k (j ∷ ks) y b memo answer = (y, b)

  goes_behind : (k : ℕ) (rest : List ℕ) → Behind k rest → ((n : NeverGives m u k) → ⊥) → AreCopies m t u x rest
  goes_behind k [] b never = absurd (never b)
  goes_behind k (j ∷ ks) b never = b

  -- the callee is at s, called by a frame at g, where the copy is at s'
  pub record InCopy (g s s' : State) : Type 0 where
    pub caller : CallerData t x g.environment s'.environment
    pub copy : CopyData t x s.environment s'.environment
    pub place : s.rest ≡ map x.originals.operation s'.rest
    pub stands : Standing s'.rest s'.memo s'.answer
    pub memo : s.memo ≡ s'.memo
    pub answer : s.answer ≡ s'.answer
    pub world : s.world ≡ s'.world
    pub root : Waiting
    pub waits : s.waiting ≡ root ∷ []
    pub root_rest : root.rest ≡ x.callee ∷ []
    pub inputs : List Datum
    pub root_memo : root.memo ≡ h.callee.memo inputs
    pub around : Waits (WaitsAt x) g.waiting s'.waiting
    pub inner : Waiting
    pub others : List Waiting
    pub held : s'.waiting ≡ inner ∷ others

  abbrev pub Both : State → Environment → Environment → Type 0
  Both g env env' = CallerData t x g.environment env' × CopyData t x env env'

  pub bound_alike : (g : State) (vs : List ℕ) → ((v : ℕ) → In v vs → IsFreshKey t v) → (ds : List Datum) (env env' : Environment) → Both g env env' → EnvsTied (Both g) (bind env (map x.originals.value vs) ds) (bind env' vs ds)
  bound_alike g [] fresh [] env env' b = b
  bound_alike g [] fresh (d ∷ ds) env env' b = tt
  bound_alike g (v ∷ vs) fresh [] env env' b = tt
  bound_alike g (v ∷ vs) fresh (d ∷ ds) env env' b = bound_alike g vs (λ w i. fresh w (inr i)) ds _ _ (
    carries_right _ _ g.environment env' b.0 v d (λ p. let f : IsFreshKey t v = fresh v (inl refl) in let l : v < length t.definitions = p.0 in omega (arith, f, l)),
    carries_one _ _ env env' b.1 v d (λ w p s. h.apart w v p (fresh v (inl refl)) s),
  )

  pub begins_alike : (g s s' : State) → InCopy g s s' → (rest : List ℕ) → AreCopies m t u x rest → (o o' : Option Environment) → EnvsTied (Both g) o o' → NextInside (InCopy g) (begin s (map x.originals.operation rest) s.waiting o) (begin s' rest s'.waiting o')
  begins_alike g s s' r rest a None None b = tt
  begins_alike g s s' r rest a None (Some env') b = absurd b
  begins_alike g s s' r rest a (Some env) None b = absurd b
  begins_alike g s s' r rest a (Some env) (Some env') b = record {
    caller = b.0;
    copy = b.1;
    place = refl;
    stands = fresh_standing rest a;
    memo = refl;
    answer = refl;
    world = r.world;
    root = r.root;
    waits = r.waits;
    root_rest = r.root_rest;
    inputs = r.inputs;
    root_memo = r.root_memo;
    around = r.around;
    inner = r.inner;
    others = r.others;
    held = r.held;
  }

  enters_alike : (g s s' : State) → InCopy g s s' → (z z' : Option ℕ) → IsBlockAlike m t u x z z' → (ds : List Datum) → NextInside (InCopy g) (enter s (block_in t z') ds s.waiting) (enter s' (block_in u z) ds s'.waiting)
  enters_alike g s s' r None None b ds = tt
  enters_alike g s s' r None (Some a) b ds = absurd b
  enters_alike g s s' r (Some b) None e ds = absurd e
  enters_alike g s s' r (Some b) (Some a) e ds =
      subst (λ z. NextInside (InCopy g) (enter s (block_at t z) ds s.waiting) (enter s' (block_at u b) ds s'.waiting)) (sym e.1)
      (subst (λ z. NextInside (InCopy g) (enter s z ds s.waiting) (enter s' (block_at u b) ds s'.waiting)) (sym (original_block_at m t u x h.copies b e.0))
      (subst (λ z. NextInside (InCopy g) (enter s (Some (block_of t (x.originals.block b) x.region)) ds s.waiting) (enter s' z ds s'.waiting)) (sym (copy_at m t u x h.copies b e.0))
      (subst (λ l. NextInside (InCopy g) (begin s l s.waiting (bind s.environment (arguments_of t (x.originals.block b)) ds)) (begin s' (body_of u b) s'.waiting (bind s'.environment (arguments_of u b) ds))) (sym e.0.body)
      (subst (λ l. NextInside (InCopy g) (begin s (map x.originals.operation (body_of u b)) s.waiting (bind s.environment l ds)) (begin s' (body_of u b) s'.waiting (bind s'.environment (arguments_of u b) ds))) (sym e.0.arguments)
      (begins_alike g s s' r (body_of u b) e.0.operations _ _ (bound_alike g (arguments_of u b) e.0.fresh ds s.environment s'.environment (r.caller, r.copy)))))))

  giving_begins : (s : State) (rest : List ℕ) (ws : List Waiting) (w : Waiting) (vs : List Waiting) → ws ≡ w ∷ vs → (ds : List Datum) (o : Option Environment) → after_giving s rest ws ds o ≡ begin s rest ws o
  giving_begins s rest ws w vs e ds None = refl
  giving_begins s rest ws w vs e ds (Some env) = subst (λ z. after_giving s rest z ds (Some env) ≡ begin s rest z (Some env)) (sym e) refl

  pub going_enters : (y : Tree) (s : State) (b : Option ℕ) (ds : List Datum) (ws : List Waiting) (w : Waiting) (vs : List Waiting) → ws ≡ w ∷ vs → go_to y s b ds ws ≡ enter s (block_in y b) ds ws
  going_enters y s b ds ws w vs e = subst (λ z. go_to y s b ds z ≡ enter s (block_in y b) ds z) (sym e) refl

  no_region : (y : Tree) (s : State) (rs : List ℕ) → rs ≡ [] → (i : ℕ) (ds : List Datum) (ws : List Waiting) → enter s (entry_in y (slice_get rs i)) ds ws ≡ trap s
  no_region y s rs e i ds ws = ap (λ l. enter s (entry_in y (slice_get l i)) ds ws) e

  emits_alike : (g s s' : State) → InCopy g s s' → ((memo : Datum) (answer : Option (List Datum)) → Standing s'.rest memo answer) → (e memo : Datum) (world world' : List Datum) → world ≡ world' → NextInside (InCopy g) (emit s e memo world) (emit s' e memo world')
  emits_alike g s s' r b e memo [] [] q = refl
  emits_alike g s s' r b e memo [] (d ∷ ds) q = grind arith
  emits_alike g s s' r b e memo (d ∷ ds) [] q = grind arith
  emits_alike g s s' r b e memo (d ∷ ds) (d' ∷ ds') q = record {
    caller = r.caller;
    copy = r.copy;
    place = r.place;
    stands = b memo (Some (d' ∷ []));
    memo = refl;
    answer = let f : d ≡ d' = cc in ap (λ y. Some (y ∷ [])) f;
    world = cc;
    root = r.root;
    waits = r.waits;
    root_rest = r.root_rest;
    inputs = r.inputs;
    root_memo = r.root_memo;
    around = r.around;
    inner = r.inner;
    others = r.others;
    held = r.held;
  }

  performs_alike : (g s s' : State) → InCopy g s s' → (k : ℕ) (rest : List ℕ) → s'.rest ≡ k ∷ rest → (y : IsCopy m t u x k) → Behind k rest → (o : HasOriginal m t u x k) (a : Move) → ((ds : List Datum) → a ≡ Leave ds → ⊥) → ((ds : List Datum) → a ≡ Give ds → AreCopies m t u x rest) → NextInside (InCopy g) (perform t s o.original (x.originals.operation k) (map x.originals.operation rest) a) (perform u s' o.copy k rest a)
  performs_alike g s s' r k rest e y last o (Give ds) stays gives =
      subst (λ z. NextInside (InCopy g) z (after_giving s' rest s'.waiting ds (bind s'.environment o.copy.results ds))) (sym (giving_begins s (map x.originals.operation rest) s.waiting r.root [] r.waits ds (bind s.environment o.original.results ds)))
      (subst (λ z. NextInside (InCopy g) (begin s (map x.originals.operation rest) s.waiting (bind s.environment o.original.results ds)) z) (sym (giving_begins s' rest s'.waiting r.inner r.others r.held ds (bind s'.environment o.copy.results ds)))
      (subst (λ l. NextInside (InCopy g) (begin s (map x.originals.operation rest) s.waiting (bind s.environment l ds)) (begin s' rest s'.waiting (bind s'.environment o.copy.results ds))) (sym o.results)
      (begins_alike g s s' r rest (gives ds refl) _ _ (bound_alike g o.copy.results (λ v i. y.results v (subst (In v) (sym o.own_results) i)) ds s.environment s'.environment (r.caller, r.copy)))))
  performs_alike g s s' r k rest e y last o (Visit i ds memo) stays gives =
      subst (λ z. NextInside (InCopy g) z (enter s' (entry_in u (slice_get o.copy.regions i)) ds (record { rest = k ∷ rest; memo = memo } ∷ s'.waiting))) (sym (no_region t s o.original.regions o.childless i ds (record { rest = x.originals.operation k ∷ map x.originals.operation rest; memo = memo } ∷ s.waiting)))
      (subst (λ z. NextInside (InCopy g) (trap s) z) (sym (no_region u s' o.copy.regions o.childless_copy i ds (record { rest = k ∷ rest; memo = memo } ∷ s'.waiting))) tt)
  performs_alike g s s' r k rest e y last o (Goto i ds) stays gives =
      subst (λ z. NextInside (InCopy g) z (go_to u s' (slice_get o.copy.successors i) ds s'.waiting)) (sym (going_enters t s (slice_get o.original.successors i) ds s.waiting r.root [] r.waits))
      (subst (λ z. NextInside (InCopy g) (enter s (block_in t (slice_get o.original.successors i)) ds s.waiting) z) (sym (going_enters u s' (slice_get o.copy.successors i) ds s'.waiting r.inner r.others r.held))
      (enters_alike g s s' r _ _ (targets_alike m t u x h.copies k y o i) ds))
  performs_alike g s s' r k rest e y last o (Leave ds) stays gives = absurd (stays ds refl)
  performs_alike g s s' r k rest e y last o (Emit effect memo) stays gives = emits_alike g s s' r (λ next answer. subst (λ l. Standing l next answer) (sym e) (copy_standing k rest y last next answer)) effect memo s.world s'.world r.world
  performs_alike g s s' r k rest e y last o Trap stays gives = tt

  -- what the operation reads, its copy reads
  pub record ReadsAlike (s s' : State) (vs vs' : List ℕ) : Type 0 where
    pub input : List Datum
    pub reads : input_of s.environment vs s.answer ≡ Some input
    pub copy_reads : input_of s'.environment vs' s'.answer ≡ Some input

  pub reads_alike : (g s s' : State) → InCopy g s s' → (vs : List ℕ) → ((v : ℕ) → In v vs → IsFreshKey t v) → (s.answer ≡ None → (ds : List Datum) × (data_of s.environment (map x.originals.value vs) ≡ Some ds)) → ReadsAlike s s' (map x.originals.value vs) vs
  reads_alike g s s' r vs fresh has = go s.answer refl
    where
      go : (a : Option (List Datum)) → s.answer ≡ a → ReadsAlike s s' (map x.originals.value vs) vs
      go None e = let d = has e in record {
        input = d.0;
        reads = ap (input_of s.environment (map x.originals.value vs)) e ∙ d.1;
        copy_reads = ap (input_of s'.environment vs) (sym r.answer ∙ e) ∙ carries_reads _ _ s.environment s'.environment r.copy vs fresh d.0 d.1;
      }
      go (Some ds) e = record {
        input = ds;
        reads = ap (input_of s.environment (map x.originals.value vs)) e;
        copy_reads = ap (input_of s'.environment vs) (sym r.answer ∙ e);
      }

  -- a copied operation acts as its original, with the caller's frame around it
  pub copied_step : (g s s' : State) → InCopy g s s' → (k : ℕ) (rest : List ℕ) → s'.rest ≡ k ∷ rest → IsCopy m t u x k → Behind k rest → (s.answer ≡ None → (ds : List Datum) × (data_of s.environment (operands_of t (x.originals.operation k)) ≡ Some ds)) → NextInside (InCopy g) (step m t s) (step m u s')
  unfolding step
  copied_step g s s' r k rest e y last has =
      subst (λ l. NextInside (InCopy g) (step_at m t s l) (step_at m u s' s'.rest)) (sym (r.place ∙ ap (map x.originals.operation) e))
      (subst (λ l. NextInside (InCopy g) (turn m t s (x.originals.operation k) (map x.originals.operation rest) (op_at t (x.originals.operation k))) (step_at m u s' l)) (sym e)
      (subst (λ z. NextInside (InCopy g) (turn m t s (x.originals.operation k) (map x.originals.operation rest) z) (turn m u s' k rest (op_at u k))) (sym o.original_at)
      (subst (λ z. NextInside (InCopy g) (move m t s o.original (x.originals.operation k) (map x.originals.operation rest) (input_of s.environment o.original.operands s.answer)) (turn m u s' k rest z)) (sym o.at)
      (subst (λ z. NextInside (InCopy g) (move m t s o.original (x.originals.operation k) (map x.originals.operation rest) z) (move m u s' o.copy k rest (input_of s'.environment o.copy.operands s'.answer))) (sym (ap (λ l. input_of s.environment l s.answer) o.operands ∙ q.reads))
      (subst (λ z. NextInside (InCopy g) (perform t s o.original (x.originals.operation k) (map x.originals.operation rest) (m.act (shape_of m t o.original) s.memo q.input)) (move m u s' o.copy k rest z)) (sym q.copy_reads)
      (subst (λ z. NextInside (InCopy g) (perform t s o.original (x.originals.operation k) (map x.originals.operation rest) z) (perform u s' o.copy k rest (m.act (shape_of m u o.copy) s'.memo q.input))) (sym acts)
      (performs_alike g s s' r k rest e y last o _ (λ ds f. y.stays o.copy o.at s'.memo q.input ds f) (λ ds f. goes_behind k rest last (λ n. n o.copy o.at s'.memo q.input ds f)))))))))
    where
      o : HasOriginal m t u x k
      o = has_original m t u x h.copies k y

      q : ReadsAlike s s' (map x.originals.value o.copy.operands) o.copy.operands
      q = reads_alike g s s' r o.copy.operands (λ v i. y.operands v (subst (In v) (sym o.own_operands) i)) (λ n. let d = has n in (d.0, ap (data_of s.environment) (ap (map x.originals.value) (sym o.own_operands) ∙ sym y.same.operands) ∙ d.1))

      acts : m.act (shape_of m t o.original) s.memo q.input ≡ m.act (shape_of m u o.copy) s'.memo q.input
      acts = ap (λ z. m.act z s.memo q.input) o.shape ∙ ap (λ z. m.act (shape_of m u o.copy) z q.input) r.memo
