-- What holds of every place of a run's stack.
use Rattle.std.proofs.Common.{◌≡◌, ℕ, List, [], ◌∷◌, Option, Some, None, refl, sym, subst, slice_get}
use Rattle.pliron_laws.specs.Datum.{Datum, Empty, Meaning, Move, Give, Visit, Goto, Leave, Emit, Trap}
use Rattle.pliron_laws.specs.Tree.{Tree, Operation, Block, op_at, block_at, entry_block, shape_of}
use Rattle.pliron_laws.specs.Machine.{Environment, Waiting, State, bind, input_of, leave, after_giving, begin, enter, entry_in, go_to, emit, perform, move, turn, step_at, step}
use Rattle.pliron_theory.proofs.Simulation.{Kept, IfGoes}

-- a fact about the environment, one about the place where the run moves, and one about each place that waits;
-- a place is the operation that holds its region (none for the root), the rest of its block, the memo, and the answer
pub record LatticeValues : Type 1 where
  pub Always : Environment → Type 0
  pub Moves : Environment → Option ℕ → List ℕ → Datum → Option (List Datum) → Type 0
  pub Waits : Environment → Option ℕ → List ℕ → Datum → Type 0

-- an operation makes a move
pub record Makes (m : Meaning) (t : Tree) (env : Environment) (k : ℕ) (memo : Datum) (answer : Option (List Datum)) (a : Move) : Type 0 where
  pub operation : Operation
  pub liveness : op_at t k ≡ Some operation
  pub input : List Datum
  pub reads : input_of env operation.operands answer ≡ Some input
  pub acts : m.act (shape_of m t operation) memo input ≡ a

-- what each move has to keep
pub record Rules (m : Meaning) (t : Tree) (F : LatticeValues) : Type 1 where
  -- the second is inside the first
  pub Deeper : ℕ → ℕ → Type 0
  pub deeper_trans : (a b c : ℕ) → Deeper a b → Deeper b c → Deeper a c
  pub moves_deep : (env : Environment) (h k : ℕ) (rest : List ℕ) (memo : Datum) (answer : Option (List Datum)) → F.Moves env (Some h) (k ∷ rest) memo answer → Deeper h k
  pub waits_deep : (env : Environment) (h k : ℕ) (rest : List ℕ) (memo : Datum) → F.Waits env (Some h) (k ∷ rest) memo → Deeper h k
  pub gives : (env env1 : Environment) (h : ℕ) (k : ℕ) (rest : List ℕ) (memo : Datum) (answer : Option (List Datum)) (ds : List Datum) → F.Always env → F.Moves env (Some h) (k ∷ rest) memo answer → (x : Makes m t env k memo answer (Give ds)) → bind env x.operation.results ds ≡ Some env1 → F.Always env1 × F.Moves env1 (Some h) rest Empty None × ((g : Option ℕ) (j : ℕ) (r : List ℕ) (w : Datum) → Deeper j k → F.Waits env g (j ∷ r) w → F.Waits env1 g (j ∷ r) w)
  pub goes : (env env1 : Environment) (h : ℕ) (k : ℕ) (rest : List ℕ) (memo : Datum) (answer : Option (List Datum)) (i : ℕ) (ds : List Datum) (c : ℕ) (b : Block) → F.Always env → F.Moves env (Some h) (k ∷ rest) memo answer → (x : Makes m t env k memo answer (Goto i ds)) → slice_get x.operation.successors i ≡ Some c → block_at t c ≡ Some b → bind env b.arguments ds ≡ Some env1 → F.Always env1 × F.Moves env1 (Some h) b.operations Empty None × ((g : Option ℕ) (j : ℕ) (r : List ℕ) (w : Datum) → Deeper j k → F.Waits env g (j ∷ r) w → F.Waits env1 g (j ∷ r) w)
  pub visits : (env env1 : Environment) (h : Option ℕ) (k : ℕ) (rest : List ℕ) (memo : Datum) (answer : Option (List Datum)) (i : ℕ) (ds : List Datum) (next : Datum) (r : ℕ) (b : Block) → F.Always env → F.Moves env h (k ∷ rest) memo answer → (x : Makes m t env k memo answer (Visit i ds next)) → slice_get x.operation.regions i ≡ Some r → entry_block t r ≡ Some b → bind env b.arguments ds ≡ Some env1 → F.Always env1 × F.Moves env1 (Some k) b.operations Empty None × F.Waits env1 h (k ∷ rest) next × ((g : Option ℕ) (j : ℕ) (r : List ℕ) (w : Datum) → Deeper j k → F.Waits env g (j ∷ r) w → F.Waits env1 g (j ∷ r) w)
  pub accurate : (env : Environment) (h : Option ℕ) (k : ℕ) (rest : List ℕ) (memo : Datum) (answer : Option (List Datum)) (e next d : Datum) → F.Always env → F.Moves env h (k ∷ rest) memo answer → Makes m t env k memo answer (Emit e next) → F.Moves env h (k ∷ rest) next (Some (d ∷ []))
  pub resumes : (env : Environment) (h : Option ℕ) (rest : List ℕ) (memo : Datum) (ds : List Datum) → F.Waits env h rest memo → F.Moves env h rest memo (Some ds)

module _ (m : Meaning) (t : Tree) (F : LatticeValues) (rules : Rules m t F) (root : ℕ) where
  -- the places that wait, under a place in a region of `h`
  abbrev pub Below : Environment → Option ℕ → List Waiting → Type 0
  Below env None [] = Unit {0}
  Below env None (w ∷ ws) = ⊥
  Below env (Some h) [] = ⊥
  Below env (Some h) (w ∷ ws) = (others : List ℕ) × (g : Option ℕ) × (w.rest ≡ h ∷ others) × F.Waits env g w.rest w.memo × Below env g ws

  pub record Holding (s : State) : Type 0 where
    pub holder : Option ℕ
    pub always : F.Always s.environment
    pub place : F.Moves s.environment holder s.rest s.memo s.answer
    pub below : Below s.environment holder s.waiting

  below_more : (env env1 : Environment) (k : ℕ) → ((g : Option ℕ) (j : ℕ) (r : List ℕ) (w : Datum) → rules.Deeper j k → F.Waits env g (j ∷ r) w → F.Waits env1 g (j ∷ r) w) → (h : Option ℕ) (ws : List Waiting) → ((j : ℕ) → h ≡ Some j → rules.Deeper j k) → Below env h ws → Below env1 h ws
  below_more env env1 k more None [] d b = b
  below_more env env1 k more None (w ∷ ws) d b = b
  below_more env env1 k more (Some h) [] d b = b
  below_more env env1 k more (Some h) (w ∷ ws) d b =
      let waits : F.Waits env b.1 (h ∷ b.0) w.memo = subst (λ r. F.Waits env b.1 r w.memo) b.2 b.3 in (
        b.0,
        b.1,
        b.2,
        subst (λ r. F.Waits env1 b.1 r w.memo) (sym b.2) (more b.1 h b.0 w.memo (d h refl) waits),
        below_more env env1 k more b.1 ws (λ j e. rules.deeper_trans j h k (rules.waits_deep env j h b.0 w.memo (subst (λ g. F.Waits env g (h ∷ b.0) w.memo) e waits)) (d h refl)) b.4,
      )

  some_deep : (env : Environment) (h : Option ℕ) (k : ℕ) (rest : List ℕ) (memo : Datum) (answer : Option (List Datum)) → F.Moves env h (k ∷ rest) memo answer → (j : ℕ) → h ≡ Some j → rules.Deeper j k
  some_deep env h k rest memo answer p j e = rules.moves_deep env j k rest memo answer (subst (λ g. F.Moves env g (k ∷ rest) memo answer) e p)

  leave_holds : (s : State) → F.Always s.environment → (h : Option ℕ) (ws : List Waiting) → Below s.environment h ws → (ds : List Datum) → IfGoes (leave s ws ds) Holding
  leave_holds s a h [] b ds = tt
  leave_holds s a None (w ∷ ws) b ds = absurd b
  leave_holds s a (Some h) (w ∷ ws) b ds = record { holder = b.1; always = a; place = rules.resumes s.environment b.1 w.rest w.memo ds b.3; below = b.4 }

  give_holds : (s : State) → F.Always s.environment → (h : Option ℕ) (k : ℕ) (rest : List ℕ) → F.Moves s.environment h (k ∷ rest) s.memo s.answer → (ws : List Waiting) → Below s.environment h ws → (ds : List Datum) (x : Makes m t s.environment k s.memo s.answer (Give ds)) (y : Option Environment) → bind s.environment x.operation.results ds ≡ y → IfGoes (after_giving s rest ws ds y) Holding
  give_holds s a h k rest p ws b ds x None e = tt
  give_holds s a h k rest p [] b ds x (Some env1) e = tt
  give_holds s a None k rest p (w ∷ ws) b ds x (Some env1) e = absurd b
  give_holds s a (Some h) k rest p (w ∷ ws) b ds x (Some env1) e =
      let f = rules.gives s.environment env1 h k rest s.memo s.answer ds a p x e in
      record { holder = Some h; always = f.0; place = f.1; below = below_more s.environment env1 k f.2 (Some h) (w ∷ ws) (some_deep s.environment (Some h) k rest s.memo s.answer p) b }

  go_begins : (s : State) → F.Always s.environment → (h k : ℕ) (rest : List ℕ) → F.Moves s.environment (Some h) (k ∷ rest) s.memo s.answer → (ws : List Waiting) → Below s.environment (Some h) ws → (i : ℕ) (ds : List Datum) (x : Makes m t s.environment k s.memo s.answer (Goto i ds)) (c : ℕ) → slice_get x.operation.successors i ≡ Some c → (b : Block) → block_at t c ≡ Some b → (y : Option Environment) → bind s.environment b.arguments ds ≡ y → IfGoes (begin s b.operations ws y) Holding
  go_begins s a h k rest p ws bl i ds x c ce b be None e = tt
  go_begins s a h k rest p ws bl i ds x c ce b be (Some env1) e =
      let f = rules.goes s.environment env1 h k rest s.memo s.answer i ds c b a p x ce be e in
      record { holder = Some h; always = f.0; place = f.1; below = below_more s.environment env1 k f.2 (Some h) ws (some_deep s.environment (Some h) k rest s.memo s.answer p) bl }

  go_enters : (s : State) → F.Always s.environment → (h k : ℕ) (rest : List ℕ) → F.Moves s.environment (Some h) (k ∷ rest) s.memo s.answer → (ws : List Waiting) → Below s.environment (Some h) ws → (i : ℕ) (ds : List Datum) (x : Makes m t s.environment k s.memo s.answer (Goto i ds)) (c : ℕ) → slice_get x.operation.successors i ≡ Some c → (b : Option Block) → block_at t c ≡ b → IfGoes (enter s b ds ws) Holding
  go_enters s a h k rest p ws bl i ds x c ce None be = tt
  go_enters s a h k rest p ws bl i ds x c ce (Some b) be = go_begins s a h k rest p ws bl i ds x c ce b be _ refl

  go_holds : (s : State) → F.Always s.environment → (h : Option ℕ) (k : ℕ) (rest : List ℕ) → F.Moves s.environment h (k ∷ rest) s.memo s.answer → (ws : List Waiting) → Below s.environment h ws → (i : ℕ) (ds : List Datum) (x : Makes m t s.environment k s.memo s.answer (Goto i ds)) (c : Option ℕ) → slice_get x.operation.successors i ≡ c → IfGoes (go_to t s c ds ws) Holding
  go_holds s a h k rest p [] bl i ds x c ce = tt
  go_holds s a None k rest p (w ∷ ws) bl i ds x c ce = absurd bl
  go_holds s a (Some h) k rest p (w ∷ ws) bl i ds x None ce = tt
  go_holds s a (Some h) k rest p (w ∷ ws) bl i ds x (Some c) ce = go_enters s a h k rest p (w ∷ ws) bl i ds x c ce _ refl

  visit_begins : (s : State) → F.Always s.environment → (h : Option ℕ) (k : ℕ) (rest : List ℕ) → F.Moves s.environment h (k ∷ rest) s.memo s.answer → (ws : List Waiting) → Below s.environment h ws → (i : ℕ) (ds : List Datum) (next : Datum) (x : Makes m t s.environment k s.memo s.answer (Visit i ds next)) (r : ℕ) → slice_get x.operation.regions i ≡ Some r → (b : Block) → entry_block t r ≡ Some b → (y : Option Environment) → bind s.environment b.arguments ds ≡ y → IfGoes (begin s b.operations (record { rest = k ∷ rest; memo = next } ∷ ws) y) Holding
  visit_begins s a h k rest p ws bl i ds next x r re b be None e = tt
  visit_begins s a h k rest p ws bl i ds next x r re b be (Some env1) e =
      let f = rules.visits s.environment env1 h k rest s.memo s.answer i ds next r b a p x re be e in
      record { holder = Some k; always = f.0; place = f.1; below = (rest, h, refl, f.2, below_more s.environment env1 k f.3 h ws (some_deep s.environment h k rest s.memo s.answer p) bl) }

  visit_enters : (s : State) → F.Always s.environment → (h : Option ℕ) (k : ℕ) (rest : List ℕ) → F.Moves s.environment h (k ∷ rest) s.memo s.answer → (ws : List Waiting) → Below s.environment h ws → (i : ℕ) (ds : List Datum) (next : Datum) (x : Makes m t s.environment k s.memo s.answer (Visit i ds next)) (r : ℕ) → slice_get x.operation.regions i ≡ Some r → (b : Option Block) → entry_block t r ≡ b → IfGoes (enter s b ds (record { rest = k ∷ rest; memo = next } ∷ ws)) Holding
  visit_enters s a h k rest p ws bl i ds next x r re None be = tt
  visit_enters s a h k rest p ws bl i ds next x r re (Some b) be = visit_begins s a h k rest p ws bl i ds next x r re b be _ refl

  visit_holds : (s : State) → F.Always s.environment → (h : Option ℕ) (k : ℕ) (rest : List ℕ) → F.Moves s.environment h (k ∷ rest) s.memo s.answer → (ws : List Waiting) → Below s.environment h ws → (i : ℕ) (ds : List Datum) (next : Datum) (x : Makes m t s.environment k s.memo s.answer (Visit i ds next)) (r : Option ℕ) → slice_get x.operation.regions i ≡ r → IfGoes (enter s (entry_in t r) ds (record { rest = k ∷ rest; memo = next } ∷ ws)) Holding
  visit_holds s a h k rest p ws bl i ds next x None re = tt
  visit_holds s a h k rest p ws bl i ds next x (Some r) re = visit_enters s a h k rest p ws bl i ds next x r re _ refl

  emit_holds : (s : State) → (g : Holding s) → (k : ℕ) (rest : List ℕ) → s.rest ≡ k ∷ rest → (e next : Datum) → Makes m t s.environment k s.memo s.answer (Emit e next) → (world : List Datum) → IfGoes (emit s e next world) Holding
  emit_holds s g k rest re e next x [] = tt
  emit_holds s g k rest re e next x (d ∷ world) = record {
    holder = g.holder;
    always = g.always;
    place = subst (λ r. F.Moves s.environment g.holder r next (Some (d ∷ []))) (sym re) (rules.accurate s.environment g.holder k rest s.memo s.answer e next d g.always (subst (λ r. F.Moves s.environment g.holder r s.memo s.answer) re g.place) x);
    below = g.below;
  }

  perform_holds : (s : State) → (g : Holding s) → (k : ℕ) (rest : List ℕ) → s.rest ≡ k ∷ rest → (a : Move) (x : Makes m t s.environment k s.memo s.answer a) → IfGoes (perform t s x.operation k rest a) Holding
  perform_holds s g k rest re (Give ds) x = give_holds s g.always g.holder k rest (subst (λ r. F.Moves s.environment g.holder r s.memo s.answer) re g.place) s.waiting g.below ds x _ refl
  perform_holds s g k rest re (Visit i ds next) x = visit_holds s g.always g.holder k rest (subst (λ r. F.Moves s.environment g.holder r s.memo s.answer) re g.place) s.waiting g.below i ds next x _ refl
  perform_holds s g k rest re (Goto i ds) x = go_holds s g.always g.holder k rest (subst (λ r. F.Moves s.environment g.holder r s.memo s.answer) re g.place) s.waiting g.below i ds x _ refl
  perform_holds s g k rest re (Leave ds) x = leave_holds s g.always g.holder s.waiting g.below ds
  perform_holds s g k rest re (Emit e next) x = emit_holds s g k rest re e next x s.world
  perform_holds s g k rest re Trap x = tt

  move_holds : (s : State) → (g : Holding s) → (k : ℕ) (rest : List ℕ) → s.rest ≡ k ∷ rest → (o : Operation) → op_at t k ≡ Some o → (i : Option (List Datum)) → input_of s.environment o.operands s.answer ≡ i → IfGoes (move m t s o k rest i) Holding
  move_holds s g k rest re o oe None ie = tt
  move_holds s g k rest re o oe (Some ds) ie = perform_holds s g k rest re _ (record { operation = o; liveness = oe; input = ds; reads = ie; acts = refl })

  turn_holds : (s : State) → (g : Holding s) → (k : ℕ) (rest : List ℕ) → s.rest ≡ k ∷ rest → (o : Option Operation) → op_at t k ≡ o → IfGoes (turn m t s k rest o) Holding
  turn_holds s g k rest re None oe = tt
  turn_holds s g k rest re (Some o) oe = move_holds s g k rest re o oe _ refl

  rest_holds : (s : State) → (g : Holding s) → (rest : List ℕ) → s.rest ≡ rest → IfGoes (step_at m t s rest) Holding
  rest_holds s g [] re = leave_holds s g.always g.holder s.waiting g.below []
  rest_holds s g (k ∷ rest) re = turn_holds s g k rest re _ refl

  pub holding_kept : Kept (step m t) Holding
  unfolding step
  holding_kept = record { keeps = λ s g. rest_holds s g s.rest refl }
