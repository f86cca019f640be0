-- A run goes on alike whatever effects it showed before, and takes an answer to each effect.
use Rattle.std.proofs.Common.{◌≡◌, ℕ, List, [], ◌∷◌, Option, Some, None, refl, arith, slice_get}
use Rattle.pliron_laws.specs.Datum.{Datum, Move, Give, Visit, Goto, Leave, Emit, Trap, Meaning}
use Rattle.pliron_laws.specs.Tree.{Tree, Operation, Block, op_at, shape_of}
use Rattle.pliron_laws.specs.Machine.{Environment, Waiting, State, Ended, Trapped, Reached, Next, Continues, Over, bind, input_of, leave, after_giving, begin, enter, entry_in, block_in, go_to, emit, perform, move, turn, step_at, step}
use Rattle.pliron_rewrite_inlining.proofs.Seen.{SeenSame}

abbrev pub with_effects : State → List Datum → State
with_effects s es = record s { effects = es }

-- the second goes on as the first, but for the effects before
abbrev pub ButForEffects : Next → Next → Type 0
ButForEffects (Continues a) o = (es : List Datum) × (o ≡ Continues (with_effects a es))
ButForEffects (Over x) (Continues b) = ⊥
ButForEffects (Over x) (Over y) = SeenSame x y

leave_seen : (es : List Datum) (s : State) (ws : List Waiting) (ds : List Datum) → ButForEffects (leave s ws ds) (leave (with_effects s es) ws ds)
leave_seen es s [] ds = refl
leave_seen es s (w ∷ ws) ds = (es, refl)

giving_seen : (es : List Datum) (s : State) (rest : List ℕ) (ws : List Waiting) (ds : List Datum) (o : Option Environment) → ButForEffects (after_giving s rest ws ds o) (after_giving (with_effects s es) rest ws ds o)
giving_seen es s rest ws ds None = tt
giving_seen es s rest [] ds (Some env) = refl
giving_seen es s rest (w ∷ ws) ds (Some env) = (es, refl)

begin_seen : (es : List Datum) (s : State) (rest : List ℕ) (ws : List Waiting) (o : Option Environment) → ButForEffects (begin s rest ws o) (begin (with_effects s es) rest ws o)
begin_seen es s rest ws None = tt
begin_seen es s rest ws (Some env) = (es, refl)

enter_seen : (es : List Datum) (s : State) (b : Option Block) (ds : List Datum) (ws : List Waiting) → ButForEffects (enter s b ds ws) (enter (with_effects s es) b ds ws)
enter_seen es s None ds ws = tt
enter_seen es s (Some b) ds ws = begin_seen es s b.operations ws (bind s.environment b.arguments ds)

go_seen : (es : List Datum) (t : Tree) (s : State) (b : Option ℕ) (ds : List Datum) (ws : List Waiting) → ButForEffects (go_to t s b ds ws) (go_to t (with_effects s es) b ds ws)
go_seen es t s b ds [] = tt
go_seen es t s b ds (w ∷ ws) = enter_seen es s (block_in t b) ds (w ∷ ws)

emit_seen : (es : List Datum) (s : State) (e memo : Datum) (world : List Datum) → ButForEffects (emit s e memo world) (emit (with_effects s es) e memo world)
emit_seen es s e memo [] = refl
emit_seen es s e memo (d ∷ world) = (e ∷ es, refl)

perform_seen : (es : List Datum) (t : Tree) (s : State) (o : Operation) (self : ℕ) (rest : List ℕ) (a : Move) → ButForEffects (perform t s o self rest a) (perform t (with_effects s es) o self rest a)
perform_seen es t s o self rest (Give ds) = giving_seen es s rest s.waiting ds (bind s.environment o.results ds)
perform_seen es t s o self rest (Visit i ds memo) = enter_seen es s (entry_in t (slice_get o.regions i)) ds (record { rest = self ∷ rest; memo = memo } ∷ s.waiting)
perform_seen es t s o self rest (Goto i ds) = go_seen es t s (slice_get o.successors i) ds s.waiting
perform_seen es t s o self rest (Leave ds) = leave_seen es s s.waiting ds
perform_seen es t s o self rest (Emit e memo) = emit_seen es s e memo s.world
perform_seen es t s o self rest Trap = tt

move_seen : (es : List Datum) (m : Meaning) (t : Tree) (s : State) (o : Operation) (self : ℕ) (rest : List ℕ) (ds : Option (List Datum)) → ButForEffects (move m t s o self rest ds) (move m t (with_effects s es) o self rest ds)
move_seen es m t s o self rest None = tt
move_seen es m t s o self rest (Some ds) = perform_seen es t s o self rest (m.act (shape_of m t o) s.memo ds)

turn_seen : (es : List Datum) (m : Meaning) (t : Tree) (s : State) (self : ℕ) (rest : List ℕ) (o : Option Operation) → ButForEffects (turn m t s self rest o) (turn m t (with_effects s es) self rest o)
turn_seen es m t s self rest None = tt
turn_seen es m t s self rest (Some o) = move_seen es m t s o self rest (input_of s.environment o.operands s.answer)

rest_seen : (es : List Datum) (m : Meaning) (t : Tree) (s : State) (rest : List ℕ) → ButForEffects (step_at m t s rest) (step_at m t (with_effects s es) rest)
rest_seen es m t s [] = leave_seen es s s.waiting []
rest_seen es m t s (k ∷ rest) = turn_seen es m t s k rest (op_at t k)

pub step_seen : (es : List Datum) (m : Meaning) (t : Tree) (s : State) → ButForEffects (step m t s) (step m t (with_effects s es))
unfolding step
step_seen es m t s = rest_seen es m t s s.rest

abbrev pub with_world : State → Datum → State
with_world s d = record s { world = d ∷ [] }

-- without answers it goes on without answers, or is over; where it shows an effect, it goes on once it has an answer, which
-- it takes
abbrev pub Asks : Next → Next → Type 0
Asks (Continues a) o = a.world ≡ []
Asks (Over (Ended ds es)) o = Unit {0}
Asks (Over (Trapped es)) o = Unit {0}
Asks (Over (Reached es)) o = (a : State) × (o ≡ Continues a) × (a.world ≡ [])

module _ (d : Datum) where
  leave_asks : (s : State) → s.world ≡ [] → (ws : List Waiting) (ds : List Datum) (o : Next) → Asks (leave s ws ds) o
  leave_asks s w [] ds o = tt
  leave_asks s w (v ∷ ws) ds o = w

  giving_asks : (s : State) → s.world ≡ [] → (rest : List ℕ) (ws : List Waiting) (ds : List Datum) (x : Option Environment) (o : Next) → Asks (after_giving s rest ws ds x) o
  giving_asks s w rest ws ds None o = tt
  giving_asks s w rest [] ds (Some env) o = tt
  giving_asks s w rest (v ∷ ws) ds (Some env) o = w

  begin_asks : (s : State) → s.world ≡ [] → (rest : List ℕ) (ws : List Waiting) (x : Option Environment) (o : Next) → Asks (begin s rest ws x) o
  begin_asks s w rest ws None o = tt
  begin_asks s w rest ws (Some env) o = w

  enter_asks : (s : State) → s.world ≡ [] → (b : Option Block) (ds : List Datum) (ws : List Waiting) (o : Next) → Asks (enter s b ds ws) o
  enter_asks s w None ds ws o = tt
  enter_asks s w (Some b) ds ws o = begin_asks s w b.operations ws (bind s.environment b.arguments ds) o

  go_asks : (t : Tree) (s : State) → s.world ≡ [] → (b : Option ℕ) (ds : List Datum) (ws : List Waiting) (o : Next) → Asks (go_to t s b ds ws) o
  go_asks t s w b ds [] o = tt
  go_asks t s w b ds (v ∷ ws) o = enter_asks s w (block_in t b) ds (v ∷ ws) o

  emit_asks : (s : State) (e memo : Datum) (world : List Datum) → world ≡ [] → Asks (emit s e memo world) (emit (with_world s d) e memo (d ∷ []))
  emit_asks s e memo [] w = (_, refl, refl)
  emit_asks s e memo (y ∷ world) w = grind arith

  perform_asks : (t : Tree) (s : State) → s.world ≡ [] → (o : Operation) (self : ℕ) (rest : List ℕ) (a : Move) → Asks (perform t s o self rest a) (perform t (with_world s d) o self rest a)
  perform_asks t s w o self rest (Give ds) = giving_asks s w rest s.waiting ds (bind s.environment o.results ds) _
  perform_asks t s w o self rest (Visit i ds memo) = enter_asks s w (entry_in t (slice_get o.regions i)) ds (record { rest = self ∷ rest; memo = memo } ∷ s.waiting) _
  perform_asks t s w o self rest (Goto i ds) = go_asks t s w (slice_get o.successors i) ds s.waiting _
  perform_asks t s w o self rest (Leave ds) = leave_asks s w s.waiting ds _
  perform_asks t s w o self rest (Emit e memo) = emit_asks s e memo s.world w
  perform_asks t s w o self rest Trap = tt

  move_asks : (m : Meaning) (t : Tree) (s : State) → s.world ≡ [] → (o : Operation) (self : ℕ) (rest : List ℕ) (ds : Option (List Datum)) → Asks (move m t s o self rest ds) (move m t (with_world s d) o self rest ds)
  move_asks m t s w o self rest None = tt
  move_asks m t s w o self rest (Some ds) = perform_asks t s w o self rest (m.act (shape_of m t o) s.memo ds)

  turn_asks : (m : Meaning) (t : Tree) (s : State) → s.world ≡ [] → (self : ℕ) (rest : List ℕ) (o : Option Operation) → Asks (turn m t s self rest o) (turn m t (with_world s d) self rest o)
  turn_asks m t s w self rest None = tt
  turn_asks m t s w self rest (Some o) = move_asks m t s w o self rest (input_of s.environment o.operands s.answer)

  rest_asks : (m : Meaning) (t : Tree) (s : State) → s.world ≡ [] → (rest : List ℕ) → Asks (step_at m t s rest) (step_at m t (with_world s d) rest)
  rest_asks m t s w [] = leave_asks s w s.waiting [] _
  rest_asks m t s w (k ∷ rest) = turn_asks m t s w k rest (op_at t k)

  pub step_asks : (m : Meaning) (t : Tree) (s : State) → s.world ≡ [] → Asks (step m t s) (step m t (with_world s d))
  unfolding step
  step_asks m t s w = rest_asks m t s w s.rest
