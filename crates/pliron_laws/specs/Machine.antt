-- The machine that runs a tree.
pub use Rattle.pliron_laws.specs.States.{Environment, Waiting, State, Sight, Ended, Trapped, Reached, Next, Continues, Over, trap, environment_with, bind, prepend_optional, data_of, input_of}
use Rattle.std.specs.Prelude.{ℕ, zero, suc, List, [], ◌∷◌, Option, Some, None, slice_get}
use Rattle.pliron_laws.specs.Datum.{Datum, Empty, Move, Give, Visit, Goto, Leave, Emit, Trap, Meaning}
use Rattle.pliron_laws.specs.Tree.{Tree, Operation, Block, op_at, block_at, entry_block, shape_of}

-- the next operation of a block begins
abbrev pub at_rest : State → Environment → List ℕ → List Waiting → State
at_rest s env rest waiting = record s { environment = env; rest = rest; memo = Empty; answer = None; waiting = waiting }

-- an invocation ends with these values, or the run where no invocation is open
abbrev pub leave : State → List Waiting → List Datum → Next
leave s [] ds = Over (Ended ds s.effects)
leave s (w ∷ ws) ds = Continues (record s { rest = w.rest; memo = w.memo; answer = Some ds; waiting = ws })

abbrev pub after_giving : State → List ℕ → List Waiting → List Datum → Option Environment → Next
after_giving s rest waiting ds None = trap s
after_giving s rest [] ds (Some env) = Over (Ended ds s.effects)
after_giving s rest (w ∷ ws) ds (Some env) = Continues (at_rest s env rest (w ∷ ws))

abbrev pub begin : State → List ℕ → List Waiting → Option Environment → Next
begin s rest waiting None = trap s
begin s rest waiting (Some env) = Continues (at_rest s env rest waiting)

-- a block begins with these values as its arguments
abbrev pub enter : State → Option Block → List Datum → List Waiting → Next
enter s None ds waiting = trap s
enter s (Some b) ds waiting = begin s b.operations waiting (bind s.environment b.arguments ds)

abbrev pub entry_in : Tree → Option ℕ → Option Block
entry_in t None = None
entry_in t (Some r) = entry_block t r

abbrev pub block_in : Tree → Option ℕ → Option Block
block_in t None = None
block_in t (Some b) = block_at t b

abbrev pub go_to : Tree → State → Option ℕ → List Datum → List Waiting → Next
go_to t s b ds [] = trap s
go_to t s b ds (w ∷ ws) = enter s (block_in t b) ds (w ∷ ws)

abbrev pub emit : State → Datum → Datum → List Datum → Next
emit s e memo [] = Over (Reached (e ∷ s.effects))
emit s e memo (d ∷ world) = Continues (record s { memo = memo; answer = Some (d ∷ []); world = world; effects = e ∷ s.effects })

-- what a transition of the operation `o` does, where `self` is its handle and `rest` are the ones after it
abbrev pub perform : Tree → State → Operation → ℕ → List ℕ → Move → Next
perform t s o self rest (Give ds) = after_giving s rest s.waiting ds (bind s.environment o.results ds)
perform t s o self rest (Visit i ds memo) = enter s (entry_in t (slice_get o.regions i)) ds (record { rest = self ∷ rest; memo = memo } ∷ s.waiting)
perform t s o self rest (Goto i ds) = go_to t s (slice_get o.successors i) ds s.waiting
perform t s o self rest (Leave ds) = leave s s.waiting ds
perform t s o self rest (Emit e memo) = emit s e memo s.world
perform t s o self rest Trap = trap s

abbrev pub move : Meaning → Tree → State → Operation → ℕ → List ℕ → Option (List Datum) → Next
move m t s o self rest None = trap s
move m t s o self rest (Some ds) = perform t s o self rest (m.act (shape_of m t o) s.memo ds)

abbrev pub turn : Meaning → Tree → State → ℕ → List ℕ → Option Operation → Next
turn m t s self rest None = trap s
turn m t s self rest (Some o) = move m t s o self rest (input_of s.environment o.operands s.answer)

-- one transition, or the end of a block that no operation ended
abbrev pub step_at : Meaning → Tree → State → List ℕ → Next
step_at m t s [] = leave s s.waiting []
step_at m t s (k ∷ rest) = turn m t s k rest (op_at t k)

unfoldable pub step : Meaning → Tree → State → Next
step m t s = step_at m t s s.rest

abbrev pub onward : Next → (State → Next) → Next
onward (Continues s) go = go s
onward (Over x) go = Over x

-- at most n steps
abbrev pub run_from : (State → Next) → ℕ → State → Next
run_from f zero s = Continues s
run_from f (suc n) s = onward (f s) (run_from f n)

abbrev pub start : ℕ → List Datum → List Datum → State
start root inputs world = record {
  environment = λ v. None;
  rest = root ∷ [];
  memo = Empty;
  answer = Some inputs;
  waiting = [];
  world = world;
  effects = [];
}

-- the run of a root on these inputs in this environment, at most n steps of it
abbrev pub run : Meaning → Tree → ℕ → List Datum → List Datum → ℕ → Next
run m t root inputs world n = run_from (step m t) n (start root inputs world)

abbrev pub sight_after : Next → Sight
sight_after (Continues s) = Reached s.effects
sight_after (Over x) = x
