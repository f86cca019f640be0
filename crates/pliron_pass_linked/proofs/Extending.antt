-- A run whose world has more answers takes the same steps.
use Rattle.std.proofs.Common.{◌≡◌, ℕ, zero, suc, List, [], ◌∷◌, ◌++◌, Option, Some, None, refl, sym, subst, slice_get}
use Rattle.pliron_laws.specs.Datum.{Datum, Move, Give, Visit, Goto, Leave, Emit, Trap, Meaning}
use Rattle.pliron_laws.specs.Tree.{Tree, Operation, Block, op_at, shape_of}
use Rattle.pliron_laws.specs.Machine.{Environment, Waiting, State, Next, Continues, Over, bind, input_of, leave, after_giving, begin, enter, entry_in, block_in, go_to, emit, perform, move, turn, step_at, step, run_from, onward}

abbrev pub extended : State → List Datum → State
extended s ds = record s { world = s.world ++ ds }

-- where the first goes on, so does the second
abbrev pub GoesExtended : List Datum → Next → Next → Type 0
GoesExtended ds (Continues a) o = o ≡ Continues (extended a ds)
GoesExtended ds (Over x) o = Unit {0}

leave_extends : (more : List Datum) (s : State) (ws : List Waiting) (ds : List Datum) → GoesExtended more (leave s ws ds) (leave (extended s more) ws ds)
leave_extends more s [] ds = tt
leave_extends more s (w ∷ ws) ds = refl

giving_extends : (more : List Datum) (s : State) (rest : List ℕ) (ws : List Waiting) (ds : List Datum) (o : Option Environment) → GoesExtended more (after_giving s rest ws ds o) (after_giving (extended s more) rest ws ds o)
giving_extends more s rest ws ds None = tt
giving_extends more s rest [] ds (Some env) = tt
giving_extends more s rest (w ∷ ws) ds (Some env) = refl

begin_extends : (more : List Datum) (s : State) (rest : List ℕ) (ws : List Waiting) (o : Option Environment) → GoesExtended more (begin s rest ws o) (begin (extended s more) rest ws o)
begin_extends more s rest ws None = tt
begin_extends more s rest ws (Some env) = refl

enter_extends : (more : List Datum) (s : State) (b : Option Block) (ds : List Datum) (ws : List Waiting) → GoesExtended more (enter s b ds ws) (enter (extended s more) b ds ws)
enter_extends more s None ds ws = tt
enter_extends more s (Some b) ds ws = begin_extends more s b.operations ws (bind s.environment b.arguments ds)

go_extends : (more : List Datum) (t : Tree) (s : State) (b : Option ℕ) (ds : List Datum) (ws : List Waiting) → GoesExtended more (go_to t s b ds ws) (go_to t (extended s more) b ds ws)
go_extends more t s b ds [] = tt
go_extends more t s b ds (w ∷ ws) = enter_extends more s (block_in t b) ds (w ∷ ws)

emit_extends : (more : List Datum) (s : State) (e memo : Datum) (world : List Datum) → GoesExtended more (emit s e memo world) (emit (extended s more) e memo (world ++ more))
emit_extends more s e memo [] = tt
emit_extends more s e memo (d ∷ world) = refl

perform_extends : (more : List Datum) (t : Tree) (s : State) (o : Operation) (self : ℕ) (rest : List ℕ) (a : Move) → GoesExtended more (perform t s o self rest a) (perform t (extended s more) o self rest a)
perform_extends more t s o self rest (Give ds) = giving_extends more s rest s.waiting ds (bind s.environment o.results ds)
perform_extends more t s o self rest (Visit i ds memo) = enter_extends more s (entry_in t (slice_get o.regions i)) ds (record { rest = self ∷ rest; memo = memo } ∷ s.waiting)
perform_extends more t s o self rest (Goto i ds) = go_extends more t s (slice_get o.successors i) ds s.waiting
perform_extends more t s o self rest (Leave ds) = leave_extends more s s.waiting ds
perform_extends more t s o self rest (Emit e memo) = emit_extends more s e memo s.world
perform_extends more t s o self rest Trap = tt

move_extends : (more : List Datum) (m : Meaning) (t : Tree) (s : State) (o : Operation) (self : ℕ) (rest : List ℕ) (ds : Option (List Datum)) → GoesExtended more (move m t s o self rest ds) (move m t (extended s more) o self rest ds)
move_extends more m t s o self rest None = tt
move_extends more m t s o self rest (Some ds) = perform_extends more t s o self rest (m.act (shape_of m t o) s.memo ds)

turn_extends : (more : List Datum) (m : Meaning) (t : Tree) (s : State) (self : ℕ) (rest : List ℕ) (o : Option Operation) → GoesExtended more (turn m t s self rest o) (turn m t (extended s more) self rest o)
turn_extends more m t s self rest None = tt
turn_extends more m t s self rest (Some o) = move_extends more m t s o self rest (input_of s.environment o.operands s.answer)

step_at_extends : (more : List Datum) (m : Meaning) (t : Tree) (s : State) (rest : List ℕ) → GoesExtended more (step_at m t s rest) (step_at m t (extended s more) rest)
step_at_extends more m t s [] = leave_extends more s s.waiting []
step_at_extends more m t s (k ∷ rest) = turn_extends more m t s k rest (op_at t k)

pub step_extends : (more : List Datum) (m : Meaning) (t : Tree) (s : State) → GoesExtended more (step m t s) (step m t (extended s more))
unfolding step
step_extends more m t s = step_at_extends more m t s s.rest

pub run_extends : (more : List Datum) (m : Meaning) (t : Tree) (n : ℕ) (s : State) → GoesExtended more (run_from (step m t) n s) (run_from (step m t) n (extended s more))
run_extends more m t zero s = refl
run_extends more m t (suc n) s = go (step m t s) (step m t (extended s more)) (step_extends more m t s) (λ a. run_extends more m t n a)
  where
    go : (o o' : Next) → GoesExtended more o o' → ((a : State) → GoesExtended more (run_from (step m t) n a) (run_from (step m t) n (extended a more))) → GoesExtended more (onward o (run_from (step m t) n)) (onward o' (run_from (step m t) n))
    go (Continues a) o' e again = subst (λ z. GoesExtended more (run_from (step m t) n a) (onward z (run_from (step m t) n))) (sym e) (again a)
    go (Over x) o' e again = tt
