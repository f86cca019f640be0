-- Two runs whose operations make alike moves go on alike.
use Rattle.std.proofs.Common.{◌≡◌, ℕ, List, [], ◌∷◌, Option, Some, None, refl, sym, ap, ◌∙◌, subst, arith, slice_get}
use Rattle.pliron_laws.specs.Datum.{Datum, Empty, Move, Give, Visit, Goto, Leave, Emit, Trap}
use Rattle.pliron_laws.specs.Tree.{Tree, Operation, Block}
use Rattle.pliron_laws.specs.Machine.{Environment, Waiting, State, Next, Continues, Over, Ended, Trapped, Reached, trap, bind, at_rest, leave, after_giving, begin, enter, entry_in, block_in, go_to, emit, perform}
use Rattle.pliron_laws.specs.Acting.{MovesAlike}
use Rattle.pliron_theory.proofs.Simulation.{Pace, Both, Finish}

abbrev pub NextAlike : (State → State → Type 0) → Next → Next → Type 0
NextAlike R (Continues s) (Continues s') = R s s'
NextAlike R (Over x) (Over y) = x ≡ y
NextAlike R (Continues s) (Over y) = ⊥
NextAlike R (Over x) (Continues s') = ⊥

-- both make a step, or both are over
pub paced : (f g : State → Next) (R : State → State → Type 0) (left : State → State → ℕ) (s s' : State) (o o' : Next) → f s ≡ o → g s' ≡ o' → NextAlike R o o' → Pace f g R left s s'
paced f g R left s s' (Continues a) (Continues b) e e' r = Both a b e e' r
paced f g R left s s' (Over x) (Over y) e e' r = Finish y (e ∙ ap Over r) e'
paced f g R left s s' (Continues a) (Over y) e e' r = absurd r
paced f g R left s s' (Over x) (Continues b) e e' r = absurd r

abbrev pub Waits : (List ℕ → List ℕ → Datum → Type 0) → List Waiting → List Waiting → Type 0
Waits W [] [] = Unit {0}
Waits W [] (w ∷ ws) = ⊥
Waits W (w ∷ ws) [] = ⊥
Waits W (w ∷ ws) (w' ∷ ws') = W w.rest w'.rest w.memo × (w.memo ≡ w'.memo) × Waits W ws ws'

-- how the environments, the places of the two runs and the operations that wait are tied
pub record Ties : Type 1 where
  pub Env : Environment → Environment → Type 0
  pub At : List ℕ → List ℕ → Datum → Option (List Datum) → Type 0
  pub Wait : List ℕ → List ℕ → Datum → Type 0
  -- whatever a visit answers, its operation goes on
  pub resume : (rest rest' : List ℕ) (memo : Datum) (answer : List Datum) → Wait rest rest' memo → At rest rest' memo (Some answer)

pub record Tied (T : Ties) (s s' : State) : Type 0 where
  pub environment : T.Env s.environment s'.environment
  pub memo : s.memo ≡ s'.memo
  pub answer : s.answer ≡ s'.answer
  pub place : T.At s.rest s'.rest s.memo s.answer
  pub waiting : Waits T.Wait s.waiting s'.waiting
  pub world : s.world ≡ s'.world
  pub effects : s.effects ≡ s'.effects

abbrev pub EnvsTied : (Environment → Environment → Type 0) → Option Environment → Option Environment → Type 0
EnvsTied E None None = Unit {0}
EnvsTied E (Some a) (Some b) = E a b
EnvsTied E None (Some b) = ⊥
EnvsTied E (Some a) None = ⊥

pub trap_tied : (T : Ties) (s s' : State) → Tied T s s' → NextAlike (Tied T) (trap s) (trap s')
trap_tied T s s' r = ap Trapped r.effects

pub leave_tied : (T : Ties) (s s' : State) → Tied T s s' → (ws ws' : List Waiting) → Waits T.Wait ws ws' → (ds : List Datum) → NextAlike (Tied T) (leave s ws ds) (leave s' ws' ds)
leave_tied T s s' r [] [] w ds = ap (Ended ds) r.effects
leave_tied T s s' r [] (v ∷ vs) w ds = absurd w
leave_tied T s s' r (v ∷ vs) [] w ds = absurd w
leave_tied T s s' r (v ∷ vs) (v' ∷ vs') w ds = record {
  environment = r.environment;
  memo = w.1;
  answer = refl;
  place = T.resume v.rest v'.rest v.memo ds w.0;
  waiting = w.2;
  world = r.world;
  effects = r.effects;
}

rest_tied : (T : Ties) (s s' : State) → Tied T s s' → (env env' : Environment) → T.Env env env' → (rest rest' : List ℕ) → T.At rest rest' Empty None → (ws ws' : List Waiting) → Waits T.Wait ws ws' → Tied T (at_rest s env rest ws) (at_rest s' env' rest' ws')
rest_tied T s s' r env env' e rest rest' p ws ws' w = record {
  environment = e;
  memo = refl;
  answer = refl;
  place = p;
  waiting = w;
  world = r.world;
  effects = r.effects;
}

given_tied : (T : Ties) (s s' : State) → Tied T s s' → (rest rest' : List ℕ) → T.At rest rest' Empty None → (ws ws' : List Waiting) → Waits T.Wait ws ws' → (ds : List Datum) (o o' : Option Environment) → EnvsTied T.Env o o' → NextAlike (Tied T) (after_giving s rest ws ds o) (after_giving s' rest' ws' ds o')
given_tied T s s' r rest rest' p ws ws' w ds None None e = trap_tied T s s' r
given_tied T s s' r rest rest' p ws ws' w ds None (Some env') e = absurd e
given_tied T s s' r rest rest' p ws ws' w ds (Some env) None e = absurd e
given_tied T s s' r rest rest' p [] [] w ds (Some env) (Some env') e = ap (Ended ds) r.effects
given_tied T s s' r rest rest' p [] (v ∷ vs) w ds (Some env) (Some env') e = absurd w
given_tied T s s' r rest rest' p (v ∷ vs) [] w ds (Some env) (Some env') e = absurd w
given_tied T s s' r rest rest' p (v ∷ vs) (v' ∷ vs') w ds (Some env) (Some env') e = rest_tied T s s' r env env' e rest rest' p (v ∷ vs) (v' ∷ vs') w

begin_tied : (T : Ties) (s s' : State) → Tied T s s' → (rest rest' : List ℕ) → T.At rest rest' Empty None → (ws ws' : List Waiting) → Waits T.Wait ws ws' → (o o' : Option Environment) → EnvsTied T.Env o o' → NextAlike (Tied T) (begin s rest ws o) (begin s' rest' ws' o')
begin_tied T s s' r rest rest' p ws ws' w None None e = trap_tied T s s' r
begin_tied T s s' r rest rest' p ws ws' w None (Some env') e = absurd e
begin_tied T s s' r rest rest' p ws ws' w (Some env) None e = absurd e
begin_tied T s s' r rest rest' p ws ws' w (Some env) (Some env') e = rest_tied T s s' r env env' e rest rest' p ws ws' w

-- two blocks that are entered alike, with these values on the one side and those on the other
abbrev pub EntersTied : Ties → Option Block → Option Block → List Datum → List Datum → Type 0
EntersTied T None None ds es = Unit {0}
EntersTied T None (Some b) ds es = ⊥
EntersTied T (Some b) None ds es = ⊥
EntersTied T (Some b) (Some b') ds es = T.At b.operations b'.operations Empty None × ((env env' : Environment) → T.Env env env' → EnvsTied T.Env (bind env b.arguments ds) (bind env' b'.arguments es))

enters_tied : (T : Ties) (s s' : State) → Tied T s s' → (b b' : Option Block) (ds es : List Datum) → EntersTied T b b' ds es → (ws ws' : List Waiting) → Waits T.Wait ws ws' → NextAlike (Tied T) (enter s b ds ws) (enter s' b' es ws')
enters_tied T s s' r None None ds es h ws ws' w = trap_tied T s s' r
enters_tied T s s' r None (Some b) ds es h ws ws' w = absurd h
enters_tied T s s' r (Some b) None ds es h ws ws' w = absurd h
enters_tied T s s' r (Some b) (Some b') ds es h ws ws' w = begin_tied T s s' r b.operations b'.operations h.0 ws ws' w _ _ (h.1 s.environment s'.environment r.environment)

goes_tied : (T : Ties) (t t' : Tree) (s s' : State) → Tied T s s' → (b b' : Option ℕ) (ds es : List Datum) → EntersTied T (block_in t b) (block_in t' b') ds es → (ws ws' : List Waiting) → Waits T.Wait ws ws' → NextAlike (Tied T) (go_to t s b ds ws) (go_to t' s' b' es ws')
goes_tied T t t' s s' r b b' ds es h [] [] w = trap_tied T s s' r
goes_tied T t t' s s' r b b' ds es h [] (v ∷ vs) w = absurd w
goes_tied T t t' s s' r b b' ds es h (v ∷ vs) [] w = absurd w
goes_tied T t t' s s' r b b' ds es h (v ∷ vs) (v' ∷ vs') w = enters_tied T s s' r _ _ ds es h (v ∷ vs) (v' ∷ vs') w

-- what alike moves of two operations need, to lead to tied states
pub record AlikeMoves (T : Ties) (t t' : Tree) (s s' : State) (k k' : ℕ) (rest rest' : List ℕ) (o o' : Operation) (a : Move) (visits : ℕ → List Datum → List Datum → Type 0) (gotos : ℕ → List Datum → ℕ → List Datum → Type 0) : Type 0 where
  pub after : T.At rest rest' Empty None
  pub wait : (i : ℕ) (ds : List Datum) (memo : Datum) → a ≡ Visit i ds memo → T.Wait (k ∷ rest) (k' ∷ rest') memo
  pub answered : (e memo answer : Datum) → a ≡ Emit e memo → T.At s.rest s'.rest memo (Some (answer ∷ []))
  pub results : (env env' : Environment) (ds : List Datum) → T.Env env env' → EnvsTied T.Env (bind env o.results ds) (bind env' o'.results ds)
  pub entries : (i : ℕ) (ds es : List Datum) → visits i ds es → EntersTied T (entry_in t (slice_get o.regions i)) (entry_in t' (slice_get o'.regions i)) ds es
  pub targets : (i j : ℕ) (ds es : List Datum) → gotos i ds j es → EntersTied T (block_in t (slice_get o.successors i)) (block_in t' (slice_get o'.successors j)) ds es

emits_tied : (T : Ties) (s s' : State) → Tied T s s' → (e memo : Datum) → ((answer : Datum) → T.At s.rest s'.rest memo (Some (answer ∷ []))) → (world world' : List Datum) → world ≡ world' → NextAlike (Tied T) (emit s e memo world) (emit s' e memo world')
emits_tied T s s' r e memo p [] [] w = ap (λ l. Reached (e ∷ l)) r.effects
emits_tied T s s' r e memo p [] (d ∷ ds) w = grind arith
emits_tied T s s' r e memo p (d ∷ ds) [] w = grind arith
emits_tied T s s' r e memo p (d ∷ ds) (d' ∷ ds') w = record {
  environment = r.environment;
  memo = refl;
  answer = ap (λ x. Some (x ∷ [])) d_same;
  place = p d;
  waiting = r.waiting;
  world = ds_same;
  effects = ap (λ l. e ∷ l) r.effects;
}
  where
    d_same : d ≡ d'
    d_same = cc

    ds_same : ds ≡ ds'
    ds_same = cc

pub alike_tied : (T : Ties) (t t' : Tree) (s s' : State) → Tied T s s' → (k k' : ℕ) (rest rest' : List ℕ) (o o' : Operation) (visits : ℕ → List Datum → List Datum → Type 0) (gotos : ℕ → List Datum → ℕ → List Datum → Type 0) (a b : Move) → MovesAlike visits gotos a b → AlikeMoves T t t' s s' k k' rest rest' o o' a visits gotos → NextAlike (Tied T) (perform t s o k rest a) (perform t' s' o' k' rest' b)
alike_tied T t t' s s' r k k' rest rest' o o' visits gotos (Give ds) b m h = subst (λ x. NextAlike (Tied T) (after_giving s rest s.waiting ds (bind s.environment o.results ds)) (perform t' s' o' k' rest' x)) (sym (m.give ds refl)) (given_tied T s s' r rest rest' h.after s.waiting s'.waiting r.waiting ds _ _ (h.results s.environment s'.environment ds r.environment))
alike_tied T t t' s s' r k k' rest rest' o o' visits gotos (Visit i ds memo) b m h =
    let v = m.visit i ds memo refl in
    subst (λ x. NextAlike (Tied T) (perform t s o k rest (Visit i ds memo)) (perform t' s' o' k' rest' x)) (sym v.1) (enters_tied T s s' r _ _ ds v.0 (h.entries i ds v.0 v.2) _ _ (h.wait i ds memo refl, refl, r.waiting))
alike_tied T t t' s s' r k k' rest rest' o o' visits gotos (Goto i ds) b m h =
    let v = m.goto i ds refl in
    subst (λ x. NextAlike (Tied T) (perform t s o k rest (Goto i ds)) (perform t' s' o' k' rest' x)) (sym v.2) (goes_tied T t t' s s' r _ _ ds v.1 (h.targets i v.0 ds v.1 v.3) s.waiting s'.waiting r.waiting)
alike_tied T t t' s s' r k k' rest rest' o o' visits gotos (Leave ds) b m h = subst (λ x. NextAlike (Tied T) (leave s s.waiting ds) (perform t' s' o' k' rest' x)) (sym (m.leave ds refl)) (leave_tied T s s' r s.waiting s'.waiting r.waiting ds)
alike_tied T t t' s s' r k k' rest rest' o o' visits gotos (Emit e memo) b m h = subst (λ x. NextAlike (Tied T) (emit s e memo s.world) (perform t' s' o' k' rest' x)) (sym (m.emit e memo refl)) (emits_tied T s s' r e memo (λ answer. h.answered e memo answer refl) s.world s'.world r.world)
alike_tied T t t' s s' r k k' rest rest' o o' visits gotos Trap b m h = subst (λ x. NextAlike (Tied T) (trap s) (perform t' s' o' k' rest' x)) (sym (m.traps refl)) (trap_tied T s s' r)
