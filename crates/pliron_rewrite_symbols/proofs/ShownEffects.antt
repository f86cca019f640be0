-- The calls that a run shows come from the operations that it meets.
use Rattle.std.proofs.Common.{◌≡◌, ℕ, zero, suc, List, [], ◌∷◌, Option, Some, None, refl, sym, ap, ◌∙◌, subst, slice_get}
use Rattle.pliron_laws.specs.Datum.{Datum, Move, Give, Visit, Goto, Leave, Emit, Trap, Meaning}
use Rattle.pliron_laws.specs.Tree.{Tree, Operation, Block, op_at, shape_of}
use Rattle.pliron_laws.specs.Machine.{Environment, Waiting, State, Sight, Ended, Trapped, Reached, Next, Continues, Over, bind, input_of, leave, after_giving, begin, enter, entry_in, block_in, go_to, emit, perform, move, turn, step_at, step, run_from, onward, sight_after, start}
use Rattle.pliron_laws.specs.Agree.{Shows}
use Rattle.pliron_theory.proofs.Simulation.{IfGoes, Kept}
use Rattle.pliron_pass_linked.specs.Calls.{Call, CallingConvention}
use Rattle.pliron_rewrite_symbols.specs.ErasedFunctions.{MayCall}

-- `Runs` is what a run meets, as states with `On` have it
module _ (m : Meaning) (c : CallingConvention) (t : Tree) (Runs : ℕ → Type 0) (On : State → Type 0) (kept : Kept (step m t) On) (runs : (s : State) → On s → (k : ℕ) (rest : List ℕ) → s.rest ≡ k ∷ rest → Runs k) where
  -- an operation that a run meets can show the call
  abbrev pub Comes : Datum → Type 0
  Comes e = (call : Call) → c.call_of e ≡ Some call → (k : ℕ) × Runs k × MayCall m c t k call.symbol

  abbrev AllCome : List Datum → Type 0
  AllCome [] = Unit {0}
  AllCome (e ∷ es) = Comes e × AllCome es

  abbrev SightComes : Sight → Type 0
  SightComes (Ended ds es) = AllCome es
  SightComes (Trapped es) = AllCome es
  SightComes (Reached es) = AllCome es

  abbrev NextComes : Next → Type 0
  NextComes (Continues s) = AllCome s.effects
  NextComes (Over x) = SightComes x

  leave_comes : (s : State) → AllCome s.effects → (ws : List Waiting) (ds : List Datum) → NextComes (leave s ws ds)
  leave_comes s h [] ds = h
  leave_comes s h (w ∷ ws) ds = h

  giving_comes : (s : State) → AllCome s.effects → (rest : List ℕ) (ws : List Waiting) (ds : List Datum) (o : Option Environment) → NextComes (after_giving s rest ws ds o)
  giving_comes s h rest ws ds None = h
  giving_comes s h rest [] ds (Some env) = h
  giving_comes s h rest (w ∷ ws) ds (Some env) = h

  begin_comes : (s : State) → AllCome s.effects → (rest : List ℕ) (ws : List Waiting) (o : Option Environment) → NextComes (begin s rest ws o)
  begin_comes s h rest ws None = h
  begin_comes s h rest ws (Some env) = h

  enter_comes : (s : State) → AllCome s.effects → (b : Option Block) (ds : List Datum) (ws : List Waiting) → NextComes (enter s b ds ws)
  enter_comes s h None ds ws = h
  enter_comes s h (Some b) ds ws = begin_comes s h b.operations ws (bind s.environment b.arguments ds)

  go_comes : (s : State) → AllCome s.effects → (b : Option ℕ) (ds : List Datum) (ws : List Waiting) → NextComes (go_to t s b ds ws)
  go_comes s h b ds [] = h
  go_comes s h b ds (w ∷ ws) = enter_comes s h (block_in t b) ds (w ∷ ws)

  emit_comes : (s : State) → AllCome s.effects → (e memo : Datum) → Comes e → (world : List Datum) → NextComes (emit s e memo world)
  emit_comes s h e memo x [] = (x, h)
  emit_comes s h e memo x (d ∷ world) = (x, h)

  module _ (s : State) (h : AllCome s.effects) (k : ℕ) (met : Runs k) (rest : List ℕ) where
    perform_comes : (o : Operation) → op_at t k ≡ Some o → (ds : List Datum) (a : Move) → m.act (shape_of m t o) s.memo ds ≡ a → NextComes (perform t s o k rest a)
    perform_comes o at ds (Give es) e = giving_comes s h rest s.waiting es (bind s.environment o.results es)
    perform_comes o at ds (Visit i es memo) e = enter_comes s h (entry_in t (slice_get o.regions i)) es (record { rest = k ∷ rest; memo = memo } ∷ s.waiting)
    perform_comes o at ds (Goto i es) e = go_comes s h (slice_get o.successors i) es s.waiting
    perform_comes o at ds (Leave es) e = leave_comes s h s.waiting es
    perform_comes o at ds (Emit effect memo) e = emit_comes s h effect memo (λ call is. (k, met, record { operation = o; liveness = at; memo = s.memo; input = ds; effect = effect; next = memo; shows = e; call = call; is_call = is; calls = refl })) s.world
    perform_comes o at ds Trap e = h

    move_comes : (o : Operation) → op_at t k ≡ Some o → (ds : Option (List Datum)) → NextComes (move m t s o k rest ds)
    move_comes o at None = h
    move_comes o at (Some ds) = perform_comes o at ds (m.act (shape_of m t o) s.memo ds) refl

    turn_comes : (o : Option Operation) → op_at t k ≡ o → NextComes (turn m t s k rest o)
    turn_comes None at = h
    turn_comes (Some o) at = move_comes o at (input_of s.environment o.operands s.answer)

  rest_comes : (s : State) → On s → AllCome s.effects → (rest : List ℕ) → s.rest ≡ rest → NextComes (step_at m t s rest)
  rest_comes s on h [] e = leave_comes s h s.waiting []
  rest_comes s on h (k ∷ rest) e = turn_comes s h k (runs s on k rest e) rest (op_at t k) refl

  step_comes : (s : State) → On s → AllCome s.effects → NextComes (step m t s)
  unfolding step
  step_comes s on h = rest_comes s on h s.rest refl

  run_comes : (n : ℕ) (s : State) → On s → AllCome s.effects → NextComes (run_from (step m t) n s)
  run_comes zero s on h = h
  run_comes (suc n) s on h = go (step m t s) (kept.keeps s on) (step_comes s on h) (λ a. run_comes n a)
    where
      go : (o : Next) → IfGoes o On → NextComes o → ((a : State) → On a → AllCome a.effects → NextComes (run_from (step m t) n a)) → NextComes (onward o (run_from (step m t) n))
      go (Continues a) on h again = again a on h
      go (Over x) on h again = h

  seen_comes : (o : Next) → NextComes o → SightComes (sight_after o)
  seen_comes (Continues s) h = h
  seen_comes (Over x) h = h

  -- the effect that it reaches, if it is a call
  pub shown_comes : (s : State) → On s → s.effects ≡ [] → (e : Datum) (es : List Datum) → Shows (step m t) s (Reached (e ∷ es)) → Comes e
  shown_comes s on none e es shows = x.0
    where
      x : Comes e × AllCome es
      x = subst SightComes shows.1 (seen_comes (run_from (step m t) shows.0 s) (run_comes shows.0 s on (subst AllCome (sym none) tt)))
