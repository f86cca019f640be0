-- A return leaves the callee's frame, and the caller goes on behind the call, where the copy jumps there.
use Rattle.std.proofs.Common.{◌≡◌, inl, inr, ℕ, List, [], ◌∷◌, map, length, Option, Some, None, refl, sym, ap, ◌∙◌, subst, arith}
use Rattle.std.proofs.lemmas.List.{length-map}
use Rattle.pliron_core.specs.declared.context.Def.{Def}
use Rattle.pliron_core.specs.declared.context.Def.TheVariants.{Result}
use Rattle.pliron_core.specs.Lists.{IsDistinct}
use Rattle.pliron_core.specs.Tree.{Tree, In, IsBlock, operands_of, results_of, arguments_of, body_of, block_parent_of}
use Rattle.pliron_core.specs.Invariant.{IsTree}
use Rattle.pliron_core.proofs.HoldingLemmas.{some_of}
use Rattle.pliron_core.proofs.FlatLemmas.{distinct-indices}
use Rattle.pliron_laws.specs.Datum.{Datum, Empty, Meaning}
use Rattle.pliron_laws.specs.Tree.{Operation, op_at, shape_of}
use Rattle.pliron_laws.specs.Machine.{Environment, Waiting, State, Ended, Continues, Over, bind, data_of, input_of, at_rest, leave, after_giving, enter, perform, move, turn, step_at, step}
use Rattle.pliron_laws.proofs.Records.{block_of, make_block}
use Rattle.pliron_theory.proofs.Alike.{data_long}
use Rattle.pliron_theory.proofs.Lockstep.{Tied, EnvsTied}
use Rattle.pliron_pass_linked.specs.Calls.{CallingConvention}
use Rattle.pliron_rewrite_inlining.specs.Inlined.{InlinedCall, IsReturnReplaced, IsCallInlined}
use Rattle.pliron_rewrite_inlining.proofs.Carried.{carries_left, carries_reads}
use Rattle.pliron_rewrite_inlining.proofs.CopiedShapes.{live_op, live_op_at}
use Rattle.pliron_rewrite_inlining.proofs.CopiedSteps.{CallerData, InCopy}
use Rattle.pliron_rewrite_inlining.proofs.CallerSteps.{caller_ties, bound_same}
use Rattle.pliron_rewrite_inlining.proofs.Effects.{with_effects, with_world}
use Rattle.pliron_rewrite_inlining.proofs.Running.{binds, bound_read}
use Rattle.pliron_rewrite_inlining.proofs.Entering.{entered, jumped}

module _ (m : Meaning) (c : CallingConvention) (t u : Tree) (x : InlinedCall) (symbol : Datum) (w : IsTree t) (w' : IsTree u) (h : IsCallInlined m c t u x symbol) where
  -- what is bound in the caller's frame alone, as the results of the call
  left_data : (vs : List ℕ) → ((v : ℕ) → In v vs → In v (results_of t x.call)) → (ds : List Datum) (env env1 env' : Environment) → bind env vs ds ≡ Some env1 → CallerData t x env env' → CallerData t x env1 env'
  left_data [] all [] env env1 env' e d = subst (λ z. CallerData t x z env') (let f : env ≡ env1 = cc in f) d
  left_data [] all (y ∷ ds) env env1 env' e d = grind arith
  left_data (v ∷ vs) all [] env env1 env' e d = grind arith
  left_data (v ∷ vs) all (y ∷ ds) env env1 env' e d = left_data vs (λ z i. all z (inr i)) ds _ env1 env' e (carries_left _ (λ z. z) env env' d v y (λ z p s. p.1 (subst (λ a. In a (results_of t x.call)) (sym s) (all v (inl refl)))))

  -- the steps before: the return, the end of the callee's frame, the call's answer, its results, and the jump behind it
  pub record ReturnsTo (g s s' : State) : Type 0 where
    pub values : List Datum
    pub left : State
    pub leaves : step m t s ≡ Continues left
    pub quiet_left : left.world ≡ s.world
    pub ends : step m t left ≡ Over (Ended values left.effects)
    pub answered : State
    pub takes_answer : step m t (with_world g (c.answer_of values)) ≡ Continues answered
    pub given : State
    pub gives : step m t answered ≡ Continues given
    pub behind : State
    pub jumps : step m t given ≡ Continues behind
    pub copy : State
    pub copy_jumps : step m u s' ≡ Continues copy
    pub tied : Tied (caller_ties t x) behind (with_effects copy behind.effects)
    pub quiet : behind.world ≡ []

  module _ (g s s' : State) (r : InCopy m c t u x symbol h g s s') (k : ℕ) (rest_is : s'.rest ≡ k ∷ []) (y : IsReturnReplaced m t u x k) (memo_is : s'.memo ≡ Empty) (answer_is : s'.answer ≡ None)
      (ds : List Datum) (has : data_of s.environment (operands_of t (x.originals.operation k)) ≡ Some ds)
      (g_rest : g.rest ≡ x.call ∷ x.jump ∷ []) (g_memo : g.memo ≡ Empty) (g_answer : g.answer ≡ None)
      (gs : List Datum) (g_has : data_of g.environment (operands_of t x.call) ≡ Some gs) (g_inner : Waiting) (g_others : List Waiting) (g_waits : g.waiting ≡ g_inner ∷ g_others) (quiet : s'.world ≡ []) where
    counted : length ds ≡ length (results_of t x.call)
    counted = data_long s.environment (operands_of t (x.originals.operation k)) ds has ∙ ap length y.operands ∙ length-map (operands_of u k) x.originals.value ∙ y.count

    -- ---- the callee

    abbrev return_op : Operation
    return_op = live_op t (x.originals.operation k) y.returns.live

    return_at : op_at t (x.originals.operation k) ≡ Some return_op
    return_at = live_op_at t (x.originals.operation k) y.returns.live

    abbrev left_state : State
    left_state = record s { rest = r.root.rest; memo = r.root.memo; answer = Some ds; waiting = [] }

    leaving : step m t s ≡ Continues left_state
    unfolding step
    leaving = ap (step_at m t s) (r.place ∙ ap (map x.originals.operation) rest_is) ∙ ap (turn m t s (x.originals.operation k) []) return_at
        ∙ ap (move m t s return_op (x.originals.operation k) []) (ap (input_of s.environment return_op.operands) (r.answer ∙ answer_is) ∙ has)
        ∙ ap (perform t s return_op (x.originals.operation k) []) (ap (λ z. m.act (shape_of m t return_op) z ds) (r.memo ∙ memo_is) ∙ y.returns.leaves return_op return_at ds (data_long s.environment (operands_of t (x.originals.operation k)) ds has))
        ∙ ap (λ z. leave s z ds) r.waits

    ending : step m t left_state ≡ Over (Ended ds left_state.effects)
    unfolding step
    ending = ap (step_at m t left_state) r.root_rest ∙ ap (turn m t left_state x.callee []) (live_op_at t x.callee h.callee.live)
        ∙ ap (perform t left_state (live_op t x.callee h.callee.live) x.callee []) (ap (λ z. m.act (shape_of m t (live_op t x.callee h.callee.live)) z ds) r.root_memo ∙ h.callee.leaves (live_op t x.callee h.callee.live) (live_op_at t x.callee h.callee.live) r.inputs ds)

    -- ---- the caller

    abbrev call_op : Operation
    call_op = live_op t x.call h.calls.live

    call_at : op_at t x.call ≡ Some call_op
    call_at = live_op_at t x.call h.calls.live

    abbrev answered_state : State
    answered_state = record g { memo = h.calls.memo gs; answer = Some (c.answer_of ds ∷ []); world = []; effects = h.calls.effect gs ∷ g.effects }

    answering : step m t (with_world g (c.answer_of ds)) ≡ Continues answered_state
    unfolding step
    answering = ap (step_at m t (with_world g (c.answer_of ds))) g_rest ∙ ap (turn m t (with_world g (c.answer_of ds)) x.call (x.jump ∷ [])) call_at
        ∙ ap (move m t (with_world g (c.answer_of ds)) call_op x.call (x.jump ∷ [])) (ap (input_of g.environment call_op.operands) g_answer ∙ g_has)
        ∙ ap (perform t (with_world g (c.answer_of ds)) call_op x.call (x.jump ∷ [])) (ap (λ z. m.act (shape_of m t call_op) z gs) g_memo ∙ h.calls.asks call_op call_at gs (data_long g.environment (operands_of t x.call) gs g_has))

    given_env : (env : Environment) × (bind g.environment (results_of t x.call) ds ≡ Some env)
    given_env = binds (results_of t x.call) ds g.environment counted

    abbrev given_state : State
    given_state = at_rest answered_state given_env.0 (x.jump ∷ []) g.waiting

    giving : step m t answered_state ≡ Continues given_state
    unfolding step
    giving = ap (step_at m t answered_state) g_rest ∙ ap (turn m t answered_state x.call (x.jump ∷ [])) call_at
        ∙ ap (perform t answered_state call_op x.call (x.jump ∷ [])) (h.calls.gives call_op call_at gs ds counted)
        ∙ ap (after_giving answered_state (x.jump ∷ []) g.waiting ds) given_env.1 ∙ gives_on g.waiting g_waits
      where
        gives_on : (ws : List Waiting) → ws ≡ g_inner ∷ g_others → after_giving answered_state (x.jump ∷ []) ws ds (Some given_env.0) ≡ Continues (at_rest answered_state given_env.0 (x.jump ∷ []) ws)
        gives_on ws e = subst (λ z. after_giving answered_state (x.jump ∷ []) z ds (Some given_env.0) ≡ Continues (at_rest answered_state given_env.0 (x.jump ∷ []) z)) (sym e) refl

    once : IsDistinct (results_of t x.call)
    once = distinct-indices (results_of t x.call) (λ i j v a b. same i j (sym (w.joined.results x.call i v a) ∙ w.joined.results x.call j v b))
      where
        same : (i j : ℕ) → ◌≡◌ {A = Option Def} (Some (Result x.call i)) (Some (Result x.call j)) → i ≡ j
        same i j e = cc

    jump_has : data_of given_env.0 (operands_of t x.jump) ≡ Some ds
    jump_has = ap (data_of given_env.0) h.passes ∙ bound_read (results_of t x.call) once ds g.environment given_env.0 given_env.1

    after_live : IsBlock t x.after
    after_live = w.joined.successors x.jump x.after (subst (In x.after) (sym h.jumps.leads) (inl refl))

    after_region : (r : ℕ) × (block_parent_of t x.after ≡ Some r)
    after_region = some_of (block_parent_of t x.after) after_live

    behind_env : (env : Environment) × (bind given_env.0 (arguments_of t x.after) ds ≡ Some env)
    behind_env = binds (arguments_of t x.after) ds given_env.0 (counted ∙ sym h.fits)

    abbrev behind_state : State
    behind_state = at_rest given_state behind_env.0 (body_of t x.after) g.waiting

    jumping : step m t given_state ≡ Continues behind_state
    jumping = jumped m t given_state x.jump x.after [] h.jumps refl refl refl ds jump_has g_inner g_others g_waits
        ∙ ap (λ z. enter given_state z ds g.waiting) (make_block t x.after after_region.0 after_region.1) ∙ entered given_state (block_of t x.after after_region.0) ds g.waiting behind_env.0 behind_env.1

    -- ---- the copy

    copy_env : (env : Environment) × (bind s'.environment (arguments_of u x.after) ds ≡ Some env)
    copy_env = binds (arguments_of u x.after) ds s'.environment (counted ∙ sym h.fits ∙ ap length (sym (h.arguments x.after after_live)))

    abbrev copy_state : State
    copy_state = at_rest s' copy_env.0 (body_of u x.after) s'.waiting

    copy_has : data_of s'.environment (operands_of u k) ≡ Some ds
    copy_has = carries_reads _ _ s.environment s'.environment r.copy (operands_of u k) y.fresh ds (ap (data_of s.environment) (sym y.operands) ∙ has)

    copying : step m u s' ≡ Continues copy_state
    copying = jumped m u s' k x.after [] y.jumps rest_is memo_is answer_is ds copy_has r.inner r.others r.held
        ∙ ap (λ z. enter s' z ds s'.waiting) (make_block u x.after after_region.0 (h.block_parents x.after after_live ∙ after_region.1)) ∙ entered s' (block_of u x.after after_region.0) ds s'.waiting copy_env.0 copy_env.1

    tied_data : CallerData t x behind_env.0 copy_env.0
    tied_data = subst (λ z. EnvsTied (CallerData t x) z (Some copy_env.0)) behind_env.1
        (subst (λ z. EnvsTied (CallerData t x) (bind given_env.0 (arguments_of t x.after) ds) z) (ap (λ l. bind s'.environment l ds) (sym (h.arguments x.after after_live)) ∙ copy_env.1)
        (bound_same m c t u x symbol w w' h (arguments_of t x.after) ds given_env.0 s'.environment
        (left_data (results_of t x.call) (λ v i. i) ds g.environment given_env.0 s'.environment given_env.1 r.caller)))

    pub returns_to : ReturnsTo g s s'
    returns_to = record {
      values = ds;
      left = left_state;
      leaves = leaving;
      quiet_left = refl;
      ends = ending;
      answered = answered_state;
      takes_answer = answering;
      given = given_state;
      gives = giving;
      behind = behind_state;
      jumps = jumping;
      copy = copy_state;
      copy_jumps = copying;
      tied = record {
        environment = tied_data;
        memo = refl;
        answer = refl;
        place = (h.bodies x.after after_live, λ z. (refl, refl));
        waiting = r.around;
        world = sym quiet;
        effects = refl;
      };
      quiet = refl;
    }
