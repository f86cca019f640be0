-- A call begins a frame of the callee, where the new jump comes to the copy of the callee's entry.
use Rattle.std.proofs.Common.{◌≡◌, inl, inr, ℕ, List, [], ◌∷◌, map, length, Option, Some, None, slice_get, refl, sym, ap, ◌∙◌, subst}
use Rattle.std.proofs.lemmas.List.{length-map}
use Rattle.pliron_core.specs.Tree.{Tree, operands_of, arguments_of, body_of, block_parent_of, region_parent_of, op_of_slot}
use Rattle.pliron_core.specs.Invariant.{IsTree}
use Rattle.pliron_core.proofs.HoldingLemmas.{not_none, some_of}
use Rattle.pliron_laws.specs.Datum.{Datum, Empty, Meaning, Goto, Emit}
use Rattle.pliron_laws.specs.Tree.{Operation, Block, op_at, block_at, and_block, entry_block, shape_of}
use Rattle.pliron_laws.specs.Machine.{Environment, Waiting, State, Reached, Continues, Over, bind, data_of, input_of, at_rest, begin, enter, entry_in, block_in, go_to, emit, perform, move, turn, step_at, step, start}
use Rattle.pliron_laws.proofs.Records.{block_of, region_entry}
use Rattle.pliron_theory.proofs.Alike.{data_long}
use Rattle.pliron_theory.proofs.Lockstep.{Tied, EnvsTied}
use Rattle.pliron_pass_linked.specs.Calls.{CallingConvention}
use Rattle.pliron_rewrite_inlining.specs.Inlined.{InlinedCall, IsJumpTo, IsBlockCopy, HasNewJump, IsCallInlined}
use Rattle.pliron_rewrite_inlining.proofs.Effects.{with_effects}
use Rattle.pliron_rewrite_inlining.proofs.CopiedShapes.{live_op, live_op_at, copy_at, original_block_at}
use Rattle.pliron_rewrite_inlining.proofs.CopiedSteps.{InCopy, Both, bound_alike, fresh_standing}
use Rattle.pliron_rewrite_inlining.proofs.CallerSteps.{caller_ties, AtCall, reads_same}
use Rattle.pliron_rewrite_inlining.proofs.Running.{binds}

-- where a block begins that has these arguments
pub entered : (s : State) (b : Block) (ds : List Datum) (ws : List Waiting) (env : Environment) → bind s.environment b.arguments ds ≡ Some env → enter s (Some b) ds ws ≡ Continues (at_rest s env b.operations ws)
entered s b ds ws env e = ap (begin s b.operations ws) e

-- a jump that reads these data
pub jumped : (m : Meaning) (t : Tree) (s : State) (k block : ℕ) (rest : List ℕ) → IsJumpTo m t k block → s.rest ≡ k ∷ rest → s.memo ≡ Empty → s.answer ≡ None → (ds : List Datum) → data_of s.environment (operands_of t k) ≡ Some ds → (w : Waiting) (ws : List Waiting) → s.waiting ≡ w ∷ ws → step m t s ≡ enter s (block_at t block) ds s.waiting
unfolding step
jumped m t s k block rest j e me ae ds de w ws we =
    ap (step_at m t s) e ∙ ap (turn m t s k rest) (live_op_at t k j.live) ∙ ap (move m t s (live_op t k j.live) k rest) (ap (input_of s.environment (operands_of t k)) ae ∙ de)
    ∙ ap (perform t s (live_op t k j.live) k rest) (ap (λ z. m.act (shape_of m t (live_op t k j.live)) z ds) me ∙ j.goes (live_op t k j.live) (live_op_at t k j.live) ds (data_long s.environment (operands_of t k) ds de))
    ∙ ap (λ l. go_to t s (slice_get l 0) ds s.waiting) j.leads ∙ going t s (Some block) ds s.waiting w ws we
  where
    going : (y : Tree) (s : State) (b : Option ℕ) (ds : List Datum) (ws : List Waiting) (w : Waiting) (vs : List Waiting) → ws ≡ w ∷ vs → go_to y s b ds ws ≡ enter s (block_in y b) ds ws
    going y s b ds ws w vs e = subst (λ z. go_to y s b ds z ≡ enter s (block_in y b) ds z) (sym e) refl

module _ (m : Meaning) (c : CallingConvention) (t u : Tree) (x : InlinedCall) (symbol : Datum) (w : IsTree t) (w' : IsTree u) (h : IsCallInlined m c t u x symbol) where
  -- at the call, and at the new jump
  pub record IsAtCall (g g' : State) : Type 0 where
    pub rest : g.rest ≡ x.call ∷ x.jump ∷ []
    pub new_rest : g'.rest ≡ x.new ∷ []
    pub memo : g.memo ≡ Empty
    pub answer : g.answer ≡ None
    pub new_memo : g'.memo ≡ Empty
    pub new_answer : g'.answer ≡ None

  pub at_call : (g g' : State) → Tied (caller_ties t x) g (with_effects g' g.effects) → AtCall x g.rest → IsAtCall g g'
  at_call g g' r a = go g.rest g'.rest refl refl r.place.0 a
    where
      go : (rest rest' : List ℕ) → g.rest ≡ rest → g'.rest ≡ rest' → HasNewJump x g.rest g'.rest → AtCall x g.rest → IsAtCall g g'
      go rest rest' e e' j a = by_rest rest rest' e e' (subst (λ z. HasNewJump x z rest') e (subst (HasNewJump x g.rest) e' j)) (subst (AtCall x) e a)
        where
          by_rest : (rest rest' : List ℕ) → g.rest ≡ rest → g'.rest ≡ rest' → HasNewJump x rest rest' → AtCall x rest → IsAtCall g g'
          by_rest [] rest' e e' j b = absurd b
          by_rest (k ∷ ks) [] e e' j b = absurd j
          by_rest (k ∷ ks) (k' ∷ ks') e e' (inl j) b = absurd (j.0 b)
          by_rest (k ∷ ks) (k' ∷ ks') e e' (inr j) b = let y = r.place.1 a in record {
            rest = e ∙ ap (λ z. z ∷ ks) j.0 ∙ ap (λ l. x.call ∷ l) j.1;
            new_rest = e' ∙ ap (λ z. z ∷ ks') j.2 ∙ ap (λ l. x.new ∷ l) j.3;
            memo = y.0;
            answer = y.1;
            new_memo = sym r.memo ∙ y.0;
            new_answer = sym r.answer ∙ y.1;
          }

  -- the call shows its effect, the callee's frame enters its region, and the new jump enters the copy
  pub record Enters (g g' : State) (ds : List Datum) : Type 0 where
    pub asks : step m t g ≡ Over (Reached (h.calls.effect ds ∷ g.effects))
    pub inner : State
    pub visits : step m t (start x.callee ds []) ≡ Continues inner
    pub copy : State
    pub jumps : step m u g' ≡ Continues copy
    pub inside : InCopy m c t u x symbol h g inner copy
    pub quiet : inner.world ≡ []

  module _ (g g' : State) (r : Tied (caller_ties t x) g (with_effects g' g.effects)) (a : IsAtCall g g') (ds : List Datum) (has : data_of g.environment (operands_of t x.call) ≡ Some ds) (quiet : g.world ≡ []) where
    counted : length ds ≡ length (operands_of t x.call)
    counted = data_long g.environment (operands_of t x.call) ds has

    abbrev call_op : Operation
    call_op = live_op t x.call h.calls.live

    call_at : op_at t x.call ≡ Some call_op
    call_at = live_op_at t x.call h.calls.live

    pub call_asks : step m t g ≡ Over (Reached (h.calls.effect ds ∷ g.effects))
    unfolding step
    call_asks = ap (step_at m t g) a.rest ∙ ap (turn m t g x.call (x.jump ∷ [])) call_at ∙ ap (move m t g call_op x.call (x.jump ∷ [])) (ap (input_of g.environment call_op.operands) a.answer ∙ has)
        ∙ ap (perform t g call_op x.call (x.jump ∷ [])) (ap (λ z. m.act (shape_of m t call_op) z ds) a.memo ∙ h.calls.asks call_op call_at ds counted)
        ∙ ap (emit g (h.calls.effect ds) (h.calls.memo ds)) quiet

    block : IsBlockCopy m t u x x.entry
    block = h.copies x.entry h.entry_copied

    abbrev original : Block
    original = block_of t (x.originals.block x.entry) x.region

    abbrev root : Waiting
    root = record { rest = x.callee ∷ []; memo = h.callee.memo ds }

    callee_env : (env : Environment) × (bind (λ v. None) original.arguments ds ≡ Some env)
    callee_env = binds original.arguments ds (λ v. None) (counted ∙ sym h.takes)

    abbrev inner_state : State
    inner_state = at_rest (start x.callee ds []) callee_env.0 original.operations (root ∷ [])

    begins : step m t (start x.callee ds []) ≡ Continues inner_state
    unfolding step
    begins = ap (turn m t (start x.callee ds []) x.callee []) (live_op_at t x.callee h.callee.live)
        ∙ ap (perform t (start x.callee ds []) (live_op t x.callee h.callee.live) x.callee []) (h.callee.visits (live_op t x.callee h.callee.live) (live_op_at t x.callee h.callee.live) ds counted)
        ∙ ap (λ l. enter (start x.callee ds []) (entry_in t (slice_get l 0)) ds (root ∷ [])) h.callee.holds
        ∙ ap (λ z. enter (start x.callee ds []) z ds (root ∷ [])) entry
        ∙ entered (start x.callee ds []) original ds (root ∷ []) callee_env.0 callee_env.1
      where
        held : region_parent_of t x.region ≡ Some x.callee
        held = ap op_of_slot (w.joined.regions x.callee 0 x.region (ap (λ l. slice_get l 0) h.callee.holds))

        entry : entry_block t x.region ≡ Some original
        entry = region_entry t x.region x.callee held ∙ ap (and_block t) h.entry ∙ original_block_at m t u x h.copies x.entry block

    not_the_jump : x.call ≡ x.jump → ⊥
    not_the_jump e = other (sym (h.calls.asks call_op call_at ds counted) ∙ h.jumps.goes call_op (subst (λ z. op_at t z ≡ Some call_op) e call_at) ds counted)
      where
        other : {e next : Datum} → {i : ℕ} → {es : List Datum} → Emit e next ≡ Goto i es → ⊥
        other q = cc

    copy_data : data_of g'.environment (operands_of u x.new) ≡ Some ds
    copy_data = ap (data_of g'.environment) h.operands_passed ∙ reads_same m c t u x symbol w w' h g.environment g'.environment r.environment x.call not_the_jump ds has

    copy_env : (env : Environment) × (bind g'.environment (arguments_of u x.entry) ds ≡ Some env)
    copy_env = binds (arguments_of u x.entry) ds g'.environment (counted ∙ sym h.takes ∙ ap length block.arguments ∙ length-map (arguments_of u x.entry) x.originals.value)

    pub enters : (inner : Waiting) (others : List Waiting) → g'.waiting ≡ inner ∷ others → Enters g g' ds
    enters inner others held = record {
      asks = call_asks;
      inner = inner_state;
      visits = begins;
      copy = at_rest g' copy_env.0 (body_of u x.entry) g'.waiting;
      jumps = jumped m u g' x.new x.entry [] h.enters a.new_rest a.new_memo a.new_answer ds copy_data inner others held ∙ ap (λ z. enter g' z ds g'.waiting) (copy_at m t u x h.copies x.entry block) ∙ entered g' (block_of u x.entry (some_of (block_parent_of u x.entry) block.live).0) ds g'.waiting copy_env.0 copy_env.1;
      inside = record {
        caller = both.0;
        copy = both.1;
        place = block.body;
        stands = fresh_standing m c t u x symbol h (body_of u x.entry) block.operations;
        memo = refl;
        answer = refl;
        world = sym (sym r.world ∙ quiet);
        root = root;
        waits = refl;
        root_rest = refl;
        inputs = ds;
        root_memo = refl;
        around = r.waiting;
        inner = inner;
        others = others;
        held = held;
      };
      quiet = refl;
    }
      where
        both : Both m c t u x symbol h g callee_env.0 copy_env.0
        both = subst (λ z. EnvsTied (Both m c t u x symbol h g) z (Some copy_env.0)) (ap (λ l. bind (λ v. None) l ds) (sym block.arguments) ∙ callee_env.1) (subst (λ z. EnvsTied (Both m c t u x symbol h g) (bind (λ v. None) (map x.originals.value (arguments_of u x.entry)) ds) z) copy_env.1 (bound_alike m c t u x symbol h g (arguments_of u x.entry) block.fresh ds (λ v. None) g'.environment (r.environment, λ v d p e. absurd (not_none e))))
