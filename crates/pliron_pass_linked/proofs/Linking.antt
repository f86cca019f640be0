-- Linked states of two programs whose functions agree on the inputs that they are called on, side by side.
use Rattle.std.proofs.Common.{◌≡◌, ℕ, zero, suc, List, [], ◌∷◌, ◌++◌, Option, Some, None, refl, sym, ap, ◌∙◌, subst, arith}
use Rattle.pliron_laws.specs.Datum.{Datum, Meaning}
use Rattle.pliron_laws.specs.Tree.{Tree}
use Rattle.pliron_laws.specs.Machine.{State, Sight, Ended, Trapped, Reached, Next, Continues, Over, step, run_from, sight_after, start}
use Rattle.pliron_laws.specs.Agree.{Shows}
use Rattle.pliron_pass_linked.specs.Calls.{Call, CallingConvention}
use Rattle.pliron_pass_linked.specs.LinkedRuns.{Program, Function, Linker, Reply, Answer, Callback, Caller, Below, World, Frame, LinkedState, LinkedNext, Goes, Stops, frame_of, with_answer, with_frame, after_callback, after_reply, show_world, after_return, after_call, after_effect, after_sight}
use Rattle.pliron_pass_linked.specs.LinkedAgree.{CallsBackOnly, AgreeOnInputs}
use Rattle.pliron_pass_linked.proofs.Extending.{GoesExtended, extended, run_extends}
use Rattle.pliron_pass_linked.proofs.Counting.{size, Counts, SightCounts, NextCounts, run_counts}
use Rattle.pliron_pass_linked.proofs.Meeting.{one_more, met, IsMet}

-- what counts excludes that the second still goes on
too_few : (n : ℕ) (z : State) (x : Sight) → Counts n z → SightCounts n x → Reached z.effects ≡ x → ⊥
too_few n z x c h e = let w : size z.effects ≡ suc n = subst (λ y. SightCounts n y) (sym e) h in absurd (omega arith)

longer : (m : Meaning) (t : Tree) (root : ℕ) (inputs answers more : List Datum) (n : ℕ) (s : State) → run_from (step m t) n (start root inputs answers) ≡ Continues s → run_from (step m t) n (start root inputs (answers ++ more)) ≡ Continues (extended s more)
longer m t root inputs answers more n s e = subst (λ o. GoesExtended more o (run_from (step m t) n (start root inputs (answers ++ more)))) e (run_extends more m t n (start root inputs answers))

module _ (m : Meaning) (c : CallingConvention) (link : Linker) (exported : ℕ → Datum → Type 0) (precondition : Function → List Datum → Type 0) (p q : Program) (h : AgreeOnInputs m c link exported precondition p q) where
  -- two frames of one function, which was called on the same inputs and has had the same answers
  pub record AreAlike (f f' : Frame) : Type 0 where
    pub inputs : List Datum
    pub answers : List Datum
    pub meets : precondition f.function inputs
    pub left_steps : ℕ
    pub left : run_from (step m (p f.function.in_module)) left_steps (start f.function.root inputs answers) ≡ Continues f.state
    pub right_steps : ℕ
    pub right : run_from (step m (q f.function.in_module)) right_steps (start f.function.root inputs answers) ≡ Continues f'.state
    pub function : f.function ≡ f'.function
    pub caller : f.caller ≡ f'.caller

  abbrev pub AllAlike : List Frame → List Frame → Type 0
  AllAlike [] [] = Unit {0}
  AllAlike [] (f' ∷ fs') = ⊥
  AllAlike (f ∷ fs) [] = ⊥
  AllAlike (f ∷ fs) (f' ∷ fs') = AreAlike f f' × AllAlike fs fs'

  pub record Related (s s' : LinkedState) : Type 0 where
    pub top : AreAlike s.top s'.top
    pub below : AllAlike s.below s'.below
    pub world : s.world ≡ s'.world
    pub calls_back : CallsBackOnly exported s.world
    pub effects : s.effects ≡ s'.effects

  abbrev pub NextRelated : LinkedNext → LinkedNext → Type 0
  NextRelated (Goes a) (Goes b) = Related a b
  NextRelated (Stops x) (Stops y) = x ≡ y
  NextRelated (Goes a) (Stops y) = ⊥
  NextRelated (Stops x) (Goes b) = ⊥

  abbrev left_step : Frame → State → Next
  left_step f a = step m (p f.function.in_module) a

  abbrev right_step : Frame → State → Next
  right_step f a = step m (q f.function.in_module) a

  -- ---- one frame

  over_at : (f f' : Frame) (x : Sight) (r : AreAlike f f') → left_step f f.state ≡ Over x → run_from (left_step f) (suc r.left_steps) (start f.function.root r.inputs r.answers) ≡ Over x
  over_at f f' x r e = one_more (left_step f) r.left_steps (start f.function.root r.inputs r.answers) f.state (Over x) r.left e

  -- where the first is over, so is the second after some steps, alike
  pub follows : (f f' : Frame) (x : Sight) (r : AreAlike f f') → left_step f f.state ≡ Over x → IsMet (right_step f) (start f.function.root r.inputs r.answers) f'.state x
  follows f f' x r e = shown ((h.alike f.function r.inputs r.answers r.meets x).0 (suc r.left_steps, ap sight_after (over_at f f' x r e)))
    where
      counted : Counts (size r.answers) (start f.function.root r.inputs r.answers)
      counted = omega arith

      seen : SightCounts (size r.answers) x
      seen = subst (λ o. NextCounts (size r.answers) o) (over_at f f' x r e) (run_counts (size r.answers) m (p f.function.in_module) (suc r.left_steps) (start f.function.root r.inputs r.answers) counted)

      go : (k : ℕ) (o : Next) → run_from (right_step f) k (start f.function.root r.inputs r.answers) ≡ o → sight_after o ≡ x → IsMet (right_step f) (start f.function.root r.inputs r.answers) f'.state x
      go k (Over y) g w = met (right_step f) r.right_steps k (start f.function.root r.inputs r.answers) f'.state x r.right (g ∙ ap Over w)
      go k (Continues z) g w = absurd (too_few (size r.answers) z x (subst (λ o. NextCounts (size r.answers) o) g (run_counts (size r.answers) m (q f.function.in_module) k (start f.function.root r.inputs r.answers) counted)) seen w)

      shown : Shows (right_step f) (start f.function.root r.inputs r.answers) x → IsMet (right_step f) (start f.function.root r.inputs r.answers) f'.state x
      shown w = go w.0 (run_from (right_step f) w.0 (start f.function.root r.inputs r.answers)) refl w.1

  answered_alike : (f f' : Frame) (d : Datum) → AreAlike f f' → AreAlike (with_answer f d) (with_answer f' d)
  answered_alike f f' d r = record {
    inputs = r.inputs;
    answers = r.answers ++ d ∷ [];
    meets = r.meets;
    left_steps = r.left_steps;
    left = longer m (p f.function.in_module) f.function.root r.inputs r.answers (d ∷ []) r.left_steps f.state r.left;
    right_steps = r.right_steps;
    right = longer m (q f.function.in_module) f.function.root r.inputs r.answers (d ∷ []) r.right_steps f'.state r.right;
    function = r.function;
    caller = r.caller;
  }

  pub begun_alike : (g : Function) (ds : List Datum) (who : Caller) → precondition g ds → AreAlike (frame_of g ds who) (frame_of g ds who)
  begun_alike g ds who w = record {
    inputs = ds;
    answers = [];
    meets = w;
    left_steps = zero;
    left = refl;
    right_steps = zero;
    right = refl;
    function = refl;
    caller = refl;
  }

  -- ---- the stack

  pushed_related : (s s' : LinkedState) (g : Function) (ds : List Datum) (who : Caller) → Related s s' → precondition g ds → Related (with_frame s g ds who) (with_frame s' g ds who)
  pushed_related s s' g ds who r w = record {
    top = begun_alike g ds who w;
    below = (r.top, r.below);
    world = r.world;
    calls_back = r.calls_back;
    effects = r.effects;
  }

  back_related : (s s' : LinkedState) (n : ℕ) (symbol : Datum) (ds : List Datum) (o : Option Function) → Related s s' → exported n symbol → link n symbol ≡ o → NextRelated (after_callback s ds o) (after_callback s' ds o)
  back_related s s' n symbol ds None r w e = ap Trapped r.effects
  back_related s s' n symbol ds (Some g) r w e = pushed_related s s' g ds World r (h.exports n symbol g ds w e)

  replied_related : (s s' : LinkedState) (world : List Reply) → Related s s' → CallsBackOnly exported world → NextRelated (after_reply link s world) (after_reply link s' world)
  replied_related s s' [] r w = ap Reached r.effects
  replied_related s s' (Answer d ∷ world) r w = record {
    top = answered_alike s.top s'.top d r.top;
    below = r.below;
    world = refl;
    calls_back = w;
    effects = r.effects;
  }
  replied_related s s' (Callback n symbol ds ∷ world) r w = back_related (record s { world = world }) (record s' { world = world }) n symbol ds (link n symbol) (record {
    top = r.top;
    below = r.below;
    world = refl;
    calls_back = w.1;
    effects = r.effects;
  }) w.0 refl

  shown_related : (s s' : LinkedState) (e : Datum) → Related s s' → NextRelated (show_world link s e) (show_world link s' e)
  shown_related s s' e r = subst (λ world. NextRelated (show_world link s e) (after_reply link (record s' { effects = e ∷ s'.effects }) world)) r.world (replied_related (record s { effects = e ∷ s.effects }) (record s' { effects = e ∷ s'.effects }) s.world (record {
    top = r.top;
    below = r.below;
    world = r.world;
    calls_back = r.calls_back;
    effects = ap (λ es. e ∷ es) r.effects;
  }) r.calls_back)

  returned_related : (s s' : LinkedState) (fs fs' : List Frame) (who : Caller) (ds : List Datum) → Related s s' → AllAlike fs fs' → NextRelated (after_return c link s fs who ds) (after_return c link s' fs' who ds)
  returned_related s s' [] [] who ds r w = ap (Ended ds) r.effects
  returned_related s s' [] (f' ∷ fs') who ds r w = absurd w
  returned_related s s' (f ∷ fs) [] who ds r w = absurd w
  returned_related s s' (f ∷ fs) (f' ∷ fs') Below ds r w = record {
    top = answered_alike f f' (c.answer_of ds) w.0;
    below = w.1;
    world = r.world;
    calls_back = r.calls_back;
    effects = r.effects;
  }
  returned_related s s' (f ∷ fs) (f' ∷ fs') World ds r w = shown_related (record s { top = f; below = fs }) (record s' { top = f'; below = fs' }) (c.return_of ds) (record {
    top = w.0;
    below = w.1;
    world = r.world;
    calls_back = r.calls_back;
    effects = r.effects;
  })

  called_related : (s s' : LinkedState) (e : Datum) (ds : List Datum) (o : Option Function) → Related s s' → ((g : Function) → o ≡ Some g → precondition g ds) → NextRelated (after_call link s e ds o) (after_call link s' e ds o)
  called_related s s' e ds None r w = shown_related s s' e r
  called_related s s' e ds (Some g) r w = pushed_related s s' g ds Below r (w g refl)

  emitted_related : (s s' : LinkedState) (e : Datum) (es : List Datum) (o : Option Call) → Related s s' → left_step s.top s.top.state ≡ Over (Reached (e ∷ es)) → c.call_of e ≡ o → NextRelated (after_effect link s e o) (after_effect link s' e o)
  emitted_related s s' e es None r over k = shown_related s s' e r
  emitted_related s s' e es (Some call) r over k = subst (λ g. NextRelated (after_effect link s e (Some call)) (after_call link s' e call.arguments (link g.in_module call.symbol))) r.top.function (called_related s s' e call.arguments (link s.top.function.in_module call.symbol) r (λ g j. h.calls s.top.function g r.top.inputs r.top.answers es e call r.top.meets (suc r.top.left_steps, ap sight_after (over_at s.top s'.top (Reached (e ∷ es)) r.top over)) k j))

  pub sight_related : (s s' : LinkedState) (x : Sight) → Related s s' → left_step s.top s.top.state ≡ Over x → NextRelated (after_sight c link s x) (after_sight c link s' x)
  sight_related s s' (Ended ds es) r over = subst (λ who. NextRelated (after_return c link s s.below s.top.caller ds) (after_return c link s' s'.below who ds)) r.top.caller (returned_related s s' s.below s'.below s.top.caller ds r r.below)
  sight_related s s' (Trapped es) r over = ap Trapped r.effects
  sight_related s s' (Reached []) r over = ap Reached r.effects
  sight_related s s' (Reached (e ∷ es)) r over = emitted_related s s' e es (c.call_of e) r over refl
