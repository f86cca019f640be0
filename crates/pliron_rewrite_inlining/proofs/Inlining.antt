-- Linked runs show the same where a call was inlined.
use Rattle.std.proofs.Common.{◌≡◌, ◌⊎◌, inl, inr, ⊎_elim, ℕ, List, [], ◌∷◌, ◌++◌, map, Some, None, refl, sym, ap, ◌∙◌, subst}
use Rattle.std.proofs.lemmas.Bool.{cases_eq}
use Rattle.pliron_core.specs.Tree.{Tree, operands_of}
use Rattle.pliron_core.specs.Invariant.{IsTree}
use Rattle.pliron_core.proofs.HoldingLemmas.{some_is, not_none}
use Rattle.pliron_laws.specs.Datum.{Datum, Empty, Meaning}
use Rattle.pliron_laws.specs.Machine.{Waiting, State, Sight, Ended, Trapped, Reached, Next, Continues, Over, step, start}
use Rattle.pliron_theory.specs.Keeps.{IsFit}
use Rattle.pliron_theory.proofs.Alike.{data_long}
use Rattle.pliron_theory.proofs.Bound.{IsReady}
use Rattle.pliron_theory.proofs.Lockstep.{Waits}
use Rattle.pliron_pass_linked.specs.Calls.{CallingConvention}
use Rattle.pliron_pass_linked.specs.LinkedRuns.{Program, Function, Linker, Reply, Caller, Below, World, Frame, LinkedState, LinkedNext, Goes, with_answer, with_frame, after_return, after_call, after_effect, after_sight, with_state, linked_start}
use Rattle.pliron_pass_linked.specs.LinkedAgree.{LinkedAgree}
use Rattle.pliron_pass_linked.specs.KeepsLinked.{IsFitIn, IsLiveIn, IsLinker, AllLive, with_module}
use Rattle.pliron_rewrite_inlining.specs.Inlined.{InlinedCall, IsReturnReplaced, IsCallInlined}
use Rattle.pliron_rewrite_inlining.specs.InliningLaws.{InliningLaw}
use Rattle.pliron_rewrite_inlining.proofs.Seen.{SeenSame, SeenInside, latest}
use Rattle.pliron_rewrite_inlining.proofs.Effects.{with_world}
use Rattle.pliron_rewrite_inlining.proofs.CopiedSteps.{WaitsAt, Standing}
use Rattle.pliron_rewrite_inlining.proofs.CallerSteps.{AtCall}
use Rattle.pliron_rewrite_inlining.proofs.Running.{OnWay, starts_on, stays_on, world_on, ready_on}
use Rattle.pliron_rewrite_inlining.proofs.Entering.{IsAtCall, at_call, Enters, enters}
use Rattle.pliron_rewrite_inlining.proofs.Returning.{ReturnsTo, returns_to}
use Rattle.pliron_rewrite_inlining.proofs.Catching.{Meets, Go, Meeting, shown_alike}
use Rattle.pliron_rewrite_inlining.proofs.LinkedFrames.{fn, before_here, after_here, callee_fit, CallerPair, Elsewhere, Here, LoneNext, JoinedNext, lone_step, joined_step, quiet_step, asking, lone_begun}
use Rattle.pliron_rewrite_inlining.proofs.LinkedStacks.{by_step, LonePair, JoinedFrames, IsAway, IsCopying, AsksIn, Stacks, lone_pushed, Tops, Alone, Two, Related, left, right, now, NextOnWay, meets_by, effect_shown, returned}

waits_held : (W : List ℕ → List ℕ → Datum → Type 0) (ws ws' : List Waiting) → Waits W ws ws' → (y : Waiting) (ys : List Waiting) → ws ≡ y ∷ ys → (z : Waiting) × (zs : List Waiting) × (ws' ≡ z ∷ zs)
waits_held W [] ws' k y ys e = absurd (nothing e)
  where
    nothing : [] ≡ y ∷ ys → ⊥
    nothing q = cc
waits_held W (v ∷ vs) [] k y ys e = absurd k
waits_held W (v ∷ vs) (z ∷ zs) k y ys e = (z, zs, refl)

module _ (m : Meaning) (c : CallingConvention) (p : Program) (n : ℕ) (u : Tree) (x : InlinedCall) (symbol : Datum) (link : Linker) (w : IsTree (p n)) (w' : IsTree u) (h : IsCallInlined m c (p n) u x symbol) (l : IsLinker m c p link) (live : AllLive (with_module p n u) link) (named : link n symbol ≡ Some (record { in_module = n; root = x.callee })) where
  abbrev Pair : LinkedState → LinkedState → Type 0
  Pair s s' = Related m c p n u x symbol link w w' h l live named s s'

  abbrev Lones : Frame → Frame → Type 0
  Lones f f' = LonePair m c p n u x symbol link w w' h l live named f f'

  abbrev Joins : Frame → Frame → Frame → Type 0
  Joins f g f' = JoinedFrames m c p n u x symbol link w w' h l live named f g f'

  abbrev Stacked : List Frame → List Frame → Type 0
  Stacked fs fs' = Stacks m c p n u x symbol link w w' h l live named fs fs'

  abbrev Left : LinkedState → LinkedNext
  Left s = left m c p n u x symbol link w w' h l live named s

  abbrev Right : LinkedState → LinkedNext
  Right s = right m c p n u x symbol link w w' h l live named s

  abbrev Met : LinkedState → LinkedState → Type 0
  Met s s' = Meets Left Right Pair s s'

  abbrev NextTo : LinkedNext → LinkedNext → Type 0
  NextTo o o' = NextOnWay m c p n u x symbol link w w' h l live named o o'

  abbrev q : Program
  q = with_module p n u

  abbrev Before : Frame → Next
  Before f = step m (p f.function.in_module) f.state

  abbrev After : Frame → Next
  After f = step m (q f.function.in_module) f.state

  at_or : (rest : List ℕ) → AtCall x rest ⊎ (AtCall x rest → ⊥)
  at_or [] = inr (λ z. z)
  at_or (k ∷ ks) = cases_eq k x.call

  lone_caller : (f f' : Frame) → Lones f f' → f.caller ≡ f'.caller
  lone_caller f f' (Elsewhere ne e) = ap (λ z. z.caller) e
  lone_caller f f' (Here root fe fe' ce fit on r) = ce

  lone_module : (f f' : Frame) → Lones f f' → f.function.in_module ≡ f'.function.in_module
  lone_module f f' (Elsewhere ne e) = ap (λ z. z.function.in_module) e
  lone_module f f' (Here root fe fe' ce fit on r) = ap (λ g. g.in_module) (fe ∙ sym fe')

  ask_before : (s s' : LinkedState) → Pair s s' → (es : List Datum) → Before s.top ≡ Over (Reached es) → AsksIn m c p n u x symbol link w w' h l live named p s.top
  ask_before s s' r es e = asking m c p n u x symbol link w w' h l live named (p s.top.function.in_module) s.top.state es r.quiet e

  ask_after : (s s' : LinkedState) → Pair s s' → (es : List Datum) → After s'.top ≡ Over (Reached es) → AsksIn m c p n u x symbol link w w' h l live named q s'.top
  ask_after s s' r es e = asking m c p n u x symbol link w w' h l live named (q s'.top.function.in_module) s'.top.state es r.quiet_after e

  -- ---- where the frames show an effect

  reached : (s s' : LinkedState) → Pair s s' → (es es' : List Datum) → latest es ≡ latest es' → s.top.function.in_module ≡ s'.top.function.in_module → Stacked (s.top ∷ s.below) (s'.top ∷ s'.below) → NextTo (after_sight c link s (Reached es)) (after_sight c link s' (Reached es'))
  reached s s' r [] [] e me k = ap Reached r.effects
  reached s s' r [] (y ∷ es') e me k = absurd (not_none e)
  reached s s' r (y ∷ es) [] e me k = absurd (not_none (sym e))
  reached s s' r (y ∷ es) (z ∷ es') e me k = subst (λ a. NextTo (after_effect link s y (c.call_of y)) (after_effect link s' a (c.call_of a))) (some_is e) (effect_shown m c p n u x symbol link w w' h l live named s s' k r.world r.effects me y (c.call_of y))

  -- ---- a frame that isn't in a copy

  lone_over : (s s' : LinkedState) → Pair s s' → Lones s.top s'.top → Stacked s.below s'.below → IsAway m c p n u x symbol link w w' h l live named s.top → (y z : Sight) → Before s.top ≡ Over y → After s'.top ≡ Over z → SeenSame y z → NextTo (after_sight c link s y) (after_sight c link s' z)
  lone_over s s' r a k away (Ended ds es) (Ended ds' es') e e' same = subst (λ b. NextTo (after_return c link s s.below s.top.caller ds) (after_return c link s' s'.below b ds')) (lone_caller s.top s'.top a) (subst (λ b. NextTo (after_return c link s s.below s.top.caller ds) (after_return c link s' s'.below s.top.caller b)) same (returned m c p n u x symbol link w w' h l live named s s' s.below s'.below k r.world r.effects s.top.caller ds))
  lone_over s s' r a k away (Ended ds es) (Trapped es') e e' same = absurd same
  lone_over s s' r a k away (Ended ds es) (Reached es') e e' same = absurd same
  lone_over s s' r a k away (Trapped es) (Ended ds' es') e e' same = absurd same
  lone_over s s' r a k away (Trapped es) (Trapped es') e e' same = ap Trapped r.effects
  lone_over s s' r a k away (Trapped es) (Reached es') e e' same = absurd same
  lone_over s s' r a k away (Reached es) (Ended ds' es') e e' same = absurd same
  lone_over s s' r a k away (Reached es) (Trapped es') e e' same = absurd same
  lone_over s s' r a k away (Reached es) (Reached es') e e' same = reached s s' r es es' same (lone_module s.top s'.top a) (lone_pushed m c p n u x symbol link w w' h l live named s.top s'.top s.below s'.below (a, away, ask_before s s' r es e, ask_after s s' r es' e') k)

  lone_away : (s s' : LinkedState) → Pair s s' → Lones s.top s'.top → Stacked s.below s'.below → IsAway m c p n u x symbol link w w' h l live named s.top → Met s s'
  lone_away s s' r a k away = go (Before s.top) (After s'.top) refl refl (lone_step m c p n u x symbol link w w' h l live named s.top s'.top a away)
    where
      go : (o o' : Next) → Before s.top ≡ o → After s'.top ≡ o' → LoneNext m c p n u x symbol link w w' h l live named s.top s'.top o o' → Met s s'
      go (Continues b) (Continues b') e e' y = Go (with_state s b) (with_state s' b') (by_step m c link p s (Continues b) e) (by_step m c link q s' (Continues b') e') (now m c p n u x symbol link w w' h l live named (with_state s b) (with_state s' b') (record {
        tops = Alone y k;
        quiet = quiet_step m c p n u x symbol link w w' h l live named (p s.top.function.in_module) s.top.state b r.quiet e;
        quiet_after = quiet_step m c p n u x symbol link w w' h l live named (q s'.top.function.in_module) s'.top.state b' r.quiet_after e';
        world = r.world;
        effects = r.effects;
      }))
      go (Over y) (Over z) e e' same = meets_by m c p n u x symbol link w w' h l live named s s' (after_sight c link s y) (after_sight c link s' z) (by_step m c link p s (Over y) e) (by_step m c link q s' (Over z) e') (lone_over s s' r a k away y z e e' same)
      go (Continues b) (Over z) e e' y = absurd y
      go (Over y) (Continues b) e e' same = absurd same

  -- ---- the call

  abbrev called_with : LinkedState → List Datum → LinkedState
  called_with s ds = with_frame s (record { in_module = n; root = x.callee }) ds Below

  at_the_call : (s s' : LinkedState) → Pair s s' → Stacked s.below s'.below → (root : ℕ) → s.top.function ≡ fn m c p n u x symbol link w w' h l live named root → s'.top.function ≡ fn m c p n u x symbol link w w' h l live named root → s.top.caller ≡ s'.top.caller → (fit : IsFit m (p n) root) → OnWay m (p n) w root fit s.top.state → CallerPair m c p n u x symbol link w w' h l live named s.top.state s'.top.state → AtCall x s.top.state.rest → Met s s'
  at_the_call s s' r k root fe fe' ce fit on pair here = Go (called_with s ready.input) (with_state s' e.copy) calls jumps (record {
    left = 1;
    right = 0;
    a = with_state (called_with s ready.input) e.inner;
    b = with_state s' e.copy;
    comes = (with_state (called_with s ready.input) e.inner, by_step m c link p (called_with s ready.input) (Continues e.inner) e.visits, refl, refl);
    other_comes = refl;
    related = record {
      tops = Two s.top s.below refl joined k;
      quiet = e.quiet;
      quiet_after = quiet_step m c p n u x symbol link w w' h l live named u s'.top.state e.copy r.quiet_after e.jumps;
      world = r.world;
      effects = r.effects;
    };
  })
    where
      at : IsAtCall m c (p n) u x symbol w w' h s.top.state s'.top.state
      at = at_call m c (p n) u x symbol w w' h s.top.state s'.top.state pair here

      ready : IsReady (p n) w root m fit.linked.edges fit.defined s.top.state x.call (x.jump ∷ [])
      ready = ready_on m (p n) w root fit s.top.state on x.call (x.jump ∷ []) at.rest at.answer

      held : (z : Waiting) × (zs : List Waiting) × (s'.top.state.waiting ≡ z ∷ zs)
      held = waits_held (WaitsAt x) s.top.state.waiting s'.top.state.waiting pair.waiting ready.inner ready.others ready.waits

      e : Enters m c (p n) u x symbol w w' h s.top.state s'.top.state ready.input
      e = enters m c (p n) u x symbol w w' h s.top.state s'.top.state pair at ready.input ready.has_data r.quiet held.0 held.1 held.2

      calls : Left s ≡ Goes (called_with s ready.input)
      calls = by_step m c link p s (Over (Reached (h.calls.effect ready.input ∷ s.top.state.effects))) (before_here m c p n u x symbol link w w' h l live named s.top root fe ∙ e.asks)
          ∙ ap (after_effect link s (h.calls.effect ready.input)) (h.calls.is_call ready.input (data_long s.top.state.environment (operands_of (p n) x.call) ready.input ready.has_data))
          ∙ ap (after_call link s (h.calls.effect ready.input) ready.input) (ap (λ g. link g.in_module symbol) fe ∙ named)

      jumps : Right s' ≡ Goes (with_state s' e.copy)
      jumps = by_step m c link q s' (Continues e.copy) (after_here m c p n u x symbol link w w' h l live named s'.top root fe' ∙ e.jumps)

      joined : Joins (record { function = record { in_module = n; root = x.callee }; state = e.inner; caller = Below }) s.top (record s'.top { state = e.copy })
      joined = record {
        callee = refl;
        caller = refl;
        on_way = stays_on m (p n) w x.callee (callee_fit m c p n u x symbol link w w' h l live named) (start x.callee ready.input []) e.inner (starts_on m (p n) w x.callee (callee_fit m c p n u x symbol link w w' h l live named) ready.input []) e.visits;
        root = root;
        function = fe;
        function_after = fe';
        outer = ce;
        fit = fit;
        caller_on_way = on;
        rest = at.rest;
        memo = at.memo;
        answer = at.answer;
        quiet = r.quiet;
        inside = e.inside;
      }

  lone_meets : (s s' : LinkedState) → Pair s s' → Lones s.top s'.top → Stacked s.below s'.below → Met s s'
  lone_meets s s' r (Elsewhere ne e) k = lone_away s s' r (Elsewhere ne e) k (λ i a. ne i)
  lone_meets s s' r (Here root fe fe' ce fit on pair) k = ⊎_elim (λ a. at_the_call s s' r k root fe fe' ce fit on pair a) (λ away. lone_away s s' r (Here root fe fe' ce fit on pair) k (λ i a. away a)) (at_or s.top.state.rest)

  -- ---- the copy

  joined_over : (s s' : LinkedState) (g : Frame) (gs : List Frame) → Pair s s' → s.below ≡ g ∷ gs → Joins s.top g s'.top → Stacked gs s'.below → IsCopying m c p n u x symbol link w w' h l live named s'.top.state → (y z : Sight) → Before s.top ≡ Over y → After s'.top ≡ Over z → SeenInside y z → NextTo (after_sight c link s y) (after_sight c link s' z)
  joined_over s s' g gs r be a k copying (Ended ds es) z e e' same = absurd same
  joined_over s s' g gs r be a k copying (Trapped es) (Ended ds' es') e e' same = absurd same
  joined_over s s' g gs r be a k copying (Trapped es) (Trapped es') e e' same = ap Trapped r.effects
  joined_over s s' g gs r be a k copying (Trapped es) (Reached es') e e' same = absurd same
  joined_over s s' g gs r be a k copying (Reached es) (Ended ds' es') e e' same = absurd same
  joined_over s s' g gs r be a k copying (Reached es) (Trapped es') e e' same = absurd same
  joined_over s s' g gs r be a k copying (Reached es) (Reached es') e e' same = reached s s' r es es' same (ap (λ f. f.in_module) a.callee ∙ sym (ap (λ f. f.in_module) a.function_after)) (subst (λ b. Stacked (s.top ∷ b) (s'.top ∷ s'.below)) (sym be) (inr ((a, copying, ask_before s s' r es e, ask_after s s' r es' e'), k)))

  copy_meets : (s s' : LinkedState) (g : Frame) (gs : List Frame) → Pair s s' → s.below ≡ g ∷ gs → Joins s.top g s'.top → Stacked gs s'.below → IsCopying m c p n u x symbol link w w' h l live named s'.top.state → Met s s'
  copy_meets s s' g gs r be a k copying = go (Before s.top) (After s'.top) refl refl (joined_step m c p n u x symbol link w w' h l live named s.top g s'.top a copying)
    where
      go : (o o' : Next) → Before s.top ≡ o → After s'.top ≡ o' → JoinedNext m c p n u x symbol link w w' h l live named s.top g s'.top o o' → Met s s'
      go (Continues b) (Continues b') e e' y = Go (with_state s b) (with_state s' b') (by_step m c link p s (Continues b) e) (by_step m c link q s' (Continues b') e') (now m c p n u x symbol link w w' h l live named (with_state s b) (with_state s' b') (record {
        tops = Two g gs be y k;
        quiet = quiet_step m c p n u x symbol link w w' h l live named (p s.top.function.in_module) s.top.state b r.quiet e;
        quiet_after = quiet_step m c p n u x symbol link w w' h l live named (q s'.top.function.in_module) s'.top.state b' r.quiet_after e';
        world = r.world;
        effects = r.effects;
      }))
      go (Over y) (Over z) e e' same = meets_by m c p n u x symbol link w w' h l live named s s' (after_sight c link s y) (after_sight c link s' z) (by_step m c link p s (Over y) e) (by_step m c link q s' (Over z) e') (joined_over s s' g gs r be a k copying y z e e' same)
      go (Continues b) (Over z) e e' y = absurd y
      go (Over y) (Continues b) e e' same = absurd same

  abbrev Replaced : State → Type 0
  Replaced s' = (k : ℕ) × (s'.rest ≡ k ∷ []) × IsReturnReplaced m (p n) u x k × (s'.memo ≡ Empty) × (s'.answer ≡ None)

  split : (s' : State) (rest : List ℕ) → s'.rest ≡ rest → Standing m c (p n) u x symbol h rest s'.memo s'.answer → IsCopying m c p n u x symbol link w w' h l live named s' ⊎ Replaced s'
  split s' [] e a = absurd a
  split s' (k ∷ []) e (inl y) = inl (k, [], e, y.0, y.1)
  split s' (k ∷ []) e (inr y) = inr (k, e, y.0, y.1, y.2)
  split s' (k ∷ j ∷ ks) e y = inl (k, j ∷ ks, e, y.0, y.1)

  -- ---- the return

  return_below : (s : LinkedState) (g : Frame) (gs fs : List Frame) (who : Caller) (ds : List Datum) → fs ≡ g ∷ gs → who ≡ Below → after_return c link s fs who ds ≡ Goes (record s { top = with_answer g (c.answer_of ds); below = gs })
  return_below s g gs fs who ds e e' = subst (λ b. after_return c link s fs b ds ≡ Goes (record s { top = with_answer g (c.answer_of ds); below = gs })) (sym e') (subst (λ b. after_return c link s b Below ds ≡ Goes (record s { top = with_answer g (c.answer_of ds); below = gs })) (sym e) refl)

  abbrev answered : LinkedState → Frame → List Frame → List Datum → LinkedState
  answered s g gs ds = record s { top = with_answer g (c.answer_of ds); below = gs }

  return_meets : (s s' : LinkedState) (g : Frame) (gs : List Frame) → Pair s s' → s.below ≡ g ∷ gs → Joins s.top g s'.top → Stacked gs s'.below → Replaced s'.top.state → Met s s'
  return_meets s s' g gs r be a k y = Go (with_state s z.left) (with_state s' z.copy)
      (by_step m c link p s (Continues z.left) (before_here m c p n u x symbol link w w' h l live named s.top x.callee a.callee ∙ z.leaves))
      (by_step m c link q s' (Continues z.copy) (after_here m c p n u x symbol link w w' h l live named s'.top a.root a.function_after ∙ z.copy_jumps)) (record {
        left = 4;
        right = 0;
        a = with_state (answered s g gs z.values) z.behind;
        b = with_state s' z.copy;
        comes = (answered s g gs z.values, ended, refl, (with_state (answered s g gs z.values) z.answered, taken, refl, (with_state (answered s g gs z.values) z.given, given, refl, (with_state (answered s g gs z.values) z.behind, jumped_on, refl, refl))));
        other_comes = refl;
        related = record {
          tops = Alone (Here a.root a.function a.function_after a.outer a.fit on z.tied) k;
          quiet = z.quiet;
          quiet_after = quiet_step m c p n u x symbol link w w' h l live named u s'.top.state z.copy r.quiet_after z.copy_jumps;
          world = r.world;
          effects = r.effects;
        };
      })
    where
      callee_ready : IsReady (p n) w x.callee m (callee_fit m c p n u x symbol link w w' h l live named).linked.edges (callee_fit m c p n u x symbol link w w' h l live named).defined s.top.state (x.originals.operation y.0) []
      callee_ready = ready_on m (p n) w x.callee (callee_fit m c p n u x symbol link w w' h l live named) s.top.state a.on_way (x.originals.operation y.0) [] (a.inside.place ∙ ap (map x.originals.operation) y.1) (a.inside.answer ∙ y.4)

      ready : IsReady (p n) w a.root m a.fit.linked.edges a.fit.defined g.state x.call (x.jump ∷ [])
      ready = ready_on m (p n) w a.root a.fit g.state a.caller_on_way x.call (x.jump ∷ []) a.rest a.answer

      z : ReturnsTo m c (p n) u x symbol w w' h g.state s.top.state s'.top.state
      z = returns_to m c (p n) u x symbol w w' h g.state s.top.state s'.top.state a.inside y.0 y.1 y.2 y.3 y.4 callee_ready.input callee_ready.has_data a.rest a.memo a.answer ready.input ready.has_data ready.inner ready.others ready.waits r.quiet_after

      caller_steps : (b : State) → step m (p g.function.in_module) b ≡ step m (p n) b
      caller_steps b = ap (λ f. step m (p f.in_module) b) a.function

      ended : Left (with_state s z.left) ≡ Goes (answered s g gs z.values)
      ended = by_step m c link p (with_state s z.left) (Over (Ended z.values z.left.effects)) (ap (λ f. step m (p f.in_module) z.left) a.callee ∙ z.ends) ∙ return_below (with_state s z.left) g gs s.below s.top.caller z.values be a.caller

      taken : Left (answered s g gs z.values) ≡ Goes (with_state (answered s g gs z.values) z.answered)
      taken = by_step m c link p (answered s g gs z.values) (Continues z.answered) (caller_steps (with_answer g (c.answer_of z.values)).state ∙ ap (λ ws. step m (p n) (record g.state { world = ws ++ c.answer_of z.values ∷ [] })) a.quiet ∙ z.takes_answer)

      given : Left (with_state (answered s g gs z.values) z.answered) ≡ Goes (with_state (answered s g gs z.values) z.given)
      given = by_step m c link p (with_state (answered s g gs z.values) z.answered) (Continues z.given) (caller_steps z.answered ∙ z.gives)

      jumped_on : Left (with_state (answered s g gs z.values) z.given) ≡ Goes (with_state (answered s g gs z.values) z.behind)
      jumped_on = by_step m c link p (with_state (answered s g gs z.values) z.given) (Continues z.behind) (caller_steps z.given ∙ z.jumps)

      on : OnWay m (p n) w a.root a.fit z.behind
      on = stays_on m (p n) w a.root a.fit z.given z.behind (stays_on m (p n) w a.root a.fit z.answered z.given (stays_on m (p n) w a.root a.fit (with_world g.state (c.answer_of z.values)) z.answered (world_on m (p n) w a.root a.fit g.state (c.answer_of z.values ∷ []) a.caller_on_way) z.takes_answer) z.gives) z.jumps

  meets : (s s' : LinkedState) → Pair s s' → Met s s'
  meets s s' r = go r.tops
    where
      go : Tops m c p n u x symbol link w w' h l live named s.top s.below s'.top s'.below → Met s s'
      go (Alone a k) = lone_meets s s' r a k
      go (Two g gs be a k) = ⊎_elim (λ y. copy_meets s s' g gs r be a k y) (λ y. return_meets s s' g gs r be a k y) (split s'.top.state s'.top.state.rest refl a.inside.stands)

  meeting : Meeting Left Right Pair
  meeting = record { effects = λ s s' r. r.effects; meets = meets }

  pub starts_related : (f : Function) → IsFitIn m p f → IsLiveIn q f → (inputs : List Datum) (world : List Reply) → Pair (linked_start f inputs world) (linked_start f inputs world)
  starts_related f fit alive inputs world = record {
    tops = Alone (lone_begun m c p n u x symbol link w w' h l live named f fit alive inputs World) tt;
    quiet = refl;
    quiet_after = refl;
    world = refl;
    effects = refl;
  }

  pub agree : (f : Function) → IsFitIn m p f → IsLiveIn q f → LinkedAgree m c link p q f
  agree f fit alive = record { alike = λ inputs world y. shown_alike Left Right Pair meeting (linked_start f inputs world) (linked_start f inputs world) (starts_related f fit alive inputs world) y }

pub inlining_law : InliningLaw
inlining_law m c p n u x symbol link w w' h l live named f fit alive = agree m c p n u x symbol link w w' h l live named f fit alive
