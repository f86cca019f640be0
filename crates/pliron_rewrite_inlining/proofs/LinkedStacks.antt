-- Linked states before and after an inlined call, side by side.
use Rattle.std.proofs.Common.{◌≡◌, ◌⊎◌, inl, inr, ℕ, List, [], ◌∷◌, Option, Some, None, refl, sym, ap, ◌∙◌, subst}
use Rattle.pliron_core.specs.Tree.{Tree}
use Rattle.pliron_core.specs.Invariant.{IsTree}
use Rattle.pliron_laws.specs.Datum.{Datum, Meaning}
use Rattle.pliron_laws.specs.Machine.{State, Ended, Trapped, Reached, Next, Continues, step}
use Rattle.pliron_pass_linked.specs.Calls.{Call, CallingConvention}
use Rattle.pliron_pass_linked.specs.LinkedRuns.{Program, Function, Linker, Reply, Answer, Callback, Caller, Below, World, Frame, LinkedState, LinkedNext, Goes, Stops, with_answer, with_frame, after_callback, after_reply, show_world, after_return, after_call, after_effect, with_state, after_step, linked_step}
use Rattle.pliron_pass_linked.specs.KeepsLinked.{IsLinker, AllLive, with_module}
use Rattle.pliron_rewrite_inlining.specs.Inlined.{InlinedCall, IsCallInlined}
use Rattle.pliron_rewrite_inlining.proofs.Catching.{AreOnWay, Meets, Stop, Go}
use Rattle.pliron_rewrite_inlining.proofs.LinkedFrames.{Lone, Joined, Away, Copying, LoneNext, JoinedNext, lone_step, joined_step, lone_answered, joined_answered, IsAsking, answer_step, lone_begun}

pub by_step : (m : Meaning) (c : CallingConvention) (link : Linker) (p : Program) (s : LinkedState) (o : Next) → step m (p s.top.function.in_module) s.top.state ≡ o → linked_step m c link p s ≡ after_step c link s o
unfolding linked_step
by_step m c link p s o e = ap (λ o. after_step c link s o) e

module _ (m : Meaning) (c : CallingConvention) (p : Program) (n : ℕ) (u : Tree) (x : InlinedCall) (symbol : Datum) (link : Linker) (w : IsTree (p n)) (w' : IsTree u) (h : IsCallInlined m c (p n) u x symbol) (l : IsLinker m c p link) (live : AllLive (with_module p n u) link) (named : link n symbol ≡ Some (record { in_module = n; root = x.callee })) where
  abbrev pub Q : Program
  Q = with_module p n u

  abbrev pub LonePair : Frame → Frame → Type 0
  LonePair f f' = Lone m c p n u x symbol link w w' h l live named f f'

  abbrev pub JoinedFrames : Frame → Frame → Frame → Type 0
  JoinedFrames f g f' = Joined m c p n u x symbol link w w' h l live named f g f'

  abbrev pub IsAway : Frame → Type 0
  IsAway f = Away m c p n u x symbol link w w' h l live named f

  abbrev pub IsCopying : State → Type 0
  IsCopying s = Copying m c p n u x symbol link w w' h l live named s

  abbrev pub AsksIn : Program → Frame → Type 0
  AsksIn y f = IsAsking m c p n u x symbol link w w' h l live named (y f.function.in_module) f.state

  -- frames that wait for an answer
  abbrev pub LoneWaits : Frame → Frame → Type 0
  LoneWaits f f' = LonePair f f' × IsAway f × AsksIn p f × AsksIn Q f'

  abbrev pub JoinedWait : Frame → Frame → Frame → Type 0
  JoinedWait f g f' = JoinedFrames f g f' × IsCopying f'.state × AsksIn p f × AsksIn Q f'

  abbrev pub Stacks : List Frame → List Frame → Type 0
  Stacks [] [] = Unit {0}
  Stacks [] (f' ∷ fs') = ⊥
  Stacks (f ∷ []) [] = ⊥
  Stacks (f ∷ []) (f' ∷ fs') = LoneWaits f f' × Stacks [] fs'
  Stacks (f ∷ g ∷ fs) [] = ⊥
  Stacks (f ∷ g ∷ fs) (f' ∷ fs') = (LoneWaits f f' × Stacks (g ∷ fs) fs') ⊎ (JoinedWait f g f' × Stacks fs fs')

  pub lone_pushed : (f f' : Frame) (fs fs' : List Frame) → LoneWaits f f' → Stacks fs fs' → Stacks (f ∷ fs) (f' ∷ fs')
  lone_pushed f f' [] fs' a k = (a, k)
  lone_pushed f f' (g ∷ fs) fs' a k = inl (a, k)

  pub data Tops (f : Frame) (fs : List Frame) (f' : Frame) (fs' : List Frame) : Type 0 where
    Alone : LonePair f f' → Stacks fs fs' → Tops f fs f' fs'
    Two : (g : Frame) (gs : List Frame) → fs ≡ g ∷ gs → JoinedFrames f g f' → Stacks gs fs' → Tops f fs f' fs'

  pub record Related (s s' : LinkedState) : Type 0 where
    pub tops : Tops s.top s.below s'.top s'.below
    pub quiet : s.top.state.world ≡ []
    pub quiet_after : s'.top.state.world ≡ []
    pub world : s.world ≡ s'.world
    pub effects : s.effects ≡ s'.effects

  abbrev pub left : LinkedState → LinkedNext
  left s = linked_step m c link p s

  abbrev pub right : LinkedState → LinkedNext
  right s = linked_step m c link Q s

  abbrev pub OnWays : LinkedState → LinkedState → Type 0
  OnWays s s' = AreOnWay left right Related s s'

  pub now : (s s' : LinkedState) → Related s s' → OnWays s s'
  now s s' r = record { left = 0; right = 0; a = s; b = s'; comes = refl; other_comes = refl; related = r }

  pub soon : (s s' a b : LinkedState) → left s ≡ Goes a → right s' ≡ Goes b → a.effects ≡ s.effects → b.effects ≡ s'.effects → Related a b → OnWays s s'
  soon s s' a b e e' k k' r = record { left = 1; right = 1; a = a; b = b; comes = (a, e, k, refl); other_comes = (b, e', k', refl); related = r }

  abbrev pub NextOnWay : LinkedNext → LinkedNext → Type 0
  NextOnWay (Goes a) (Goes b) = OnWays a b
  NextOnWay (Stops y) (Stops z) = y ≡ z
  NextOnWay (Goes a) (Stops z) = ⊥
  NextOnWay (Stops y) (Goes b) = ⊥

  pub meets_by : (s s' : LinkedState) (o o' : LinkedNext) → left s ≡ o → right s' ≡ o' → NextOnWay o o' → Meets left right Related s s'
  meets_by s s' (Goes a) (Goes b) e e' r = Go a b e e' r
  meets_by s s' (Stops y) (Stops z) e e' r = Stop y e (e' ∙ ap Stops (sym r))
  meets_by s s' (Goes a) (Stops z) e e' r = absurd r
  meets_by s s' (Stops y) (Goes b) e e' r = absurd r

  -- ---- frames that are answered

  abbrev replied_state : Frame → List Frame → Datum → List Reply → List Datum → LinkedState
  replied_state f fs d world es = record { top = with_answer f d; below = fs; world = world; effects = es }

  before_answered : (f : Frame) (d : Datum) (k : AsksIn p f) → step m (p f.function.in_module) (with_answer f d).state ≡ Continues (k.1 d).0
  before_answered f d k = answer_step m c p n u x symbol link w w' h l live named (p f.function.in_module) f.state d k

  after_answered : (f : Frame) (d : Datum) (k : AsksIn Q f) → step m (Q f.function.in_module) (with_answer f d).state ≡ Continues (k.1 d).0
  after_answered f d k = answer_step m c p n u x symbol link w w' h l live named (Q f.function.in_module) f.state d k

  lone_replied : (f f' : Frame) (fs fs' : List Frame) → LoneWaits f f' → Stacks fs fs' → (d : Datum) (world : List Reply) (es es' : List Datum) → es ≡ es' → OnWays (replied_state f fs d world es) (replied_state f' fs' d world es')
  lone_replied f f' fs fs' a k d world es es' e = soon (replied_state f fs d world es) (replied_state f' fs' d world es') (with_state (replied_state f fs d world es) (a.2.1 d).0) (with_state (replied_state f' fs' d world es') (a.3.1 d).0)
      (by_step m c link p (replied_state f fs d world es) (Continues (a.2.1 d).0) (before_answered f d a.2))
      (by_step m c link Q (replied_state f' fs' d world es') (Continues (a.3.1 d).0) (after_answered f' d a.3)) refl refl (record {
        tops = Alone moved k;
        quiet = (a.2.1 d).2;
        quiet_after = (a.3.1 d).2;
        world = refl;
        effects = e;
      })
    where
      moved : LonePair (record f { state = (a.2.1 d).0 }) (record f' { state = (a.3.1 d).0 })
      moved = subst (λ o. LoneNext m c p n u x symbol link w w' h l live named (with_answer f d) (with_answer f' d) (Continues (a.2.1 d).0) o) (after_answered f' d a.3)
          (subst (λ o. LoneNext m c p n u x symbol link w w' h l live named (with_answer f d) (with_answer f' d) o (step m (Q f'.function.in_module) (with_answer f' d).state)) (before_answered f d a.2)
          (lone_step m c p n u x symbol link w w' h l live named (with_answer f d) (with_answer f' d) (lone_answered m c p n u x symbol link w w' h l live named f f' d a.0) a.1))

  joined_replied : (f g f' : Frame) (fs fs' : List Frame) → JoinedWait f g f' → Stacks fs fs' → (d : Datum) (world : List Reply) (es es' : List Datum) → es ≡ es' → OnWays (replied_state f (g ∷ fs) d world es) (replied_state f' fs' d world es')
  joined_replied f g f' fs fs' a k d world es es' e = soon (replied_state f (g ∷ fs) d world es) (replied_state f' fs' d world es') (with_state (replied_state f (g ∷ fs) d world es) (a.2.1 d).0) (with_state (replied_state f' fs' d world es') (a.3.1 d).0)
      (by_step m c link p (replied_state f (g ∷ fs) d world es) (Continues (a.2.1 d).0) (before_answered f d a.2))
      (by_step m c link Q (replied_state f' fs' d world es') (Continues (a.3.1 d).0) (after_answered f' d a.3)) refl refl (record {
        tops = Two g fs refl moved k;
        quiet = (a.2.1 d).2;
        quiet_after = (a.3.1 d).2;
        world = refl;
        effects = e;
      })
    where
      moved : JoinedFrames (record f { state = (a.2.1 d).0 }) g (record f' { state = (a.3.1 d).0 })
      moved = subst (λ o. JoinedNext m c p n u x symbol link w w' h l live named (with_answer f d) g (with_answer f' d) (Continues (a.2.1 d).0) o) (after_answered f' d a.3)
          (subst (λ o. JoinedNext m c p n u x symbol link w w' h l live named (with_answer f d) g (with_answer f' d) o (step m (Q f'.function.in_module) (with_answer f' d).state)) (before_answered f d a.2)
          (joined_step m c p n u x symbol link w w' h l live named (with_answer f d) g (with_answer f' d) (joined_answered m c p n u x symbol link w w' h l live named f g f' d a.0) a.1))

  replied : (f f' : Frame) (fs fs' : List Frame) → Stacks (f ∷ fs) (f' ∷ fs') → (d : Datum) (world : List Reply) (es es' : List Datum) → es ≡ es' → OnWays (record { top = with_answer f d; below = fs; world = world; effects = es }) (record { top = with_answer f' d; below = fs'; world = world; effects = es' })
  replied f f' [] fs' k d world es es' e = lone_replied f f' [] fs' k.0 k.1 d world es es' e
  replied f f' (g ∷ fs) fs' (inl k) d world es es' e = lone_replied f f' (g ∷ fs) fs' k.0 k.1 d world es es' e
  replied f f' (g ∷ fs) fs' (inr k) d world es es' e = joined_replied f g f' fs fs' k.0 k.1 d world es es' e

  -- ---- what the world sees, calls and returns

  begins : (s s' : LinkedState) → Stacks (s.top ∷ s.below) (s'.top ∷ s'.below) → s.world ≡ s'.world → s.effects ≡ s'.effects → (k : ℕ) (name : Datum) (g : Function) → link k name ≡ Some g → (ds : List Datum) (who : Caller) → OnWays (with_frame s g ds who) (with_frame s' g ds who)
  begins s s' k we ee i name g e ds who = now _ _ (record {
    tops = Alone (lone_begun m c p n u x symbol link w w' h l live named g (l.fit i name g e) (live i name g e) ds who) k;
    quiet = refl;
    quiet_after = refl;
    world = we;
    effects = ee;
  })

  calls_back : (s s' : LinkedState) → Stacks (s.top ∷ s.below) (s'.top ∷ s'.below) → s.world ≡ s'.world → s.effects ≡ s'.effects → (k : ℕ) (name : Datum) (o : Option Function) → link k name ≡ o → (ds : List Datum) → NextOnWay (after_callback s ds o) (after_callback s' ds o)
  calls_back s s' k we ee i name None e ds = ap Trapped ee
  calls_back s s' k we ee i name (Some g) e ds = begins s s' k we ee i name g e ds World

  replies : (s s' : LinkedState) → Stacks (s.top ∷ s.below) (s'.top ∷ s'.below) → s.effects ≡ s'.effects → (world : List Reply) → NextOnWay (after_reply link s world) (after_reply link s' world)
  replies s s' k ee [] = ap Reached ee
  replies s s' k ee (Answer d ∷ world) = replied s.top s'.top s.below s'.below k d world s.effects s'.effects ee
  replies s s' k ee (Callback i name ds ∷ world) = calls_back (record s { world = world }) (record s' { world = world }) k refl ee i name (link i name) refl ds

  shows : (s s' : LinkedState) → Stacks (s.top ∷ s.below) (s'.top ∷ s'.below) → s.world ≡ s'.world → s.effects ≡ s'.effects → (e : Datum) → NextOnWay (show_world link s e) (show_world link s' e)
  shows s s' k we ee e = subst (λ world. NextOnWay (show_world link s e) (after_reply link (record s' { effects = e ∷ s'.effects }) world)) we (replies (record s { effects = e ∷ s.effects }) (record s' { effects = e ∷ s'.effects }) k (ap (λ es. e ∷ es) ee) s.world)

  calls : (s s' : LinkedState) → Stacks (s.top ∷ s.below) (s'.top ∷ s'.below) → s.world ≡ s'.world → s.effects ≡ s'.effects → (e : Datum) (ds : List Datum) (i : ℕ) (name : Datum) (o : Option Function) → link i name ≡ o → NextOnWay (after_call link s e ds o) (after_call link s' e ds o)
  calls s s' k we ee e ds i name None q = shows s s' k we ee e
  calls s s' k we ee e ds i name (Some g) q = begins s s' k we ee i name g q ds Below

  pub effect_shown : (s s' : LinkedState) → Stacks (s.top ∷ s.below) (s'.top ∷ s'.below) → s.world ≡ s'.world → s.effects ≡ s'.effects → s.top.function.in_module ≡ s'.top.function.in_module → (e : Datum) (o : Option Call) → NextOnWay (after_effect link s e o) (after_effect link s' e o)
  effect_shown s s' k we ee me e None = shows s s' k we ee e
  effect_shown s s' k we ee me e (Some call) = subst (λ i. NextOnWay (after_effect link s e (Some call)) (after_call link s' e call.arguments (link i call.symbol))) me (calls s s' k we ee e call.arguments s.top.function.in_module call.symbol (link s.top.function.in_module call.symbol) refl)

  pub returned : (s s' : LinkedState) (fs fs' : List Frame) → Stacks fs fs' → s.world ≡ s'.world → s.effects ≡ s'.effects → (who : Caller) (ds : List Datum) → NextOnWay (after_return c link s fs who ds) (after_return c link s' fs' who ds)
  returned s s' [] [] k we ee who ds = ap (Ended ds) ee
  returned s s' [] (f' ∷ fs') k we ee who ds = absurd k
  returned s s' (f ∷ []) [] k we ee who ds = absurd k
  returned s s' (f ∷ g ∷ fs) [] k we ee who ds = absurd k
  returned s s' (f ∷ fs) (f' ∷ fs') k we ee Below ds = subst (λ world. OnWays (record s { top = with_answer f (c.answer_of ds); below = fs }) (record { top = with_answer f' (c.answer_of ds); below = fs'; world = world; effects = s'.effects })) we (replied f f' fs fs' k (c.answer_of ds) s.world s.effects s'.effects ee)
  returned s s' (f ∷ fs) (f' ∷ fs') k we ee World ds = shows (record s { top = f; below = fs }) (record s' { top = f'; below = fs' }) k we ee (c.return_of ds)
