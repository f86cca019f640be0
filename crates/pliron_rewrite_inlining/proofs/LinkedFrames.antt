-- Frames before and after, side by side: where a call was inlined, one frame stands for two.
use Rattle.std.proofs.Common.{◌≡◌, inl, ⊎_elim, ℕ, List, [], ◌∷◌, ◌++◌, map, Some, None, refl, sym, ap, ◌∙◌, subst}
use Rattle.std.proofs.lemmas.Bool.{cases_eq}
use Rattle.pliron_core.specs.Tree.{Tree, IsLive, head_of}
use Rattle.pliron_core.specs.Invariant.{IsTree}
use Rattle.pliron_core.proofs.HoldingLemmas.{not_none, some_of}
use Rattle.pliron_laws.specs.Datum.{Datum, Empty, Meaning}
use Rattle.pliron_laws.specs.Machine.{State, Sight, Ended, Trapped, Reached, Next, Continues, Over, step, start}
use Rattle.pliron_theory.specs.Keeps.{IsFit}
use Rattle.pliron_pass_linked.specs.Calls.{CallingConvention}
use Rattle.pliron_pass_linked.specs.LinkedRuns.{Program, Function, Linker, Caller, Below, Frame, frame_of, with_answer}
use Rattle.pliron_pass_linked.specs.KeepsLinked.{IsFitIn, IsLiveIn, IsLinker, AllLive, with_module}
use Rattle.pliron_rewrite_inlining.specs.Inlined.{InlinedCall, IsCopy, IsCallInlined}
use Rattle.pliron_rewrite_inlining.proofs.Seen.{SeenSame, NextSeen, NextInside}
use Rattle.pliron_rewrite_inlining.proofs.Effects.{with_world, Asks, step_asks}
use Rattle.pliron_rewrite_inlining.proofs.CopiedSteps.{InCopy, Behind, copied_step}
use Rattle.pliron_rewrite_inlining.proofs.CallerSteps.{AtCall, CallerAlike, caller_seen}
use Rattle.pliron_rewrite_inlining.proofs.Modules.{here_tree, there_tree}
use Rattle.pliron_rewrite_inlining.proofs.Running.{OnWay, starts_on, stays_on, world_on, ready_on, live_on}

module _ (m : Meaning) (c : CallingConvention) (p : Program) (n : ℕ) (u : Tree) (x : InlinedCall) (symbol : Datum) (link : Linker) (w : IsTree (p n)) (w' : IsTree u) (h : IsCallInlined m c (p n) u x symbol) (l : IsLinker m c p link) (live : AllLive (with_module p n u) link) (named : link n symbol ≡ Some (record { in_module = n; root = x.callee })) where
  abbrev pub t : Tree
  t = p n

  abbrev pub q : Program
  q = with_module p n u

  abbrev pub fn : ℕ → Function
  fn root = record { in_module = n; root = root }

  abbrev pub before : Frame → Next
  before f = step m (p f.function.in_module) f.state

  abbrev pub after : Frame → Next
  after f = step m (q f.function.in_module) f.state

  pub before_here : (f : Frame) (root : ℕ) → f.function ≡ fn root → before f ≡ step m t f.state
  before_here f root e = ap (λ g. step m (p g.in_module) f.state) e

  pub after_here : (f : Frame) (root : ℕ) → f.function ≡ fn root → after f ≡ step m u f.state
  after_here f root e = ap (λ g. step m (q g.in_module) f.state) e ∙ ap (λ z. step m z f.state) (here_tree p n u)

  pub callee_fit : IsFit m t x.callee
  callee_fit = l.fit n symbol (fn x.callee) named

  abbrev pub CallerPair : State → State → Type 0
  CallerPair s s' = CallerAlike m c t u x symbol w w' h s s'

  -- a frame of another module, and one that isn't in a copy
  pub data Lone (f f' : Frame) : Type 0 where
    Elsewhere : (f.function.in_module ≡ n → ⊥) → f ≡ f' → Lone f f'
    Here : (root : ℕ) → f.function ≡ fn root → f'.function ≡ fn root → f.caller ≡ f'.caller → (fit : IsFit m t root) → OnWay m t w root fit f.state → CallerPair f.state f'.state → Lone f f'

  -- a frame of the callee and its caller's, which waits at the call, and the one frame after
  pub record Joined (f g f' : Frame) : Type 0 where
    pub callee : f.function ≡ fn x.callee
    pub caller : f.caller ≡ Below
    pub on_way : OnWay m t w x.callee callee_fit f.state
    pub root : ℕ
    pub function : g.function ≡ fn root
    pub function_after : f'.function ≡ fn root
    pub outer : g.caller ≡ f'.caller
    pub fit : IsFit m t root
    pub caller_on_way : OnWay m t w root fit g.state
    pub rest : g.state.rest ≡ x.call ∷ x.jump ∷ []
    pub memo : g.state.memo ≡ Empty
    pub answer : g.state.answer ≡ None
    pub quiet : g.state.world ≡ []
    pub inside : InCopy m c t u x symbol h g.state f.state f'.state

  abbrev pub Away : Frame → Type 0
  Away f = f.function.in_module ≡ n → AtCall x f.state.rest → ⊥

  -- the copy is at a copied operation
  abbrev pub Copying : State → Type 0
  Copying s' = (k : ℕ) × (rest : List ℕ) × (s'.rest ≡ k ∷ rest) × IsCopy m t u x k × Behind m c t u x symbol h k rest

  -- ---- steps of frames

  abbrev pub LoneNext : Frame → Frame → Next → Next → Type 0
  LoneNext f f' o o' = NextSeen (λ a b. Lone (record f { state = a }) (record f' { state = b })) o o'

  seen_self : (y : Sight) → SeenSame y y
  seen_self (Ended ds es) = refl
  seen_self (Trapped es) = tt
  seen_self (Reached es) = refl

  same_next : (f : Frame) → (f.function.in_module ≡ n → ⊥) → (o : Next) → LoneNext f f o o
  same_next f ne (Continues a) = Elsewhere ne refl
  same_next f ne (Over y) = seen_self y

  pub lone_step : (f f' : Frame) → Lone f f' → Away f → LoneNext f f' (before f) (after f')
  lone_step f f' (Elsewhere ne e) away = subst (λ z. LoneNext f z (before f) (after z)) e (subst (λ y. LoneNext f f (before f) (step m y f.state)) (sym (there_tree p n u f.function.in_module ne)) (same_next f ne (before f)))
  lone_step f f' (Here root fe fe' ce fit on r) away = subst (λ o. LoneNext f f' o (after f')) (sym (before_here f root fe)) (subst (λ o. LoneNext f f' (step m t f.state) o) (sym (after_here f' root fe'))
      (go (step m t f.state) (step m u f'.state) refl (caller_seen m c t u x symbol w w' h f.state f'.state r (away (ap (λ g. g.in_module) fe)) (λ k ks e. live_on m t w root fit f.state on k ks e) (λ k ks e a. let y = ready_on m t w root fit f.state on k ks e a in (y.input, y.has_data)))))
    where
      go : (o o' : Next) → step m t f.state ≡ o → NextSeen CallerPair o o' → LoneNext f f' o o'
      go (Continues a) (Continues b) e y = Here root fe fe' ce fit (stays_on m t w root fit f.state a on e) y
      go (Over y) (Over z) e s = s
      go (Continues a) (Over z) e s = absurd s
      go (Over y) (Continues b) e s = absurd s

  abbrev pub JoinedNext : Frame → Frame → Frame → Next → Next → Type 0
  JoinedNext f g f' o o' = NextInside (λ a b. Joined (record f { state = a }) g (record f' { state = b })) o o'

  pub joined_step : (f g f' : Frame) → Joined f g f' → Copying f'.state → JoinedNext f g f' (before f) (after f')
  joined_step f g f' r (k, rest, e, y, b) = subst (λ o. JoinedNext f g f' o (after f')) (sym (before_here f x.callee r.callee)) (subst (λ o. JoinedNext f g f' (step m t f.state) o) (sym (after_here f' r.root r.function_after))
      (go (step m t f.state) (step m u f'.state) refl (copied_step m c t u x symbol h g.state f.state f'.state r.inside k rest e y b (λ a. let z = ready_on m t w x.callee callee_fit f.state r.on_way (x.originals.operation k) (map x.originals.operation rest) (r.inside.place ∙ ap (map x.originals.operation) e) a in (z.input, z.has_data)))))
    where
      go : (o o' : Next) → step m t f.state ≡ o → NextInside (InCopy m c t u x symbol h g.state) o o' → JoinedNext f g f' o o'
      go (Continues a) (Continues b) e y = record {
        callee = r.callee;
        caller = r.caller;
        on_way = stays_on m t w x.callee callee_fit f.state a r.on_way e;
        root = r.root;
        function = r.function;
        function_after = r.function_after;
        outer = r.outer;
        fit = r.fit;
        caller_on_way = r.caller_on_way;
        rest = r.rest;
        memo = r.memo;
        answer = r.answer;
        quiet = r.quiet;
        inside = y;
      }
      go (Over y) (Over z) e s = s
      go (Continues a) (Over z) e s = absurd s
      go (Over y) (Continues b) e s = absurd s

  -- ---- answers

  pub lone_answered : (f f' : Frame) (d : Datum) → Lone f f' → Lone (with_answer f d) (with_answer f' d)
  lone_answered f f' d (Elsewhere ne e) = Elsewhere ne (ap (λ z. with_answer z d) e)
  lone_answered f f' d (Here root fe fe' ce fit on r) = Here root fe fe' ce fit (world_on m t w root fit f.state (f.state.world ++ d ∷ []) on) (record {
    environment = r.environment;
    memo = r.memo;
    answer = r.answer;
    place = r.place;
    waiting = r.waiting;
    world = ap (λ ws. ws ++ d ∷ []) r.world;
    effects = refl;
  })

  pub joined_answered : (f g f' : Frame) (d : Datum) → Joined f g f' → Joined (with_answer f d) g (with_answer f' d)
  joined_answered f g f' d r = record {
    callee = r.callee;
    caller = r.caller;
    on_way = world_on m t w x.callee callee_fit f.state (f.state.world ++ d ∷ []) r.on_way;
    root = r.root;
    function = r.function;
    function_after = r.function_after;
    outer = r.outer;
    fit = r.fit;
    caller_on_way = r.caller_on_way;
    rest = r.rest;
    memo = r.memo;
    answer = r.answer;
    quiet = r.quiet;
    inside = record {
      caller = r.inside.caller;
      copy = r.inside.copy;
      place = r.inside.place;
      stands = r.inside.stands;
      memo = r.inside.memo;
      answer = r.inside.answer;
      world = ap (λ ws. ws ++ d ∷ []) r.inside.world;
      root = r.inside.root;
      waits = r.inside.waits;
      root_rest = r.inside.root_rest;
      inputs = r.inside.inputs;
      root_memo = r.inside.root_memo;
      around = r.inside.around;
      inner = r.inside.inner;
      others = r.inside.others;
      held = r.inside.held;
    };
  }

  -- the frame goes on once it is answered, and takes the answer
  abbrev pub IsAsking : Tree → State → Type 0
  IsAsking y s = (s.world ≡ []) × ((d : Datum) → (a : State) × (step m y (with_world s d) ≡ Continues a) × (a.world ≡ []))

  pub quiet_step : (y : Tree) (s a : State) → s.world ≡ [] → step m y s ≡ Continues a → a.world ≡ []
  quiet_step y s a e g = subst (λ o. Asks o (step m y (with_world s Empty))) g (step_asks Empty m y s e)

  pub asking : (y : Tree) (s : State) (es : List Datum) → s.world ≡ [] → step m y s ≡ Over (Reached es) → IsAsking y s
  asking y s es e g = (e, λ d. subst (λ o. Asks o (step m y (with_world s d))) g (step_asks d m y s e))

  pub answer_step : (y : Tree) (s : State) (d : Datum) (k : IsAsking y s) → step m y (record s { world = s.world ++ d ∷ [] }) ≡ Continues (k.1 d).0
  answer_step y s d k = ap (λ ws. step m y (record s { world = ws ++ d ∷ [] })) k.0 ∙ (k.1 d).1

  -- ---- a function begins

  gone : (k : ℕ) → head_of u k ≡ None → (root : ℕ) → IsLive u root → root ≡ k → ⊥
  gone k none root alive e = let y = some_of (head_of u k) (subst (IsLive u) e alive) in not_none (sym none ∙ y.1)

  not_deleted : (root : ℕ) → IsLive u root → (root ≡ x.call → ⊥) × (root ≡ x.jump → ⊥)
  not_deleted root alive = (gone x.call h.deleted.0 root alive, gone x.jump h.deleted.1 root alive)

  begun_here : (root : ℕ) → IsFit m t root → IsLive u root → (ds : List Datum) → CallerPair (start root ds []) (start root ds [])
  begun_here root fit alive ds = let apart = not_deleted root alive in record {
    environment = λ v d k e. e;
    memo = refl;
    answer = refl;
    place = (inl (apart.0, apart.1, refl, tt), λ e. absurd (apart.0 e));
    waiting = tt;
    world = refl;
    effects = refl;
  }

  pub lone_begun : (g : Function) → IsFitIn m p g → IsLiveIn q g → (ds : List Datum) (who : Caller) → Lone (frame_of g ds who) (frame_of g ds who)
  lone_begun g fit alive ds who = ⊎_elim here (λ ne. Elsewhere ne refl) (cases_eq g.in_module n)
    where
      here : g.in_module ≡ n → Lone (frame_of g ds who) (frame_of g ds who)
      here e =
          let fit' : IsFit m t g.root = subst (λ i. IsFit m (p i) g.root) e fit in
          let alive' : IsLive u g.root = subst (λ y. IsLive y g.root) (here_tree p n u) (subst (λ i. IsLive (q i) g.root) e alive) in
          let same : g ≡ fn g.root = ap (λ i. record { in_module = i; root = g.root }) e in
          Here g.root same same refl fit' (starts_on m t w g.root fit' ds []) (begun_here g.root fit' alive' ds)
