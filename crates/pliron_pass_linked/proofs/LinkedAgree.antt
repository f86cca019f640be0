-- Linked runs of two programs whose functions agree on the inputs that they are called on.
use Rattle.std.proofs.Common.{◌≡◌, ℕ, zero, suc, List, [], ◌∷◌, refl, sym, ap, ◌∙◌, subst, IsTrue}
use Rattle.pliron_laws.specs.Datum.{Datum, Meaning}
use Rattle.pliron_laws.specs.Machine.{State, Sight, Reached, Next, Continues, Over, step, run_from, onward, start}
use Rattle.pliron_pass_linked.specs.Calls.{CallingConvention}
use Rattle.pliron_pass_linked.specs.LinkedRuns.{Program, Function, Linker, Reply, Answer, Callback, World, LinkedState, LinkedNext, Goes, Stops, after_sight, after_step, with_state, linked_step, goes_on, linked_from, linked_start, linked_sight}
use Rattle.pliron_pass_linked.specs.LinkedAgree.{LinkedShows, LinkedSeenAlike, AgreesAlone, CallsBackOnly, AgreeOnInputs}
use Rattle.pliron_pass_linked.specs.LinkedLaws.{LinkedRunsAgree, LinkedRunsAgreeOnInputs}
use Rattle.pliron_pass_linked.proofs.Meeting.{goes_same, not_over, one_more, IsMet}
use Rattle.pliron_pass_linked.proofs.Linking.{Related, NextRelated, follows, begun_alike, sight_related}

by_step : (m : Meaning) (c : CallingConvention) (link : Linker) (p : Program) (s : LinkedState) (o : Next) → step m (p s.top.function.in_module) s.top.state ≡ o → linked_step m c link p s ≡ after_step c link s o
unfolding linked_step
by_step m c link p s o e = ap (λ o. after_step c link s o) e

-- the steps of the frame on top
lifted : (m : Meaning) (c : CallingConvention) (link : Linker) (p : Program) (n : ℕ) (s : LinkedState) (z : State) → run_from (step m (p s.top.function.in_module)) n s.top.state ≡ Continues z → linked_from (linked_step m c link p) n s ≡ Goes (with_state s z)
lifted m c link p zero s z e = ap (λ z. Goes (with_state s z)) (goes_same s.top.state z e)
lifted m c link p (suc n) s z e = go (step m (p s.top.function.in_module) s.top.state) refl e (λ a h. lifted m c link p n (with_state s a) z h)
  where
    go : (o : Next) → step m (p s.top.function.in_module) s.top.state ≡ o → onward o (run_from (step m (p s.top.function.in_module)) n) ≡ Continues z → ((a : State) → run_from (step m (p s.top.function.in_module)) n a ≡ Continues z → linked_from (linked_step m c link p) n (with_state s a) ≡ Goes (with_state s z)) → linked_from (linked_step m c link p) (suc n) s ≡ Goes (with_state s z)
    go (Continues a) h k again = ap (λ o. goes_on o (linked_from (linked_step m c link p) n)) (by_step m c link p s (Continues a) h) ∙ again a k
    go (Over x) h k again = absurd (not_over x z k)

linked_same : (a b : LinkedState) → Goes a ≡ Goes b → a ≡ b
linked_same a b e = cc

not_stopped : (x : Sight) (a : LinkedState) → Stops x ≡ Goes a → ⊥
not_stopped x a e = cc

-- what is shown after some steps is shown
shows_later : (f : LinkedState → LinkedNext) (n : ℕ) (s a : LinkedState) (x : Sight) → linked_from f n s ≡ Goes a → LinkedShows f a x → LinkedShows f s x
shows_later f zero s a x e h = subst (λ z. LinkedShows f z x) (sym (linked_same s a e)) h
shows_later f (suc n) s a x e h = go (f s) refl e (λ b k. shows_later f n b a x k h)
  where
    go : (o : LinkedNext) → f s ≡ o → goes_on o (linked_from f n) ≡ Goes a → ((b : LinkedState) → linked_from f n b ≡ Goes a → LinkedShows f b x) → LinkedShows f s x
    go (Goes b) g k again = let w = again b k in (suc w.0, ap (λ p. linked_sight (goes_on p (linked_from f w.0))) g ∙ w.1)
    go (Stops y) g k again = absurd (not_stopped y a k)

module _ (m : Meaning) (c : CallingConvention) (link : Linker) (exported : ℕ → Datum → Type 0) (precondition : Function → List Datum → Type 0) (p q : Program) (h : AgreeOnInputs m c link exported precondition p q) where
  abbrev Pair : LinkedState → LinkedState → Type 0
  Pair s s' = Related m c link exported precondition p q h s s'

  abbrev Follow : ℕ → Type 0
  Follow n = (a b : LinkedState) → Pair a b → LinkedShows (linked_step m c link q) b (linked_sight (linked_from (linked_step m c link p) n a))

  next_shown : (n : ℕ) (s : LinkedState) (o o' : LinkedNext) → linked_step m c link q s ≡ o' → Follow n → NextRelated m c link exported precondition p q h o o' → LinkedShows (linked_step m c link q) s (linked_sight (goes_on o (linked_from (linked_step m c link p) n)))
  next_shown n s (Goes a) (Goes b) e again r = let w = again a b r in (suc w.0, ap (λ o. linked_sight (goes_on o (linked_from (linked_step m c link q) w.0))) e ∙ w.1)
  next_shown n s (Stops x) (Stops y) e again r = (1, ap (λ o. linked_sight (goes_on o (linked_from (linked_step m c link q) zero))) e ∙ sym r)
  next_shown n s (Goes a) (Stops y) e again r = absurd r
  next_shown n s (Stops x) (Goes b) e again r = absurd r

  moved : (s s' : LinkedState) (a : State) → Pair s s' → step m (p s.top.function.in_module) s.top.state ≡ Continues a → Pair (with_state s a) s'
  moved s s' a r e = record {
    top = record {
      inputs = r.top.inputs;
      answers = r.top.answers;
      meets = r.top.meets;
      left_steps = suc r.top.left_steps;
      left = one_more (step m (p s.top.function.in_module)) r.top.left_steps (start s.top.function.root r.top.inputs r.top.answers) s.top.state (Continues a) r.top.left e;
      right_steps = r.top.right_steps;
      right = r.top.right;
      function = r.top.function;
      caller = r.top.caller;
    };
    below = r.below;
    world = r.world;
    calls_back = r.calls_back;
    effects = r.effects;
  }

  caught : (s s' : LinkedState) (x : Sight) (r : Pair s s') (w : IsMet (step m (q s.top.function.in_module)) (start s.top.function.root r.top.inputs r.top.answers) s'.top.state x) → Pair s (with_state s' w.ends.last)
  caught s s' x r w = record {
    top = record {
      inputs = r.top.inputs;
      answers = r.top.answers;
      meets = r.top.meets;
      left_steps = r.top.left_steps;
      left = r.top.left;
      right_steps = w.steps;
      right = w.comes;
      function = r.top.function;
      caller = r.top.caller;
    };
    below = r.below;
    world = r.world;
    calls_back = r.calls_back;
    effects = r.effects;
  }

  over_shown : (n : ℕ) (s s' : LinkedState) (x : Sight) (r : Pair s s') → step m (p s.top.function.in_module) s.top.state ≡ Over x → Follow n → LinkedShows (linked_step m c link q) s' (linked_sight (goes_on (after_sight c link s x) (linked_from (linked_step m c link p) n)))
  over_shown n s s' x r e again = shows_later (linked_step m c link q) w.ends.steps s' (with_state s' w.ends.last) _ (lifted m c link q w.ends.steps s' w.ends.last (subst (λ f. run_from (step m (q f.in_module)) w.ends.steps s'.top.state ≡ Continues w.ends.last) r.top.function w.ends.comes)) (next_shown n (with_state s' w.ends.last) (after_sight c link s x) (after_sight c link (with_state s' w.ends.last) x) (by_step m c link q (with_state s' w.ends.last) (Over x) (subst (λ f. step m (q f.in_module) w.ends.last ≡ Over x) r.top.function w.ends.over)) again (sight_related m c link exported precondition p q h s (with_state s' w.ends.last) x (caught s s' x r w) e))
    where
      w : IsMet (step m (q s.top.function.in_module)) (start s.top.function.root r.top.inputs r.top.answers) s'.top.state x
      w = follows m c link exported precondition p q h s.top s'.top x r.top e

  followed : (n : ℕ) → Follow n
  followed zero s s' r = (zero, ap Reached (sym r.effects))
  followed (suc n) s s' r = go (step m (p s.top.function.in_module) s.top.state) refl (followed n)
    where
      go : (o : Next) → step m (p s.top.function.in_module) s.top.state ≡ o → Follow n → LinkedShows (linked_step m c link q) s' (linked_sight (linked_from (linked_step m c link p) (suc n) s))
      go (Continues a) e again = subst (λ o. LinkedShows (linked_step m c link q) s' (linked_sight (goes_on o (linked_from (linked_step m c link p) n)))) (sym (by_step m c link p s (Continues a) e)) (again (with_state s a) s' (moved s s' a r e))
      go (Over x) e again = subst (λ o. LinkedShows (linked_step m c link q) s' (linked_sight (goes_on o (linked_from (linked_step m c link p) n)))) (sym (by_step m c link p s (Over x) e)) (over_shown n s s' x r e again)

  pub one_way : (f : Function) (inputs : List Datum) (world : List Reply) → precondition f inputs → CallsBackOnly exported world → (x : Sight) → LinkedShows (linked_step m c link p) (linked_start f inputs world) x → LinkedShows (linked_step m c link q) (linked_start f inputs world) x
  one_way f inputs world w k x e = subst (λ y. LinkedShows (linked_step m c link q) (linked_start f inputs world) y) e.1 (followed e.0 (linked_start f inputs world) (linked_start f inputs world) (record { top = begun_alike m c link exported precondition p q h f inputs World w; below = tt; world = refl; calls_back = k; effects = refl }))

-- the other way round
turned : (m : Meaning) (c : CallingConvention) (link : Linker) (exported : ℕ → Datum → Type 0) (precondition : Function → List Datum → Type 0) (p q : Program) → AgreeOnInputs m c link exported precondition p q → AgreeOnInputs m c link exported precondition q p
turned m c link exported precondition p q h = record {
  alike = λ f inputs world w x. ((h.alike f inputs world w x).1, (h.alike f inputs world w x).0);
  calls = λ f g inputs world es e call w shows k l. h.calls f g inputs world es e call w ((h.alike f inputs world w (Reached (e ∷ es))).1 shows) k l;
  exports = h.exports;
}

-- for any inputs, and not those alone that a table has
pub agree_on_inputs : (m : Meaning) (c : CallingConvention) (link : Linker) (exported : ℕ → Datum → Type 0) (precondition : Function → List Datum → Type 0) (p q : Program) → AgreeOnInputs m c link exported precondition p q → (f : Function) (inputs : List Datum) (world : List Reply) → precondition f inputs → CallsBackOnly exported world → LinkedSeenAlike m c link p q f inputs world
agree_on_inputs m c link exported precondition p q h f inputs world w k x = (one_way m c link exported precondition p q h f inputs world w k x, one_way m c link exported precondition q p (turned m c link exported precondition p q h) f inputs world w k x)

pub tables_agree : LinkedRunsAgreeOnInputs
tables_agree m c link exported precondition p q h f inputs world w k = agree_on_inputs m c link (λ n symbol. IsTrue (exported n symbol)) (λ f inputs. IsTrue (precondition f inputs)) p q h f inputs world w k

any_world : (world : List Reply) → CallsBackOnly (λ n symbol. Unit {0}) world
any_world [] = tt
any_world (Answer d ∷ world) = any_world world
any_world (Callback n symbol ds ∷ world) = (tt, any_world world)

pub linked_agree : LinkedRunsAgree
linked_agree m c link p q f named a = record { alike = λ inputs world. agree_on_inputs m c link (λ n symbol. Unit {0}) (λ g inputs. AgreesAlone m p q g) p q each f inputs world a (any_world world) }
  where
    each : AgreeOnInputs m c link (λ n symbol. Unit {0}) (λ g inputs. AgreesAlone m p q g) p q
    each = record {
      alike = λ g inputs world w. w.alike inputs world;
      calls = λ f g inputs world es e call w shows k l. named f.in_module call.symbol g l;
      exports = λ n symbol g inputs w l. named n symbol g l;
    }
