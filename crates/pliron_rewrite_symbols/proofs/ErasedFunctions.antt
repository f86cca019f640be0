-- Linked runs where functions were erased that nothing calls.
use Rattle.std.proofs.Common.{◌≡◌, ◌≢◌, ◌⊎◌, inl, inr, ⊎_elim, ℕ, List, [], ◌∷◌, Some, refl, sym, ap, ◌∙◌, subst}
use Rattle.std.specs.Prelude.{if◌then◌else◌}
use Rattle.std.proofs.lemmas.Bool.Decides.{eqb_tells}
use Rattle.pliron_core.specs.Tree.{Tree, IsLive, IsWithin, head_of, parent_operation_of}
use Rattle.pliron_core.specs.Invariant.{IsTree}
use Rattle.pliron_laws.specs.Datum.{Datum, Meaning}
use Rattle.pliron_laws.specs.Machine.{State, Reached, Next, Continues, Over, step, start}
use Rattle.pliron_laws.specs.Agree.{Shows}
use Rattle.pliron_theory.specs.Keeps.{IsFit, KeepsRuns}
use Rattle.pliron_theory.proofs.Keeping.{keeps_refl}
use Rattle.pliron_theory.proofs.Bound.{IsAt, IsOnWay, at_within, way_kept, way_start}
use Rattle.pliron_theory.proofs.Simulation.{IfGoes}
use Rattle.pliron_pass_linked.specs.Calls.{Call, CallingConvention}
use Rattle.pliron_pass_linked.specs.LinkedRuns.{Program, Function, Linker, Reply}
use Rattle.pliron_pass_linked.specs.LinkedAgree.{AgreeOnInputs}
use Rattle.pliron_pass_linked.specs.KeepsLinked.{IsLiveIn, IsFitIn, IsLinker, with_module}
use Rattle.pliron_pass_linked.proofs.LinkedAgree.{agree_on_inputs}
use Rattle.pliron_rewrite_symbols.specs.ErasedFunctions.{IsFunctionIn, MayCall, CallNoErased, StandsForLive, LinksDirectly, ErasedFunctionsLaw}
use Rattle.pliron_rewrite_symbols.proofs.ShownEffects.{shown_comes}

-- a call that a run of the root shows comes from an operation within the root
called_within : (m : Meaning) (c : CallingConvention) (t : Tree) (w : IsTree t) (root : ℕ) → IsFit m t root → (inputs world es : List Datum) (e : Datum) (call : Call) → Shows (step m t) (start root inputs world) (Reached (e ∷ es)) → c.call_of e ≡ Some call → (k : ℕ) × IsWithin t root k × MayCall m c t k call.symbol
unfolding IsOnWay
called_within m c t w root fit inputs world es e call shows is = shown_comes m c t (IsWithin t root) (IsOnWay t w root m fit.linked.edges fit.defined) (way_kept t w root m fit.linked.edges fit.defined) here (start root inputs world) (way_start t w root m fit.linked.edges fit.defined inputs world) refl e es shows call is
  where
    here : (s : State) → IsOnWay t w root m fit.linked.edges fit.defined s → (k : ℕ) (rest : List ℕ) → s.rest ≡ k ∷ rest → IsWithin t root k
    here s on k rest e = at_within t w root s.environment on.holder k rest (subst (λ r. IsAt t root s.environment on.holder r) e on.place.0)

-- any call that a run shows comes from an operation of the tree
called_somewhere : (m : Meaning) (c : CallingConvention) (t : Tree) (root : ℕ) (inputs world es : List Datum) (e : Datum) (call : Call) → Shows (step m t) (start root inputs world) (Reached (e ∷ es)) → c.call_of e ≡ Some call → (k : ℕ) × MayCall m c t k call.symbol
called_somewhere m c t root inputs world es e call shows is =
    let x = shown_comes m c t (λ k. Unit {0}) (λ s. Unit {0}) (record { keeps = λ s on. goes (step m t s) }) (λ s on k rest e. tt) (start root inputs world) tt refl e es shows call is in
    (x.0, x.2)
  where
    goes : (o : Next) → IfGoes o (λ s. Unit {0})
    goes (Continues s) = tt
    goes (Over x) = tt

module _ (m : Meaning) (c : CallingConvention) (p : Program) (n : ℕ) (t u : Tree) (holder : ℕ) (is : p n ≡ t) (w : IsTree u) (keeps : KeepsRuns m t u) (closed : CallNoErased m c t u holder) (link : Linker) (l : IsLinker m c p link) (names : LinksDirectly m c link p (with_module p n u) n holder) where
  abbrev q : Program
  q = with_module p n u

  here : (i : ℕ) → i ≡ n → q i ≡ u
  unfolding with_module
  here i at = ⊎_elim (λ y. ap (λ b. if b then u else p i) y.0) (λ y. absurd (y.1 at)) (eqb_tells i n)

  elsewhere : (i : ℕ) → i ≢ n → q i ≡ p i
  unfolding with_module
  elsewhere i ne = ⊎_elim (λ y. absurd (ne y.1)) (λ y. ap (λ b. if b then u else p i) y.0) (eqb_tells i n)

  each : (i : ℕ) → KeepsRuns m (p i) (q i)
  each i = ⊎_elim
      (λ y. subst (KeepsRuns m (p i)) (sym (here i y.1)) (subst (λ x. KeepsRuns m x u) (sym (ap p y.1 ∙ is)) keeps))
      (λ y. subst (KeepsRuns m (p i)) (sym (elsewhere i y.1)) (keeps_refl m (p i)))
      (eqb_tells i n)

  -- it was fit, is still live, and is directly in the operation where it is of this holder
  abbrev Meets : Function → Type 0
  Meets f = IsFitIn m p f × IsLiveIn q f × (f.in_module ≡ n → (name : Datum) × IsFunctionIn c t holder f.root name)

  named_here : (i : ℕ) (name : Datum) (g : Function) → link i name ≡ Some g → g.in_module ≡ n → IsFunctionIn c t holder g.root name
  named_here i name g e at =
      let x = l.named i name g e in
      record {
        parent = subst (λ z. parent_operation_of z g.root ≡ Some holder) is (names.direct i name g e at);
        head = x.0;
        has = subst (λ z. head_of z g.root ≡ Some x.0) (ap p at ∙ is) x.1;
        named = x.2;
      }

  linked_meets : (i : ℕ) (name : Datum) (g : Function) → link i name ≡ Some g → IsLiveIn q g → Meets g
  linked_meets i name g e live = (l.fit i name g e, live, λ at. (name, named_here i name g e at))

  -- what a function of the holder calls is live
  called_here : (f g : Function) (inputs world es : List Datum) (e : Datum) (call : Call) → Meets f → f.in_module ≡ n → Shows (step m (q f.in_module)) (start f.root inputs world) (Reached (e ∷ es)) → c.call_of e ≡ Some call → link f.in_module call.symbol ≡ Some g → IsLiveIn q g
  called_here f g inputs world es e call meets at shows is_call leads = ⊎_elim
      (λ y. subst (λ z. IsLive z g.root) (sym (here g.in_module y.1)) (closed f.root g.root x.0 (meets.2 at).0 call.symbol (meets.2 at).1
      (subst (λ z. IsLive z f.root) (here f.in_module at) meets.1)
      (subst (λ z. IsWithin z f.root x.0) (here f.in_module at) x.1)
      (subst (λ z. MayCall m c z x.0 call.symbol) (here f.in_module at) x.2)
      (named_here f.in_module call.symbol g leads y.1)))
      (λ y. subst (λ z. IsLive z g.root) (sym (elsewhere g.in_module y.1)) (l.fit f.in_module call.symbol g leads).live)
      (eqb_tells g.in_module n)
    where
      x : (k : ℕ) × IsWithin (q f.in_module) f.root k × MayCall m c (q f.in_module) k call.symbol
      x = called_within m c (q f.in_module) (subst IsTree (sym (here f.in_module at)) w) f.root ((each f.in_module).stays f.root meets.0 meets.1) inputs world es e call shows is_call

  called_live : (f g : Function) (inputs world es : List Datum) (e : Datum) (call : Call) → Meets f → Shows (step m (q f.in_module)) (start f.root inputs world) (Reached (e ∷ es)) → c.call_of e ≡ Some call → link f.in_module call.symbol ≡ Some g → IsLiveIn q g
  called_live f g inputs world es e call meets shows is_call leads = ⊎_elim
      (λ y. called_here f g inputs world es e call meets y.1 shows is_call leads)
      (λ y. let x = called_somewhere m c (q f.in_module) f.root inputs world es e call shows is_call in names.others f.in_module x.0 call.symbol y.1 x.1 g leads)
      (eqb_tells f.in_module n)

  pub agree_where_left : AgreeOnInputs m c link (StandsForLive link q) (λ f inputs. Meets f) p q
  agree_where_left = record {
    alike = λ f inputs world meets. ((each f.in_module).agrees f.root meets.0 meets.1).alike inputs world;
    calls = λ f g inputs world es e call meets shows is_call leads.
        linked_meets f.in_module call.symbol g leads (called_live f g inputs world es e call meets ((((each f.in_module).agrees f.root meets.0 meets.1).alike inputs world (Reached (e ∷ es))).0 shows) is_call leads);
    exports = λ i name f inputs stands leads. linked_meets i name f leads (stands f leads);
  }

pub functions_erased : ErasedFunctionsLaw
functions_erased m c t u holder w keeps closed p n is link l names f fit live directly inputs world back =
    agree_on_inputs m c link (StandsForLive link (with_module p n u)) (λ f inputs. Meets m c p n t u holder is w keeps closed link l names f) p (with_module p n u) (agree_where_left m c p n t u holder is w keeps closed link l names) f inputs world (fit, live, directly) back
