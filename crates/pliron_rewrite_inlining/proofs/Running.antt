-- What is known of a frame of a function that is fit to run, and of binding values.
use Rattle.std.proofs.Common.{◌≡◌, inl, inr, ℕ, List, [], ◌∷◌, length, Some, None, refl, sym, ap₂, ◌∙◌, subst, arith}
use Rattle.pliron_core.specs.Lists.{IsDistinct}
use Rattle.pliron_core.specs.Tree.{Tree, IsLive, IsWithin}
use Rattle.pliron_core.specs.Invariant.{IsTree}
use Rattle.pliron_core.proofs.HoldingLemmas.{inside_up, holder_live}
use Rattle.pliron_laws.specs.Datum.{Datum, Meaning}
use Rattle.pliron_laws.specs.Machine.{Environment, State, Continues, environment_with, bind, prepend_optional, data_of, start, step}
use Rattle.pliron_laws.proofs.BindingLemmas.{bind_other, bound_it}
use Rattle.pliron_theory.specs.Keeps.{IsFit}
use Rattle.pliron_theory.proofs.Simulation.{IfGoes}
use Rattle.pliron_theory.proofs.Bound.{IsOnWay, IsReady, IsAt, at_within, way_kept, way_start, ready}

module _ (m : Meaning) (t : Tree) (w : IsTree t) (root : ℕ) (fit : IsFit m t root) where
  abbrev pub OnWay : State → Type 0
  OnWay s = IsOnWay t w root m fit.linked.edges fit.defined s

  pub starts_on : (inputs world : List Datum) → OnWay (start root inputs world)
  starts_on inputs world = way_start t w root m fit.linked.edges fit.defined inputs world

  pub stays_on : (s a : State) → OnWay s → step m t s ≡ Continues a → OnWay a
  stays_on s a o e = subst (λ z. IfGoes z OnWay) e ((way_kept t w root m fit.linked.edges fit.defined).keeps s o)

  pub world_on : (s : State) (world : List Datum) → OnWay s → OnWay (record s { world = world })
  unfolding IsOnWay
  world_on s world o = record { holder = o.holder; always = o.always; place = o.place; below = o.below }

  -- where an operation reads its operands, they have data, and its region is in a frame
  pub ready_on : (s : State) → OnWay s → (k : ℕ) (rest : List ℕ) → s.rest ≡ k ∷ rest → s.answer ≡ None → IsReady t w root m fit.linked.edges fit.defined s k rest
  ready_on s o k rest e a = ready t w root m fit.linked.edges fit.defined s o k rest e a

  live_within : (k : ℕ) → IsWithin t root k → IsLive t k
  live_within k (inl e) = subst (IsLive t) (sym e) fit.live
  live_within k (inr i) = let y = inside_up i in (holder_live t k y.0 w.joined y.1).0

  pub live_on : (s : State) → OnWay s → (k : ℕ) (rest : List ℕ) → s.rest ≡ k ∷ rest → IsLive t k
  unfolding IsOnWay
  live_on s o k rest e = live_within k (at_within t w root s.environment o.holder k rest (subst (IsAt t root s.environment o.holder) e o.place.0))

pub binds : (vs : List ℕ) (ds : List Datum) (env : Environment) → length ds ≡ length vs → (env1 : Environment) × (bind env vs ds ≡ Some env1)
binds [] [] env e = (env, refl)
binds [] (d ∷ ds) env e = grind arith
binds (v ∷ vs) [] env e = grind arith
binds (v ∷ vs) (d ∷ ds) env e = binds vs ds (environment_with env v d) (omega (arith, e))

-- values that were bound are read as what they were bound to
pub bound_read : (vs : List ℕ) → IsDistinct vs → (ds : List Datum) (env env1 : Environment) → bind env vs ds ≡ Some env1 → data_of env1 vs ≡ Some ds
bound_read [] once [] env env1 e = refl
bound_read [] once (d ∷ ds) env env1 e = grind arith
bound_read (v ∷ vs) once [] env env1 e = grind arith
bound_read (v ∷ vs) once (d ∷ ds) env env1 e = ap₂ prepend_optional (bind_other vs ds (environment_with env v d) env1 e v once.0 ∙ bound_it env v d v refl) (bound_read vs once.1 ds (environment_with env v d) env1 e)
