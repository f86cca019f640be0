-- What the pass of an optimisation owes, from what the optimisation tells.
use Rattle.std.proofs.Common.{◌≡◌, ℕ, ◌≤◌, ◌<◌, List, [], length, Bool, true, false, Result, Ok, Err, IfOk, IfErr, refl, sym, ap, subst}
use Rattle.std.proofs.lemmas.Bool.{false≢true}
use Rattle.pliron_core.specs.Tree.{Tree, IsLive}
use Rattle.pliron_core.specs.Invariant.{IsTree}
use Rattle.pliron_core.specs.Changes.{IsSameTree}
use Rattle.pliron_core.specs.declared.attrs.IRStatus.{IRStatus}
use Rattle.pliron_core.specs.declared.attrs.IRStatus.TheVariants.{Changed, Unchanged}
use Rattle.pliron_laws.specs.declared.fault.OptError.{OptError}
use Rattle.pliron_laws.specs.declared.fault.OptError.TheVariants.{Memory}
use Rattle.pliron_theory.specs.Edges.{edges_inside}
use Rattle.pliron_pass.specs.Cache.{IsFresh, retained}
use Rattle.pliron_pass.specs.Answer.{FreshAfter, has_changed, kept_kinds}
use Rattle.pliron_pass.specs.Stage.{Stage}
use Rattle.pliron_pass.specs.Optimising.{edge_kinds, Reports}
use Rattle.pliron_pass.specs.declared.result.PassResult.{PassResult}
use Rattle.pliron_pass.proofs.FreshLemmas.{fresh_all, fresh_some, fresh_result}
use Rattle.pliron_pass_pipeline.specs.Optimising.{IsAccurateAnswer, preserved_kinds, RunsOptimisation, RunsOptimisation.Optimised, RunsOptimisation.Short}
use Rattle.pliron_pass_pipeline.specs.declared.optimisation.Effect.{Effect}

accurate : (t u : Tree) (effect : Effect) → IsAccurateAnswer t u effect → effect.keeps_edges ≡ true → Reports t u effect.status
accurate t u effect truly e = go effect.status refl
  where
    go : (status : IRStatus) → effect.status ≡ status → Reports t u status
    go Unchanged s = truly.same s
    go Changed s = truly.edges e

module _ {K E : Type 0} (eq : K → K → Bool) (kind : E → K) (holds : E → ℕ → Tree → Type 0) (edges : K → Bool) (same : (a b : K) → eq a b ≡ true → a ≡ b) (stays : (e : E) (o : ℕ) (t u : Tree) → IsTree t → IsTree u → IsSameTree t u → IsLive u o → holds e o t → holds e o u) (keeps : (e : E) (o : ℕ) (t u : Tree) → IsTree t → IsTree u → edges (kind e) ≡ true → IsLive t o → IsLive u o → edges_inside u o ≡ edges_inside t o → holds e o t → holds e o u) (t u : Tree) (wt : IsTree t) (wu : IsTree u) (grows : length t.operations ≤ length u.operations) (fewer : (o : ℕ) → o < length t.operations → IsLive u o → IsLive t o) (effect : Effect) (truly : IsAccurateAnswer t u effect) where
  -- where all edges stay
  pub fresh_kept : effect.keeps_edges ≡ true → (es : List ((K × ℕ) × E)) (r : Result (PassResult K) OptError) → IfOk r (λ a. has_changed a ≡ effect.status) → IfOk r (λ a. kept_kinds a ≡ edge_kinds eq edges es) → IfOk r (λ a. FreshAfter eq kind holds t es u es a)
  fresh_kept e es r c k = fresh_result eq kind holds edges same stays keeps t u wt wu grows fewer effect.status (accurate t u effect truly e) es r c k

  -- where nothing is preserved
  pub fresh_none : (es : List ((K × ℕ) × E)) (a : PassResult K) → has_changed a ≡ effect.status → kept_kinds a ≡ [] → FreshAfter eq kind holds t es u es a
  fresh_none es a c k f = subst (λ z. IsFresh eq kind holds u (retained eq z (kept_kinds a) es)) (sym c) (subst (λ z. IsFresh eq kind holds u (retained eq effect.status z es)) (sym k) (go effect.status refl))
    where
      go : (status : IRStatus) → effect.status ≡ status → IsFresh eq kind holds u (retained eq status [] es)
      go Unchanged s = fresh_all eq kind holds t u grows fewer es (λ e o lt lu. stays e o t u wt wu (truly.same s) lu) f
      go Changed s = fresh_some eq kind holds t u grows fewer (λ p. false) es (λ p e k lt lu h. absurd (false≢true e)) f

module _ {K E : Type 0} (eq : K → K → Bool) (edges : K → Bool) (outcome : Tree → Tree → ℕ → Result Effect OptError → Type 0) (op : ℕ) (s s' : Stage K E) (cache : s'.cache ≡ s.cache) (common : s'.common ≡ s.common) (effect : Effect) (truly : IsAccurateAnswer s.tree s'.tree effect) where
  pub ran_keeping : effect.keeps_edges ≡ true → (r : Result (PassResult K) OptError) → outcome s.tree s'.tree op (Ok effect) → IfOk r (λ a. has_changed a ≡ effect.status) → IfOk r (λ a. kept_kinds a ≡ edge_kinds eq edges s.cache) → IfErr r (λ e. e ≡ Memory) → RunsOptimisation eq edges outcome op s s' r
  ran_keeping h (Ok a) o c k m = Optimised effect a refl o truly c (subst (λ b. kept_kinds a ≡ preserved_kinds eq edges b s.cache) (sym h) k) cache common
  ran_keeping h (Err e) o c k m = Short effect (ap (λ z. Err z) m) o cache common

  pub ran_losing : effect.keeps_edges ≡ false → (a : PassResult K) → outcome s.tree s'.tree op (Ok effect) → has_changed a ≡ effect.status → kept_kinds a ≡ [] → RunsOptimisation eq edges outcome op s s' (Ok a)
  ran_losing h a o c k = Optimised effect a refl o truly c (subst (λ b. kept_kinds a ≡ preserved_kinds eq edges b s.cache) (sym h) k) cache common
