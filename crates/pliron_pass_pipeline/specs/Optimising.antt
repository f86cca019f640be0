-- What a pass makes of an optimisation.
use Rattle.std.specs.Prelude.{◌≡◌, ℕ, Bool, true, List, [], if◌then◌else◌, Result, Ok, Err}
use Rattle.pliron_core.specs.Tree.{Tree}
use Rattle.pliron_core.specs.Changes.{IsSameTree}
use Rattle.pliron_core.specs.declared.attrs.IRStatus.TheVariants.{Unchanged}
use Rattle.pliron_laws.specs.declared.fault.OptError.{OptError}
use Rattle.pliron_laws.specs.declared.fault.OptError.TheVariants.{Memory}
use Rattle.pliron_theory.specs.Edges.{KeepsEdges}
use Rattle.pliron_pass.specs.Stage.{Stage}
use Rattle.pliron_pass.specs.Answer.{has_changed, kept_kinds}
use Rattle.pliron_pass.specs.Optimising.{edge_kinds}
use Rattle.pliron_pass.specs.declared.result.PassResult.{PassResult}
use Rattle.pliron_pass_pipeline.specs.declared.optimisation.Effect.{Effect}

-- what is reported of two trees is so: `Unchanged` says that they are the same but for erased handles
pub record IsAccurateAnswer (t u : Tree) (effect : Effect) : Type 0 where
  pub same : effect.status ≡ Unchanged → IsSameTree t u
  pub edges : effect.keeps_edges ≡ true → KeepsEdges t u

-- the kinds that are preserved: where all edges stay those in the cache that read edges alone, else none
abbrev pub preserved_kinds : {K E : Type 0} → (K → K → Bool) → (K → Bool) → Bool → List ((K × ℕ) × E) → List K
preserved_kinds eq edges keeps es = if keeps then edge_kinds eq edges es else []

module _ {K E : Type 0} (eq : K → K → Bool) (edges : K → Bool) (outcome : Tree → Tree → ℕ → Result Effect OptError → Type 0) where
  -- the optimisation ran and reported accurately what it did, and cache, configuration and state are as before
  pub data RunsOptimisation (op : ℕ) (s s' : Stage K E) (r : Result (PassResult K) OptError) : Type 0 where
    Optimised : (effect : Effect) (a : PassResult K) → r ≡ Ok a → outcome s.tree s'.tree op (Ok effect) → IsAccurateAnswer s.tree s'.tree effect → has_changed a ≡ effect.status → kept_kinds a ≡ preserved_kinds eq edges effect.keeps_edges s.cache → s'.cache ≡ s.cache → s'.common ≡ s.common → RunsOptimisation op s s' r
    Refused : (e : OptError) → r ≡ Err e → outcome s.tree s'.tree op (Err e) → s'.cache ≡ s.cache → s'.common ≡ s.common → RunsOptimisation op s s' r
    -- the optimisation succeeded, and there was no room for the answer
    Short : (effect : Effect) → r ≡ Err Memory → outcome s.tree s'.tree op (Ok effect) → s'.cache ≡ s.cache → s'.common ≡ s.common → RunsOptimisation op s s' r
