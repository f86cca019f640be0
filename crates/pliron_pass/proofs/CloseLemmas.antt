-- How a combinator ends.
use Rattle.std.proofs.Common.{◌≡◌, ℕ, List, [], ◌∷◌, Bool, Result, Ok, Err, IsOk, IfErr, IfOk, OnOk, refl, sym, ap, ◌∙◌, subst}
use Rattle.std.proofs.lemmas.Bool.{false≢true}
use Rattle.pliron_core.specs.Tree.{Tree}
use Rattle.pliron_core.specs.declared.attrs.IRStatus.{IRStatus}
use Rattle.pliron_laws.specs.declared.fault.OptError.{OptError}
use Rattle.pliron_pass.specs.Stage.{Stage}
use Rattle.pliron_pass.specs.Answer.{FreshAfter, has_changed, kept_kinds}
use Rattle.pliron_pass.specs.Cache.{IsFresh, cached_kinds, retained}
use Rattle.pliron_pass.specs.Combined.{Closes, Closes.Done, Closes.Failed, Closes.Short, IsClosed, empty_stage}
use Rattle.pliron_pass.specs.declared.config.PMData.{PMData}
use Rattle.pliron_pass.specs.declared.result.PassResult.{PassResult}

module _ {K E : Type 0} where
  at : Tree → List ((K × ℕ) × E) → PMData → Stage K E
  at t es d = record { tree = t; cache = es; common = d }

  at_same : (t : Tree) (es es' : List ((K × ℕ) × E)) (d d' : PMData) → es' ≡ es → d' ≡ d → at t es' d' ≡ at t es d
  at_same t es es' d d' e f = ap (λ z. at t z d') e ∙ ap (λ z. at t es z) f

module _ {K E : Type 0} (eq : K → K → Bool) (R : Stage K E → Result IRStatus OptError → Type 0) (t : Tree) (d d' : PMData) (same : d' ≡ d) where
  pub closes : (es es' : List ((K × ℕ) × E)) (ran : Result IRStatus OptError) (r : Result (PassResult K) OptError) → R (record { tree = t; cache = es; common = d }) ran → IsClosed eq ran es es' r → Closes eq R (record { tree = t; cache = es'; common = d' }) r
  unfolding at
  closes es es' ran (Ok a) h c =
      Done a refl (subst (λ s. R s (Ok a.ir_changed)) (sym (at_same t es es' d d' c.2 same)) (subst (λ z. R (at t es d) z) c.0 h)) (c.1 ∙ ap (λ z. cached_kinds eq z) (sym c.2))
  closes es es' (Ok x) (Err e) h c = Short x (at t es d) (ap (λ z. Err z) (c.1 refl)) h (at_same t [] es' d d' c.0 same)
  closes es es' (Err f) (Err e) h c = Failed e (at t es d) refl (subst (λ z. R (at t es d) (Err z)) (sym c.2) h) (at_same t [] es' d d' c.0 same)

-- what ran kept the cache fresh, and the answer preserves all of it
module _ {K E : Type 0} (eq : K → K → Bool) (kind : E → K) (holds : E → ℕ → Tree → Type 0) (t u : Tree) where
  pub closes_fresh : (es es' es'' : List ((K × ℕ) × E)) (ran : Result IRStatus OptError) (r : Result (PassResult K) OptError) → OnOk ran (IsFresh eq kind holds t es → IsFresh eq kind holds u es') → IfOk r (λ a. retained eq (has_changed a) (kept_kinds a) es'' ≡ es') → OnOk r (IsOk ran) → IfOk r (λ a. FreshAfter eq kind holds t es u es'' a)
  closes_fresh es es' es'' ran (Err e) fresh kept ok = kept
  closes_fresh es es' es'' (Ok s) (Ok a) fresh kept ok = λ f. subst (IsFresh eq kind holds u) (sym kept) (fresh f)
  closes_fresh es es' es'' (Err e) (Ok a) fresh kept ok = absurd (false≢true ok)
