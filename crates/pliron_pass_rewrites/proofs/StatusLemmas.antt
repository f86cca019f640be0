-- What statuses say: of two rewrites in turn, and of a cache after a pass that preserves nothing.
use Rattle.std.proofs.Common.{◌≡◌, ℕ, List, [], Bool, refl, sym, subst}
use Rattle.pliron_core.specs.Tree.{Tree}
use Rattle.pliron_core.specs.Status.{changed_by_either}
use Rattle.pliron_core.specs.declared.attrs.IRStatus.{IRStatus}
use Rattle.pliron_core.specs.declared.attrs.IRStatus.TheVariants.{Changed, Unchanged}
use Rattle.pliron_pass.specs.Cache.{IsFresh, retained}
use Rattle.pliron_pass.proofs.FreshLemmas.{fresh_emptied}

-- nothing changed in two steps where nothing did in either
pub unchanged_by_both : (c d : IRStatus) → changed_by_either c d ≡ Unchanged → (c ≡ Unchanged) × (d ≡ Unchanged)
unchanged_by_both Changed d e = absurd (cc)
unchanged_by_both Unchanged d e = (refl, e)

-- a cache stays fresh where the tree is as it was, or nothing is kept
pub fresh_unless_changed : {K E : Type 0} (eq : K → K → Bool) (kind : E → K) (holds : E → ℕ → Tree → Type 0) (t u : Tree) (es : List ((K × ℕ) × E)) (kept : List K) (status : IRStatus) → kept ≡ [] → (status ≡ Unchanged → u ≡ t) → IsFresh eq kind holds t es → IsFresh eq kind holds u (retained eq status kept es)
fresh_unless_changed eq kind holds t u es kept Unchanged e same f = subst (λ z. IsFresh eq kind holds z es) (sym (same refl)) f
fresh_unless_changed eq kind holds t u es kept Changed e same f = subst (λ ks. IsFresh eq kind holds u (retained eq Changed ks es)) (sym e) (fresh_emptied eq kind holds u es)
