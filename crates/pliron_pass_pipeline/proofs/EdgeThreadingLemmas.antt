-- What the pass that leads edges past blocks that only jump tells is so.
use Rattle.std.proofs.Common.{◌≡◌, ◌↔◌, false, sym, subst}
use Rattle.std.proofs.lemmas.Bool.{false≢true}
use Rattle.pliron_core.specs.Tree.{Tree}
use Rattle.pliron_core.specs.Changes.{IsSameTree}
use Rattle.pliron_core.specs.declared.attrs.IRStatus.{IRStatus}
use Rattle.pliron_core.specs.declared.attrs.IRStatus.TheVariants.{Unchanged}
use Rattle.pliron_core.proofs.SameTreeLemmas.{same_refl}
use Rattle.pliron_pass_pipeline.specs.Optimising.{IsAccurateAnswer}

pub threaded_truly : (t u : Tree) (status : IRStatus) → (status ≡ Unchanged) ↔ (u ≡ t) → IsAccurateAnswer t u (record { status = status; keeps_edges = false })
threaded_truly t u status exact = record {
  same = λ e. subst (λ z. IsSameTree t z) (sym (exact.0 e)) (same_refl t);
  edges = λ e. absurd (false≢true e);
}
