-- Passes that report accurately whether they changed the tree.
use Rattle.std.specs.Prelude.{◌≡◌, ℕ, Ok}
use Rattle.pliron_core.specs.Changes.{IsSameTree}
use Rattle.pliron_core.specs.declared.attrs.IRStatus.TheVariants.{Unchanged}
use Rattle.pliron_pass.specs.Answer.{has_changed}
use Rattle.pliron_pass.specs.Outcome.{OutcomeOf}
use Rattle.pliron_pass.specs.Stage.{Stage}
use Rattle.pliron_pass.specs.declared.result.PassResult.{PassResult}

-- where it answers `Unchanged`, the tree is the same but for erased handles
pub record IsAccurate {P K E : Type 0} (outcome : OutcomeOf P K E) : Type 0 where
  pub same : (p p' : P) (op : ℕ) (s s' : Stage K E) (a : PassResult K) → outcome p p' op s s' (Ok a) → has_changed a ≡ Unchanged → IsSameTree s.tree s'.tree
