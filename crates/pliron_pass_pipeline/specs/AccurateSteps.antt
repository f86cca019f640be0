-- Why the pass of an optimisation reports accurately whether it changed the tree.
use Rattle.std.proofs.Common.{◌≡◌, ℕ, Bool, Result, Ok, sym, ap, ◌∙◌}
use Rattle.pliron_core.specs.Tree.{Tree}
use Rattle.pliron_core.specs.Changes.{IsSameTree}
use Rattle.pliron_core.specs.declared.attrs.IRStatus.TheVariants.{Unchanged}
use Rattle.pliron_laws.specs.declared.fault.OptError.{OptError}
use Rattle.pliron_pass.specs.Answer.{has_changed}
use Rattle.pliron_pass.specs.Stage.{Stage}
use Rattle.pliron_pass.specs.declared.result.PassResult.{PassResult}
use Rattle.pliron_pass_pipeline.specs.Optimising.{RunsOptimisation, RunsOptimisation.Optimised, RunsOptimisation.Refused as Fails, RunsOptimisation.Short as Lacks_room}
use Rattle.pliron_pass_pipeline.specs.declared.optimisation.Effect.{Effect}

pub optimisation_same : {K E : Type 0} (eq : K → K → Bool) (edges : K → Bool) (outcome : Tree → Tree → ℕ → Result Effect OptError → Type 0) (op : ℕ) (s s' : Stage K E) (a : PassResult K) → RunsOptimisation eq edges outcome op s s' (Ok a) → has_changed a ≡ Unchanged → IsSameTree s.tree s'.tree
optimisation_same eq edges outcome op s s' a (Optimised effect b is ran truly changed kept cache common) e =
    let same : b ≡ a = cc in
    truly.same (sym changed ∙ ap has_changed same ∙ e)
optimisation_same eq edges outcome op s s' a (Fails err is ran cache common) e = absurd (cc)
optimisation_same eq edges outcome op s s' a (Lacks_room effect is ran cache common) e = absurd (cc)
